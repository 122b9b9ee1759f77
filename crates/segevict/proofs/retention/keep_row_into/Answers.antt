use Rattle.std.proofs.Common.{rules, refl, arith}
use Rattle.segevict.proofs.OneRow.{into_no_target, into_not_used, into_not_yours, row_answered_into}
use Rattle.segevict.proofs.retention.keep_row_into.Goals as goal

pub returns-then-is_none : goal.returns-then-is_none
returns-then-is_none c = let r = c.args.row in record {
  keeps = into_not_yours c.args.board.now r.segment r.row c.args.cutoff c.args.pass.now c.requires.quiet c.args.into (search rules);
}

pub returns-then-not-has_row : goal.returns-then-not-has_row
returns-then-not-has_row c = let r = c.args.row in record {
  keeps = into_not_used c.args.board.now r.segment r.row c.args.cutoff c.args.pass.now c.requires.quiet c.args.into (search rules) (c.if-not-has_row.ensures.no refl);
}

pub returns-then-not-is_move_target : goal.returns-then-not-is_move_target
returns-then-not-is_move_target c = let r = c.args.row in record {
  keeps = into_no_target c.args.board.now r.segment r.row c.args.cutoff c.args.pass.now c.requires.quiet c.args.into (c.if-not-has_row.ensures.yes refl) (c.if-not-is_move_target.ensures.no refl);
}

pub returns : goal.returns
returns c = let r = c.args.row in record {
  keeps = row_answered_into c.args.board.now r.segment r.row c.args.into c.args.cutoff c.args.pass.now c.keep_used_row.new.pass c.requires.quiet (c.if-not-has_row.ensures.yes refl)
      (c.if-not-is_move_target.ensures.yes refl) c.keep_used_row.result c.keep_used_row.ensures.keeps (let few = c.keep_used_row.ensures.steps in omega (arith, few));
}
