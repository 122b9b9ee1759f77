use Rattle.std.proofs.Common.{rules, refl, arith}
use Rattle.segevict.proofs.OneRow.{row_answered, row_no_target, row_not_used, row_not_yours}
use Rattle.segevict.proofs.retention.keep_row.Goals as goal

pub returns-then-is_none : goal.returns-then-is_none
returns-then-is_none c = record {
  keeps = row_not_yours c.args.board.now c.args.segment c.args.row c.args.cutoff c.args.pass.now c.requires.quiet (search rules);
}

pub returns-then-not-has_row : goal.returns-then-not-has_row
returns-then-not-has_row c = record {
  keeps = row_not_used c.args.board.now c.args.segment c.args.row c.args.cutoff c.args.pass.now c.requires.quiet (search rules) (c.if-not-has_row.ensures.no refl);
}

pub returns-in-Some : goal.returns-in-Some
returns-in-Some c = record {
  keeps = row_answered c.args.board.now c.args.segment c.args.row c.in-Some.into c.args.cutoff c.args.pass.now
      c.keep_used_row.new.pass c.requires.quiet (c.if-not-has_row.ensures.yes refl) c.in-Some.ensures.target
      c.keep_used_row.result c.keep_used_row.ensures.keeps (let few = c.keep_used_row.ensures.steps in omega (arith, few));
}

pub returns-in-None : goal.returns-in-None
returns-in-None c = record {
  keeps = row_no_target c.args.board.now c.args.segment c.args.row c.args.cutoff c.args.pass.now c.requires.quiet (c.if-not-has_row.ensures.yes refl) c.in-None.ensures.target;
}
