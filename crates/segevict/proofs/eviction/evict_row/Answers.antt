use Rattle.std.proofs.Common.{rules, refl, arith}
use Rattle.segevict.proofs.EvictedRow.{out_not_used, out_not_yours, row_out}
use Rattle.segevict.proofs.eviction.evict_row.Goals as goal

pub returns-then-is_none : goal.returns-then-is_none
returns-then-is_none c = record {
  evicts = out_not_yours c.args.board.now c.args.segment c.args.row c.args.pass.now c.requires.quiet (search rules);
}

pub returns-then-not-has_row : goal.returns-then-not-has_row
returns-then-not-has_row c = record {
  evicts = out_not_used c.args.board.now c.args.segment c.args.row c.args.pass.now c.requires.quiet (search rules) (c.if-not-has_row.ensures.no refl);
}

pub returns : goal.returns
returns c = record {
  evicts = row_out c.args.board.now c.args.segment c.args.row c.evict_used_row.result c.args.pass.now
      c.evict_used_row.new.pass (c.if-not-has_row.ensures.yes refl) c.evict_used_row.ensures.evicts
      (let few = c.evict_used_row.ensures.steps in omega (arith, few));
}
