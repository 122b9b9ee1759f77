use Rattle.std.specs.Prelude.{◌-◌}
use Rattle.segevict.proofs.EvictedItems.{LookingFirst}
use Rattle.segevict.proofs.spans.first_from.Given as goal

abbrev pub decreases-loop-row : goal.decreases-loop-row
decreases-loop-row l = l.board.shape.rows - l.row

abbrev pub invariant-loop-row : goal.invariant-loop-row
invariant-loop-row l = LookingFirst l.board l.segment l.from l.row l.fn.pass l.pass
