use Rattle.std.specs.Prelude.{◌-◌}
use Rattle.segevict.proofs.EvictedItems.{EvictingItems}
use Rattle.segevict.proofs.eviction.evict_rows.Given as goal

abbrev pub decreases-loop-row : goal.decreases-loop-row
decreases-loop-row l = l.board.shape.rows - l.row

abbrev pub invariant-loop-row : goal.invariant-loop-row
invariant-loop-row l = EvictingItems l.board l.segment l.from l.row l.evicted l.fn.pass l.pass
