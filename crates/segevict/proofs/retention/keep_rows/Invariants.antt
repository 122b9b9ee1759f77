use Rattle.std.specs.Prelude.{◌-◌}
use Rattle.segevict.proofs.KeptItems.{KeepingItems}
use Rattle.segevict.proofs.retention.keep_rows.Given as goal

abbrev pub invariant-loop-row : goal.invariant-loop-row
invariant-loop-row l = KeepingItems l.board l.segment l.into l.cutoff l.row l.kept l.fn.pass l.pass

abbrev pub decreases-loop-row : goal.decreases-loop-row
decreases-loop-row l = l.board.shape.rows - l.row
