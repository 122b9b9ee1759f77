use Rattle.std.specs.Prelude.{◌-◌}
use Rattle.segevict.proofs.NamedItems.{CountingItems}
use Rattle.segevict.proofs.named.named_rows.Given as goal

abbrev pub decreases-loop-row : goal.decreases-loop-row
decreases-loop-row l = l.board.shape.rows - l.row

abbrev pub invariant-loop-row : goal.invariant-loop-row
invariant-loop-row l = CountingItems l.board l.segment l.row l.named l.fn.pass l.pass
