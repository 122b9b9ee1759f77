use Rattle.std.proofs.Common.{◌-◌}
use Rattle.segwrite.proofs.Drawing.{Drawing}
use Rattle.segwrite.proofs.grow.draw.Given as goal

abbrev pub invariant-loop-from : goal.invariant-loop-from
invariant-loop-from l = Drawing l.board l.from l.fn.pass l.pass

abbrev pub decreases-loop-from : goal.decreases-loop-from
decreases-loop-from l = l.board.shape.overflow - l.from
