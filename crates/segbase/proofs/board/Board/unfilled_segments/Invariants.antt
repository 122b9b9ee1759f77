use Rattle.std.proofs.Common.{◌≡◌, replicate}
use Rattle.segbase.specs.Made.{unfilled}
use Rattle.segbase.proofs.board.Board.unfilled_segments.Given as goal

abbrev pub invariant-loop : goal.invariant-loop
invariant-loop l = l.segments.items ≡ replicate l.counter unfilled
