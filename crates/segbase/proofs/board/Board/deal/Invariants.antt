use Rattle.std.proofs.Common.{◌≡◌, Some, slice_get}
use Rattle.segbase.specs.Words.{Pass}
use Rattle.segbase.specs.Passes.{view}
use Rattle.segbase.specs.Made.{IsDealt}
use Rattle.segbase.proofs.board.Board.deal.Given as goal

abbrev pub invariant-loop-number : goal.invariant-loop-number
invariant-loop-number l = IsDealt l.self l.number l.passes.items × ((p : Pass) → slice_get l.passes.items 0 ≡ Some p → (view p).dealt ≡ l.number)
