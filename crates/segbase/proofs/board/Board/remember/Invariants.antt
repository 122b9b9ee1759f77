use Rattle.segbase.specs.Ruled.{minding, witness}
use Rattle.segbase.proofs.board.Board.remember.Given as goal

abbrev pub ghosts-split_seat : goal.ghosts-split_seat
ghosts-split_seat g a = record { left = minding g.memo; right = witness }
