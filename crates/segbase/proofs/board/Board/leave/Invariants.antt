use Rattle.segcore.specs.Words.{leave}
use Rattle.segbase.specs.Spots.{segment_in}
use Rattle.segbase.proofs.board.Board.leave.Given as goal

abbrev pub ghost-add_at : goal.ghost-add_at
ghost-add_at a = leave (segment_in a.spot)
