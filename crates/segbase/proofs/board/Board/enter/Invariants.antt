use Rattle.segcore.specs.Words.{enter}
use Rattle.segbase.specs.Spots.{segment_in}
use Rattle.segbase.proofs.board.Board.enter.Given as goal

abbrev pub ghost-add_at : goal.ghost-add_at
ghost-add_at a = enter (segment_in a.spot)
