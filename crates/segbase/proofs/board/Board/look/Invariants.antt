use Rattle.segcore.specs.Words.{look}
use Rattle.segbase.specs.Spots.{cell_at, place_in}
use Rattle.segbase.proofs.board.Board.look.Given as goal

abbrev pub ghost-load_at : goal.ghost-load_at
ghost-load_at a = look (cell_at a.self.now.shape (place_in a.spot))
