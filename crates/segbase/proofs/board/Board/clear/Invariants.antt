use Rattle.segcore.specs.Words.{clear}
use Rattle.segbase.specs.Passes.{trace}
use Rattle.segbase.specs.Spots.{cell_at, position, place_in}
use Rattle.segbase.proofs.board.Board.clear.Given as goal

abbrev pub ghost-exchange_at : goal.ghost-exchange_at
ghost-exchange_at g a = let place = place_in a.spot in clear g.left.0 (position a.self.now.shape (trace a.pass.now) place) (cell_at a.self.now.shape place) a.old g.left.1
