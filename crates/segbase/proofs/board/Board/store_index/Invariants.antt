use Rattle.segbase.specs.Ruled.{ReturnsStored}
use Rattle.segbase.proofs.board.Board.store_index.Given as goal

abbrev pub ghosts-store : goal.ghosts-store
ghosts-store g a = record { then = ReturnsStored a.self.now.key g.step }
