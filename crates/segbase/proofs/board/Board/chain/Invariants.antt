use Rattle.segcore.specs.Words.{chain}
use Rattle.segbase.specs.Passes.{trace}
use Rattle.segbase.specs.Spots.{cell_at, home_bucket}
use Rattle.segbase.proofs.board.Board.chain.Given as goal

abbrev pub ghost-put_chain : goal.ghost-put_chain
ghost-put_chain a = chain (home_bucket a.self.now.shape (trace a.pass.now) a.place) (cell_at a.self.now.shape a.place) a.old a.overflow
