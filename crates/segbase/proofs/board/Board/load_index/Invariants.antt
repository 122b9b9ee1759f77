use Rattle.segbase.specs.Ruled.{IsStepOutcome}
use Rattle.segbase.proofs.board.Board.load_index.Given as goal

abbrev pub ghosts-load : goal.ghosts-load
ghosts-load g a = record { then = IsStepOutcome a.self.now.key g.step }
