use Rattle.segbase.specs.Ruled.{IsStepOutcome}
use Rattle.segbase.proofs.board.Board.add_at.Given as goal

abbrev pub ghosts-fetch_add : goal.ghosts-fetch_add
ghosts-fetch_add g a = record { then = IsStepOutcome a.self.now.key g.step }
