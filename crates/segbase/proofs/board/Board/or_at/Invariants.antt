use Rattle.segbase.specs.Ruled.{IsStepOutcome}
use Rattle.segbase.proofs.board.Board.or_at.Given as goal

abbrev pub ghosts-fetch_or : goal.ghosts-fetch_or
ghosts-fetch_or g a = record { then = IsStepOutcome a.self.now.key g.step }
