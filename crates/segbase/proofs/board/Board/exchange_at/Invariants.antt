use Rattle.segbase.specs.Ruled.{IsStepOutcome}
use Rattle.segbase.proofs.board.Board.exchange_at.Given as goal

abbrev pub ghosts-compare_exchange : goal.ghosts-compare_exchange
ghosts-compare_exchange g a = record { then = IsStepOutcome a.self.now.key g.step }
