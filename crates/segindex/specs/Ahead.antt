-- What a look ahead does to the pass that makes it.
use Rattle.std.specs.Prelude.{ℕ}
use Rattle.segbase.specs.Words.{Board, Pass}
use Rattle.segstore.specs.Words.{TakesAtMost}
use Rattle.segindex.specs.Meeting.{OnlyLearns}

-- The pass adds no entry, and keeps all that it kept. The look ahead costs nothing,
-- and takes at most so many steps.
pub record LooksAhead (most : ℕ) (b : Board) (p q : Pass) : Type 0 where
  pub only : OnlyLearns b p q
  pub steps : TakesAtMost most p q
