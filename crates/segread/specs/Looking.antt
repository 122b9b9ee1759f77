-- The first step of a reader: a look at a word of the key's chain.
use Rattle.std.specs.Prelude.{◌≡◌, ◌∷◌}
use Rattle.segbase.specs.Words.{Board, looks, Pass, trace}
use Rattle.segstore.specs.Words.{OnlyLooks}

-- by its first step, a look, the pass came to this
pub record LooksFirst (b : Board) (p first : Pass) : Type 0 where
  pub look : OnlyLooks b p first
  pub saw : looks first ≡ trace first ∷ looks p

-- the call begins with a look, and from the pass right after that on this is so
abbrev pub AfterLook : Board → Pass → (Pass → Type 0) → Type 0
AfterLook b p Is = (first : Pass) × LooksFirst b p first × Is first
