-- The place that comes next along a chain: the next word of the bucket,
-- or word 1 of the one that its last word leads on to.
use Rattle.std.specs.Prelude.{◌≡◌, ◌≢◌, ℕ, ◌+◌, ◌<◌, ◌≤◌, Option, Some, MatchOption}
use Rattle.segword.specs.Words.{chain_word, Shape}
use Rattle.segbase.specs.Words.{Place}

abbrev pub next_word : Place → Place
next_word place = record { bucket = place.bucket; word = place.word + 1 }

abbrev pub first_word : Shape → ℕ → Place
first_word shape number = record { bucket = shape.buckets + number; word = 1 }

-- the overflow bucket that a word leads on to
abbrev pub LeadsTo : Shape → ℕ → Place → Type 0
LeadsTo shape here next =
    (number : ℕ) × (number < 65536) × (here ≡ chain_word number) × (next ≡ first_word shape number)

abbrev pub LeadsNowhere : ℕ → Type 0
LeadsNowhere here = (number : ℕ) → number < 65536 → here ≢ chain_word number

pub record IsNext (shape : Shape) (place : Place) (here : ℕ) (next : Option Place) : Type 0 where
  pub inner : place.word < 7 → next ≡ Some (next_word place)
  pub last : 7 ≤ place.word → MatchOption next (LeadsNowhere here) (LeadsTo shape here)
