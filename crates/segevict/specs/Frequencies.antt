-- The frequency of a row's item at a moment of a call.
use Rattle.std.specs.Prelude.{◌≡◌, ℕ, ◌<◌, ◌≤◌, List, Some}
use Rattle.segword.specs.Words.{Shape}
use Rattle.segmodel.specs.Words.{after, Begins, StandsIn}
use Rattle.segcore.specs.Words.{entries, frequency_in, last_at, Mark, slot}
use Rattle.segcore.specs.Mark as mark
use Rattle.segbase.specs.Words.{marked, Pass, SinceFirst}

-- At a moment between these two the key stood in the segment.
-- The key's item named this row there, and had a frequency of which this is so.
pub record HadFrequency (shape : Shape) (segment row : ℕ) (IsSo : ℕ → Type 0)
    (old new : List Mark) (key : List ℕ) : Type 0 where
  pub moment : List Mark
  pub from : Begins old moment
  pub to : Begins moment new
  pub stood : StandsIn (after shape (entries moment)) key segment
  pub last : last_at moment key ≡ Some (slot key segment row)
  pub is : IsSo (frequency_in moment segment row)

-- so it was at a moment after the first step of the call
abbrev pub HadThen : Shape → ℕ → ℕ → (ℕ → Type 0) → Pass → Pass → List ℕ → Type 0
HadThen shape segment row IsSo p q key =
    SinceFirst p q (λ start.
    HadFrequency shape segment row IsSo (mark.marked start) (marked q) key)

-- at such a moment the key's item was in the segment, in whichever row,
-- and its frequency was the cutoff or over it
abbrev pub WasOften : Shape → ℕ → ℕ → Pass → Pass → List ℕ → Type 0
WasOften shape segment cutoff p q key =
    (row : ℕ) × HadThen shape segment row (λ frequency. cutoff ≤ frequency) p q key

-- at such a moment it was there, and its frequency was below the cutoff
abbrev pub WasSeldom : Shape → ℕ → ℕ → Pass → Pass → List ℕ → Type 0
WasSeldom shape segment cutoff p q key =
    (row : ℕ) × HadThen shape segment row (λ frequency. frequency < cutoff) p q key

-- at the return the key's item is in the segment, and its frequency is the cutoff or over it
abbrev pub IsOften : Shape → ℕ → ℕ → Pass → List ℕ → Type 0
IsOften shape segment cutoff q key =
    (row : ℕ)
    × HadFrequency shape segment row (λ frequency. cutoff ≤ frequency) (marked q) (marked q) key
