-- How many rows an item takes, as a call tells it by its first row, and which rows are first.
use Rattle.std.specs.Prelude.{◌≡◌, ℕ, zero, suc, ◌+◌, ◌≤◌, List}
use Rattle.segcore.specs.Words.{Event, span_in}
use Rattle.segbase.specs.Words.{Board, Pass, trace}
use Rattle.segstore.specs.Words.{Idles, TakesAtMost}
use Rattle.segevict.specs.Rows.{HasRow}

-- The pass only looked, by one step at most. Of a used row of a segment in use the number is what
-- word 0 tells. For any other row it is 1, and the pass did nothing.
abbrev pub TellsSpan : Board → ℕ → ℕ → ℕ → Pass → Pass → Type 0
TellsSpan b segment row told p q =
    Idles b p q × (1 ≤ told) × (HasRow segment row p → told ≡ span_in (trace q) segment row)
    × TakesAtMost 1 p q
    × (¬ (HasRow segment row p) → (told ≡ 1) × (q ≡ p))

-- The first row of an item of a segment, by how many items are before it.
-- Behind the last item it is the first row that isn't used.
abbrev pub first_row : List Event → ℕ → ℕ → ℕ
first_row trace segment zero = 0
first_row trace segment (suc before) =
    first_row trace segment before + span_in trace segment (first_row trace segment before)

abbrev pub IsFirstRow : List Event → ℕ → ℕ → Type 0
IsFirstRow trace segment row = (before : ℕ) × (first_row trace segment before ≡ row)
