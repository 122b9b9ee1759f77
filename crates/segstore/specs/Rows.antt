-- What the writing of a row adds to a trace, and what the row holds then.
use Rattle.std.specs.Prelude.{ℕ, List, [], ◌∷◌, slice_index}
use Rattle.segcore.specs.Words.{Event, Holds, Row}
use Rattle.segcore.specs.declared.event.Event.TheVariants.{Filled}
use Rattle.segword.specs.Words.{IsKey, IsValue, place_behind, row_behind, row_of}
use Rattle.segbase.specs.Words.{AddsEvents, Board, number, Pass}

-- the pass stored words into these places of the item that begins in the row, the last place first
unfoldable pub fills : ℕ → ℕ → ℕ → List ℕ → List ℕ → List Event
fills pass segment row words [] = []
fills pass segment row words (place ∷ places) =
    Filled pass segment (row_behind row place) (place_behind place) (slice_index words place)
    ∷ fills pass segment row words places

-- the pass stored some of these words into the row, and did nothing else
abbrev pub StoresRow : Board → ℕ → ℕ → List ℕ → Pass → Pass → Type 0
StoresRow b segment row words p q =
    (places : List ℕ) × AddsEvents b (fills (number p) segment row words places) p q

-- the pass stored words of the pair into the row
abbrev pub FillsRow : Board → ℕ → ℕ → List ℕ → List ℕ → Pass → Pass → Type 0
FillsRow b segment row key value p q = StoresRow b segment row (row_of key value) p q

-- the second row holds each key and value that the first one holds
abbrev pub HoldsAlso : Row → Row → Type 0
HoldsAlso row other =
    (key value : List ℕ)
    → IsKey key
    → IsValue value
    → Holds row key value
    → Holds other key value
