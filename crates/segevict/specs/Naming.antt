-- The rows of a pass's own segments: which of them items name, and how many.
use Rattle.std.specs.Prelude.{◌≡◌, ◌⊎◌, ℕ, zero, suc, ◌+◌, ◌*◌, ◌<◌, ◌≤◌, Bool, true, false, List, Option, Some, None}
use Rattle.segword.specs.Words.{covers, Shape}
use Rattle.segmodel.specs.Words.{after, Begins, StandsIn}
use Rattle.segcore.specs.Words.{entries, last_at, Mark, RowGone, slot, span_in}
use Rattle.segcore.specs.Mark as mark
use Rattle.segbase.specs.Words.{marked, number, Pass, SinceFirst, trace, used_of}
use Rattle.segevict.specs.Rows.{IsUsedRow}

-- ---- a row

-- a key stands in the segment, and its item names this row
pub record IsNamed (shape : Shape) (segment row : ℕ) (marks : List Mark) : Type 0 where
  pub key : List ℕ
  pub stands : StandsIn (after shape (entries marks)) key segment
  pub last : last_at marks key ≡ Some (slot key segment row)

-- so it was at a moment between these two
pub record WasNamed (shape : Shape) (segment row : ℕ) (old new : List Mark) : Type 0 where
  pub moment : List Mark
  pub from : Begins old moment
  pub to : Begins moment new
  pub named : IsNamed shape segment row moment

-- so it was at a moment after the first step of the call
abbrev pub WasNamedIn : Shape → ℕ → ℕ → Pass → Pass → Type 0
WasNamedIn shape segment row p q =
    SinceFirst p q (λ start. WasNamed shape segment row (mark.marked start) (marked q))

-- The rows of the segment below this one are used, and no item names them.
-- So it stays until the segment is refilled.
abbrev pub AreUnnamed : Shape → ℕ → ℕ → Pass → Type 0
AreUnnamed shape segment from p =
    (row : ℕ) → row < from → IsUsedRow segment row p × ¬ (IsNamed shape segment row (marked p))

-- a search along the chain of the row's key tells it: an item names the row now, or no word does
abbrev pub ReturnsNamed : Shape → ℕ → ℕ → Bool → Pass → Type 0
ReturnsNamed shape segment row true q = IsNamed shape segment row (marked q)
ReturnsNamed shape segment row false q = RowGone shape segment row (trace q)

-- The row is one of an item that was named so. The item's first row is a used one.
abbrev pub WasTaken : Shape → ℕ → ℕ → Pass → Pass → Type 0
WasTaken shape segment row p q =
    (first : ℕ) × IsUsedRow segment first q
    × (covers first (span_in (trace q) segment first) row ≡ true)
    × WasNamedIn shape segment first p q

-- ---- how many

-- of the numbers below one, so many are so, and of the others that is so
abbrev pub Tallies : (ℕ → Type 0) → (ℕ → Type 0) → ℕ → ℕ → Type 0
Tallies IsSo IsNot zero count = count ≡ 0
Tallies IsSo IsNot (suc row) count =
    ((before : ℕ) × (count ≡ before + 1) × Tallies IsSo IsNot row before × IsSo row)
    ⊎ (Tallies IsSo IsNot row count × IsNot row)

-- of the first rows so many were those of named items, each at a moment after the call's first step,
-- and no word names any of the others
abbrev pub FindsNamed : Shape → ℕ → ℕ → ℕ → Pass → Pass → Type 0
FindsNamed shape segment rows count p q =
    Tallies (λ row. WasTaken shape segment row p q)
    (λ row. RowGone shape segment row (trace q)) rows count

-- of the first rows so many were those of named items, each at a moment after the call's first step,
-- and at its end no item names any of the others
abbrev pub AreNamed : Shape → ℕ → ℕ → ℕ → Pass → Pass → Type 0
AreNamed shape segment rows count p q =
    Tallies (λ row. WasTaken shape segment row p q)
    (λ row. ¬ (IsNamed shape segment row (marked q))) rows count

-- ---- in all segments of the pass's own

-- the sum of a number for each number below one
abbrev pub sum_below : (ℕ → ℕ) → ℕ → ℕ
sum_below amount zero = 0
sum_below amount (suc at) = sum_below amount at + amount at

-- it is the sum of a number for each, of which this is so
abbrev pub SumsUp : (ℕ → ℕ → Type 0) → ℕ → ℕ → Type 0
SumsUp Is zero sum = sum ≡ 0
SumsUp Is (suc at) sum =
    (before : ℕ) × (one : ℕ) × (sum ≡ before + one) × SumsUp Is at before × Is at one

abbrev pub or_zero : Option ℕ → ℕ
or_zero None = 0
or_zero (Some rows) = rows

-- one of the segments of the pass's own, and how many rows of it are used
abbrev pub own_at : Shape → Pass → ℕ → ℕ
own_at shape p at = number p * shape.segments_each + at

abbrev pub used_at : Shape → Pass → ℕ → ℕ
used_at shape p at = or_zero (used_of p (own_at shape p at))

-- so many rows of the pass's own segments are used, and so many of these were those of named items
pub record CountsRows (shape : Shape) (used named : ℕ) (p q : Pass) : Type 0 where
  pub sum : used ≡ sum_below (used_at shape p) shape.segments_each
  pub sums : SumsUp (λ at count. AreNamed shape (own_at shape p at) (used_at shape p at) count p q)
      shape.segments_each named
  pub few : named ≤ used
