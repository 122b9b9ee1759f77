-- How the item of a segment's row moves into another one, step by step.
use Rattle.std.specs.Prelude.{◌≡◌, ◌⊎◌, ℕ, ◌<◌, ◌≤◌, false, List, [], ◌∷◌, ◌++◌, Some, Bool, true}
use Rattle.segmodel.specs.declared.entry.Entry.TheVariants as entry
use Rattle.segmodel.specs.Words.{bucket_of}
use Rattle.segcore.specs.declared.event.Event.TheVariants.{Freed, Relinked, Took}
use Rattle.segcore.specs.Words.{bucket_after, Event, frequency_of, item, row_after, RowGone, slot, span_in}
use Rattle.segword.specs.Words.{Item}
use Rattle.segbase.specs.Words.{AddsEvents, Board, HasStep, number, Pass, trace, used_of}
use Rattle.segbase.specs.Words.{with_own}
use Rattle.segstore.specs.Words.{AddsEntry, AreRows, bounces, ChangesNothing, DrawsNothing, fills, GoesOn}
use Rattle.segstore.specs.Words.{HasCleanBit, Idles, IsBusy, KeepsSegments, memo}
use Rattle.segstore.specs.Words.{ReadsNothing}
use Rattle.segwrite.specs.Words.{more}
use Rattle.segevict.specs.declared.retention.KeepRowAnswer.{KeepRowAnswer}
use Rattle.segevict.specs.declared.retention.KeepRowAnswer.TheVariants as kept
use Rattle.segevict.specs.Frequencies.{WasOften}
use Rattle.segevict.specs.OneRow.{TriesForRow}
use Rattle.segevict.specs.Target.{has_rows_in}
use Rattle.segevict.specs.Tries.{TriesFor}

-- ---- what is seen of a row without the bit

-- By only looks the pass saw that a word names the row,
-- for the key that was stored or moved there.
-- The row's item has a frequency of which this is so.
pub record SeesRow (b : Board) (segment row : ℕ) (IsSo : ℕ → Type 0) (p q : Pass) : Type 0 where
  pub idles : Idles b p q
  pub looks : HasStep p q
  pub key : List ℕ
  pub linked : (row_after (trace q) segment row).linked ≡ Some key
  pub position : ℕ
  pub named : (bucket_after b.shape (trace q) (bucket_of b.shape key)).items position
      ≡ item (slot key segment row)
  pub is : IsSo (frequency_of (trace q) segment row)

-- ---- what is done under the bit

-- The bit of the bucket was taken after this number of tries that found it set.
-- Then the pass added these events, and gave the bit back.
abbrev pub under_bit : ℕ → ℕ → ℕ → List Event → List Event
under_bit pass bucket times own =
    Freed pass bucket false ∷ (own ++ (Took pass bucket ∷ bounces pass bucket times))

-- the rows of the other segment were written with these words, at these places,
-- and the item of the key came to name it
abbrev pub moves : ℕ → List ℕ → ℕ → ℕ → ℕ → ℕ → ℕ → List ℕ × List ℕ → List Event
moves pass key segment row into to position written =
    Relinked pass key segment row into to position ∷ fills pass into to written.0 written.1

-- under the bit: the item was moved to this row, and its rows are counted as used;
-- or nothing was done
abbrev pub MovesItem : Board → ℕ → Item → ℕ → ℕ → Bool → Pass → Pass → Type 0
MovesItem b bucket sought into to true p q =
    (key : List ℕ) × (position : ℕ) × (written : List ℕ × List ℕ)
    × (bucket ≡ bucket_of b.shape key)
    × ((row_after (trace p) sought.seg sought.row).linked ≡ Some key)
    × AddsEvents b (moves (number p) key sought.seg sought.row into to position written) p q
    × (q.plain ≡ with_own into (more (span_in (trace p) sought.seg sought.row)) p.plain)
MovesItem b bucket sought into to false p q = AddsEvents b [] p q × (q.plain ≡ p.plain)

-- The item was moved so, or nothing was done.
-- Then no word names the row, and the pass still has the bit.
pub record MovesRow (b : Board) (bucket : ℕ) (sought : Item) (into to : ℕ) (told : Bool)
    (p q : Pass) : Type 0 where
  pub moves : MovesItem b bucket sought into to told p q
  pub gone : RowGone b.shape sought.seg sought.row (trace q)
  pub bit : HasCleanBit b q bucket
  pub segments : KeepsSegments b q
  pub memo : memo q ≡ memo p

-- ---- a row

-- The row's item is moved.
-- Or the row is passed over: no word names it, its item is below the cutoff,
-- or under the bit no word names it any more. Or too few rows are left for the item.
-- Or the bit of the item's bucket can't be taken.
abbrev pub IsKeptRow : Board → ℕ → ℕ → ℕ → ℕ → KeepRowAnswer → Pass → Pass → Type 0
IsKeptRow b segment row into cutoff kept.Moved p q =
    (f : Pass) × (s : SeesRow b segment row (λ frequency. cutoff ≤ frequency) p f)
    × GoesOn b f q
    × (to : ℕ) × (times : ℕ) × (position : ℕ) × (written : List ℕ × List ℕ)
    × (used_of p into ≡ Some to)
    × AreRows b.shape to (span_in (trace f) segment row)
    × AddsEvents b (under_bit (number f) (bucket_of b.shape s.key) times
    (moves (number f) s.key segment row into to position written)) f q
    × AddsEntry (entry.Moved (number p) s.key segment into) p q
    × (q.plain ≡ with_own into (more (span_in (trace f) segment row)) p.plain)
    × RowGone b.shape segment row (trace q)
    × (times < 64)
IsKeptRow b segment row into cutoff kept.Left p q =
    (Idles b p q × RowGone b.shape segment row (trace q))
    ⊎ ((f : Pass) × SeesRow b segment row (λ frequency. frequency < cutoff) p f × Idles b f q)
    ⊎ ((f : Pass) × (s : SeesRow b segment row (λ frequency. cutoff ≤ frequency) p f) × (times : ℕ)
    × AddsEvents b (under_bit (number f) (bucket_of b.shape s.key) times []) f q
    × ChangesNothing p q × RowGone b.shape segment row (trace q) × (times < 64)
    × (has_rows_in b.shape into (span_in (trace f) segment row) p ≡ true))
IsKeptRow b segment row into cutoff kept.NoRoom p q =
    SeesRow b segment row (λ frequency. cutoff ≤ frequency) p q
    × (has_rows_in b.shape into (span_in (trace q) segment row) p ≡ false)
IsKeptRow b segment row into cutoff kept.Busy p q =
    (f : Pass) × (s : SeesRow b segment row (λ frequency. cutoff ≤ frequency) p f)
    × GoesOn b f q
    × (has_rows_in b.shape into (span_in (trace f) segment row) p ≡ true)
    × ChangesNothing f q
    × IsBusy (bucket_of b.shape s.key) f q
IsKeptRow b segment row into cutoff _ p q = ⊥

-- A row of the segment is gone over.
-- The pass tries for the bit only if the row's item had the cutoff's frequency or a higher one.
pub record KeepsRow (b : Board) (segment row into cutoff : ℕ) (told : KeepRowAnswer) (p q : Pass)
    : Type 0 where
  pub on : GoesOn b p q
  pub memo : memo q ≡ memo p
  pub draws_nothing : DrawsNothing p q
  pub reads_nothing : ReadsNothing p q
  pub tries : TriesFor b.shape (WasOften b.shape segment cutoff p q) 1 p q
  pub tried : TriesForRow b segment row cutoff
      (has_rows_in b.shape into (span_in (trace p) segment row) p) told p q
  pub answer : IsKeptRow b segment row into cutoff told p q
