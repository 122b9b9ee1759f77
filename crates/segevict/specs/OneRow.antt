-- What a keep of one row answers: what became of the row's item, or what was in the way.
use Rattle.std.specs.Prelude.{◌≡◌, ◌↔◌, ◌⊎◌, ℕ, ◌<◌, ◌≤◌, List, ◌∷◌, Bool, true, false, None, IsSome, Some}
use Rattle.segword.specs.Words.{Shape}
use Rattle.segmodel.specs.declared.entry.Entry.TheVariants as entry
use Rattle.segmodel.specs.Words.{Begins, bucket_of}
use Rattle.segcore.specs.Mark.{at, enters}
use Rattle.segcore.specs.Mark as mark
use Rattle.segcore.specs.Words.{frequency_in, Mark, span_in}
use Rattle.segbase.specs.Words.{Board, HasStep, marked, mine, number, Pass, SinceFirst}
use Rattle.segbase.specs.Words.{state_of, trace, used_of}
use Rattle.segstore.specs.Words.{AreRows, ChangesNothing, DrawsNothing, GoesOn, has_room_for}
use Rattle.segstore.specs.Words.{IsBusy, ReadsNothing, TakesAtMost, TakesNoBit, TakesOneBit}
use Rattle.segevict.specs.declared.retention.KeepRowAnswer.{KeepRowAnswer}
use Rattle.segevict.specs.declared.retention.KeepRowAnswer.TheVariants as kept
use Rattle.segevict.specs.Frequencies.{HadFrequency, HadThen}
use Rattle.segevict.specs.Naming.{IsNamed}
use Rattle.segevict.specs.Rows.{HasRow}
use Rattle.segevict.specs.Steps.{most_steps_of_keep_row}
use Rattle.segevict.specs.Target.{has_rows_in, IsKeepTarget, IsMoveTarget, UsesRows}
use Rattle.segevict.specs.Tries.{IsInTheWay}

-- At a moment after the call's first step the key's item named the row,
-- and its frequency was the cutoff or over it.
-- Later it came to name the next row of the other segment, by one entry.
-- As many rows as the item takes are left there from that one on.
-- It has the frequency that it had just before. No item names the row any more.
pub record CarriesItem (shape : Shape) (segment row cutoff into : ℕ) (p q : Pass) (key : List ℕ)
    : Type 0 where
  pub before : List Mark
  pub often : SinceFirst p q (λ start.
      HadFrequency shape segment row (λ frequency. cutoff ≤ frequency) (mark.marked start) before
      key)
  pub to : ℕ
  pub next : used_of p into ≡ Some to
  pub fits : AreRows shape to (span_in (trace p) segment row)
  pub position : ℕ
  pub comes : Begins (enters (entry.Moved (number p) key segment into)
      ∷ at key into to position (frequency_in before segment row) ∷ before) (marked q)
  pub entries : mine q ≡ entry.Moved (number p) key segment into ∷ mine p
  pub left : ¬ (IsNamed shape segment row (marked q))

-- What a keep of one row does that can move items into segments of which this is so.
-- There the pass has rows left for the row's item or not.
-- Moved: the row named an item of the cutoff's frequency or a higher one,
-- and by one entry the item came to name a new row of the other segment.
-- Left: no item names the row, or its item was below the cutoff at a moment of the call.
-- NoRoom: there is no segment to move into;
-- or by a look of the call the item is still there, and too few rows are left for it.
-- Busy: there are rows, but the item's bucket was in the way.
abbrev pub KeepsTo : Shape → ℕ → ℕ → ℕ → (ℕ → Type 0) → Bool → KeepRowAnswer → Pass → Pass → Type 0
KeepsTo shape segment row cutoff IsTarget room kept.Moved p q =
    (into : ℕ) × IsTarget into × UsesRows into (span_in (trace p) segment row) p q
    × ((key : List ℕ) × CarriesItem shape segment row cutoff into p q key)
KeepsTo shape segment row cutoff IsTarget room kept.Left p q =
    (into : ℕ) × IsTarget into × ChangesNothing p q
    × (¬ (IsNamed shape segment row (marked q))
    ⊎ ((key : List ℕ) × HadThen shape segment row (λ frequency. frequency < cutoff) p q key))
KeepsTo shape segment row cutoff IsTarget room kept.NoRoom p q =
    (((into : ℕ) → ¬ (IsTarget into)) × (q ≡ p))
    ⊎ ((into : ℕ) × IsTarget into × ChangesNothing p q
    × (room ≡ false)
    × ((key : List ℕ)
    × HadFrequency shape segment row (λ frequency. cutoff ≤ frequency) (marked q) (marked q) key)
    × HasStep p q)
KeepsTo shape segment row cutoff IsTarget room kept.Busy p q =
    (into : ℕ) × IsTarget into × ChangesNothing p q
    × (room ≡ true)
    × IsInTheWay shape (HadThen shape segment row (λ frequency. cutoff ≤ frequency) p q) p q
KeepsTo shape segment row cutoff IsTarget room kept.NotYours p q = q ≡ p
KeepsTo shape segment row cutoff IsTarget room kept.NotUsed p q = q ≡ p

-- it moves items into the current segment
abbrev pub IsKeepRowAnswer : Shape → ℕ → ℕ → ℕ → KeepRowAnswer → Pass → Pass → Type 0
IsKeepRowAnswer shape segment row cutoff told p q =
    KeepsTo shape segment row cutoff (λ into. IsKeepTarget segment into p)
    (has_room_for shape (span_in (trace p) segment row) q) told p q

-- it moves items into only this segment
abbrev pub IsKeepRowIntoAnswer : Shape → ℕ → ℕ → ℕ → ℕ → KeepRowAnswer → Pass → Pass → Type 0
IsKeepRowIntoAnswer shape segment row cutoff into told p q =
    KeepsTo shape segment row cutoff (λ other. (other ≡ into) × IsMoveTarget segment into p)
    (has_rows_in shape into (span_in (trace p) segment row) q) told p q

-- ---- what it costs

-- By looks, without a bit, the pass saw that the row's item had the cutoff's frequency
-- or a higher one. Then it did this, with the bit of the bucket of the item's key.
abbrev pub AfterLooks : Board → ℕ → ℕ → ℕ → (ℕ → Pass → Pass → Type 0) → Pass → Pass → Type 0
AfterLooks b segment row cutoff Does p q =
    (key : List ℕ) × (seen : Pass)
    × GoesOn b p seen
    × HadThen b.shape segment row (λ frequency. cutoff ≤ frequency) p seen key
    × TakesNoBit p seen
    × GoesOn b seen q
    × Does (bucket_of b.shape key) seen q

-- The pass tries for a bit only after such looks, and only if there are rows to move into.
-- If it took the bit and left the row, no item names the row any more.
abbrev pub TriesForRow : Board → ℕ → ℕ → ℕ → Bool → KeepRowAnswer → Pass → Pass → Type 0
TriesForRow b segment row cutoff room kept.Moved p q =
    AfterLooks b segment row cutoff TakesOneBit p q
TriesForRow b segment row cutoff room kept.Left p q =
    TakesNoBit p q
    ⊎ (AfterLooks b segment row cutoff TakesOneBit p q
    × (room ≡ true) × ¬ (IsNamed b.shape segment row (marked q)))
TriesForRow b segment row cutoff room kept.Busy p q = AfterLooks b segment row cutoff IsBusy p q
TriesForRow b segment row cutoff room _ p q = TakesNoBit p q

-- The pass tried for one bit at most.
-- It draws no overflow bucket, and does nothing of what readers do.
pub record CostsOfKeepRow (b : Board) (segment row cutoff : ℕ) (room : Bool) (told : KeepRowAnswer)
    (p q : Pass) : Type 0 where
  pub tries : TriesForRow b segment row cutoff room told p q
  pub steps : TakesAtMost (most_steps_of_keep_row told) p q
  pub draws_nothing : DrawsNothing p q
  pub reads_nothing : ReadsNothing p q

-- A keep of one row has this answer. It is NotYours exactly if the segment isn't one of the
-- pass's own, and else NotUsed exactly if the segment isn't in use or the row isn't used.
pub record KeepsItem (b : Board) (segment row cutoff : ℕ) (told : KeepRowAnswer) (p q : Pass)
    : Type 0 where
  pub on : GoesOn b p q
  pub answer : IsKeepRowAnswer b.shape segment row cutoff told p q
  pub not_yours : (told ≡ kept.NotYours) ↔ (state_of p segment ≡ None)
  pub not_used : (told ≡ kept.NotUsed)
      ↔ (IsSome (state_of p segment) × ¬ (HasRow segment row p))
  pub costs : CostsOfKeepRow b segment row cutoff
      (has_room_for b.shape (span_in (trace p) segment row) p) told p q

-- A keep of one row into this segment has this answer.
-- It is NotYours and NotUsed exactly where a keep of one row is.
pub record KeepsItemInto (b : Board) (segment row cutoff into : ℕ) (told : KeepRowAnswer)
    (p q : Pass) : Type 0 where
  pub on : GoesOn b p q
  pub answer : IsKeepRowIntoAnswer b.shape segment row cutoff into told p q
  pub not_yours : (told ≡ kept.NotYours) ↔ (state_of p segment ≡ None)
  pub not_used : (told ≡ kept.NotUsed)
      ↔ (IsSome (state_of p segment) × ¬ (HasRow segment row p))
  pub costs : CostsOfKeepRow b segment row cutoff
      (has_rows_in b.shape into (span_in (trace p) segment row) p) told p q
