-- What a keep answers: how many items it moved into the current segment, each by one entry.
-- Either what is left was below the cutoff, or something was in the way. And what a keep costs.
use Rattle.std.specs.Prelude.{◌≡◌, ◌≢◌, ◌↔◌, ◌⊎◌, ℕ, zero, suc, ◌+◌, ◌*◌, ◌<◌, ◌≤◌, List, [], ◌∷◌, ◌++◌, length, true, false, Some, None}
use Rattle.segword.specs.Words.{most_rows, Shape}
use Rattle.segmodel.specs.declared.entry.Entry.TheVariants as entry
use Rattle.segmodel.specs.declared.answer.KeepAnswer.{KeepAnswer}
use Rattle.segmodel.specs.declared.answer.KeepAnswer.TheVariants as keep
use Rattle.segmodel.specs.declared.answer.SegState.TheVariants.{InUse}
use Rattle.segmodel.specs.Words.{after, Entry, StandsIn}
use Rattle.segcore.specs.Words.{span_in}
use Rattle.segbase.specs.Words.{Board, mine, number, Pass, seen, state_of, trace, used_of}
use Rattle.segstore.specs.Words.{DrawsNothing, GoesOn, has_room_for, ReadsNothing}
use Rattle.segevict.specs.declared.retention.KeepRowAnswer.{KeepRowAnswer}
use Rattle.segevict.specs.declared.retention.KeepRowAnswer.TheVariants as kept
use Rattle.segevict.specs.Frequencies.{IsOften, WasOften, WasSeldom}
use Rattle.segevict.specs.OneRow.{KeepsItem}
use Rattle.segevict.specs.Rows.{IsUsedRow}
use Rattle.segevict.specs.Target.{IsKeepTarget, UsesRows}
use Rattle.segevict.specs.Tries.{IsInTheWay, TriesFor}

-- ---- rows

-- This number of items uses rows of the segment: no fewer than there are items, and no more than
-- as many of the longest items that the table's limits allow take.
abbrev pub UsesSome : Board → ℕ → ℕ → Pass → Pass → Type 0
UsesSome b into count p q =
    (rows : ℕ) × (count ≤ rows) × (rows ≤ count * most_rows b.limits) × UsesRows into rows p q

-- The current segment has too few rows left for an item of the segment: for as many as word 0 of a
-- used row told when the call began, which is no more than the table's limits allow.
abbrev pub LacksRows : Board → ℕ → Pass → Pass → Type 0
LacksRows b segment p q =
    (row : ℕ) × IsUsedRow segment row p
    × (span_in (trace p) segment row ≤ most_rows b.limits)
    × (has_room_for b.shape (span_in (trace p) segment row) q ≡ false)

-- The current segment has rows enough for an item of the segment: for as many as word 0 of a used
-- row told when the call began.
abbrev pub HasRowsForOne : Shape → ℕ → Pass → Pass → Type 0
HasRowsForOne shape segment p q =
    (row : ℕ) × IsUsedRow segment row p
    × (has_room_for shape (span_in (trace p) segment row) q ≡ true)

-- ---- what is moved

-- each of the entries is a move by the pass from the segment into the other one,
-- of a key of which this is so
abbrev pub AreMoves : ℕ → ℕ → ℕ → (List ℕ → Type 0) → List Entry → Type 0
AreMoves pass segment into IsSo [] = Unit {0}
AreMoves pass segment into IsSo (added ∷ more) =
    ((key : List ℕ) × (added ≡ entry.Moved pass key segment into) × IsSo key)
    × AreMoves pass segment into IsSo more

-- This number of items was moved, each by one entry and into rows of its own.
-- Each had a frequency that was the cutoff or over it at a moment of the call.
pub record MovesItems (b : Board) (segment into cutoff count : ℕ) (p q : Pass) : Type 0 where
  pub moves : List Entry
  pub counted : length moves ≡ count
  pub all : AreMoves (number p) segment into (WasOften b.shape segment cutoff p q) moves
  pub entries : mine q ≡ moves ++ mine p
  pub uses : UsesSome b into count p q

-- each key that stands in the segment then was below the cutoff at a moment of the call
abbrev pub AreSeldom : Shape → ℕ → ℕ → Pass → Pass → Type 0
AreSeldom shape segment cutoff p q = (key : List ℕ)
    → StandsIn (after shape (seen q)) key segment
    → WasSeldom shape segment cutoff p q key

-- ---- the answer

-- this number of items was moved from a segment in use into the current one
abbrev pub MovesAway : Board → ℕ → ℕ → ℕ → Pass → Pass → Type 0
MovesAway b segment cutoff count p q =
    (state_of p segment ≡ Some InUse)
    × ((into : ℕ) × IsKeepTarget segment into p × MovesItems b segment into cutoff count p q)

-- Kept: each key that still stands in the segment was below the cutoff at a moment of the call,
-- or the segment isn't in use, and nothing is moved.
-- NoRoom: there is no segment to move into; or it has too few rows left,
-- and an item of the cutoff's frequency or a higher one is still in the old one.
-- Busy: there are rows, but a bucket was in the way.
-- What was moved stays so, and calling again goes on.
abbrev pub IsKeepAnswer : Board → ℕ → ℕ → KeepAnswer → Pass → Pass → Type 0
IsKeepAnswer b segment cutoff (keep.Kept count) p q =
    (MovesAway b segment cutoff count p q × AreSeldom b.shape segment cutoff p q)
    ⊎ ((state_of p segment ≢ Some InUse) × (count ≡ 0) × (q ≡ p))
IsKeepAnswer b segment cutoff keep.NotYours p q = q ≡ p
IsKeepAnswer b segment cutoff (keep.NoRoom count) p q =
    ((state_of p segment ≡ Some InUse) × ((into : ℕ) → ¬ (IsKeepTarget segment into p))
    × (count ≡ 0) × (q ≡ p))
    ⊎ (MovesAway b segment cutoff count p q × LacksRows b segment p q
    × ((key : List ℕ) × IsOften b.shape segment cutoff q key))
IsKeepAnswer b segment cutoff (keep.Busy count) p q =
    MovesAway b segment cutoff count p q
    × HasRowsForOne b.shape segment p q
    × IsInTheWay b.shape (WasOften b.shape segment cutoff p q) p q

-- ---- rows in their order

-- This number of rows was gone over, from the first on, each by a keep of one row. One behind an
-- item's first row is Left. This number of their items was moved.
abbrev pub GoesOver : Board → ℕ → ℕ → ℕ → ℕ → Pass → Pass → Type 0
GoesOver b segment cutoff zero count p q = (count ≡ 0) × (q ≡ p)
GoesOver b segment cutoff (suc row) count p q =
    (middle : Pass)
    × (((before : ℕ) × (count ≡ before + 1) × GoesOver b segment cutoff row before p middle
    × KeepsItem b segment row cutoff kept.Moved middle q)
    ⊎ (GoesOver b segment cutoff row count p middle
    × KeepsItem b segment row cutoff kept.Left middle q))

-- the rows before one were gone over, and that one has this answer
abbrev pub StopsAt : Board → ℕ → ℕ → KeepRowAnswer → ℕ → Pass → Pass → Type 0
StopsAt b segment cutoff told count p q =
    (row : ℕ) × (used : ℕ)
    × (used_of p segment ≡ Some used)
    × (row < used)
    × (middle : Pass)
    × GoesOver b segment cutoff row count p middle
    × KeepsItem b segment row cutoff told middle q

-- all used rows of the segment are gone over, or those up to one that stops the keep
abbrev pub GoesInOrder : Board → ℕ → ℕ → KeepAnswer → Pass → Pass → Type 0
GoesInOrder b segment cutoff (keep.Kept count) p q =
    (used : ℕ) × (used_of p segment ≡ Some used) × GoesOver b segment cutoff used count p q
GoesInOrder b segment cutoff (keep.NoRoom count) p q =
    StopsAt b segment cutoff kept.NoRoom count p q
GoesInOrder b segment cutoff (keep.Busy count) p q =
    StopsAt b segment cutoff kept.Busy count p q
GoesInOrder b segment cutoff keep.NotYours p q = ⊥

-- ---- what it costs

-- The rows of the segment are gone over in their order.
-- The pass tried for the bits of keys that were read often enough, and of no others.
-- It tried for no more keys than the segment has used rows.
-- It draws no overflow bucket, and does nothing of what readers do.
pub record CostsOfKeep (b : Board) (segment cutoff : ℕ) (told : KeepAnswer) (p q : Pass)
    : Type 0 where
  pub order : (into : ℕ)
      → state_of p segment ≡ Some InUse
      → IsKeepTarget segment into p
      → GoesInOrder b segment cutoff told p q
  pub tries : (rows : ℕ)
      → used_of p segment ≡ Some rows
      → TriesFor b.shape (WasOften b.shape segment cutoff p q) rows p q
  pub draws_nothing : DrawsNothing p q
  pub reads_nothing : ReadsNothing p q

-- a keep has this answer, which is NotYours exactly if the segment isn't one of the pass's own
pub record KeepsItems (b : Board) (segment cutoff : ℕ) (told : KeepAnswer) (p q : Pass)
    : Type 0 where
  pub on : GoesOn b p q
  pub answer : IsKeepAnswer b segment cutoff told p q
  pub not_yours : (told ≡ keep.NotYours) ↔ (state_of p segment ≡ None)
  pub costs : CostsOfKeep b segment cutoff told p q
