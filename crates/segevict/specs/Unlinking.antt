-- How the keys that were stored in a segment's rows leave their words.
use Rattle.std.specs.Prelude.{◌≡◌, ℕ, Bool, true, false, List, [], ◌∷◌, Some}
use Rattle.segword.specs.Words.{Item}
use Rattle.segmodel.specs.declared.entry.Entry.TheVariants as entry
use Rattle.segmodel.specs.Words.{bucket_of}
use Rattle.segcore.specs.declared.event.Event.TheVariants.{Unlinked}
use Rattle.segcore.specs.Words.{linked_in, row_after, RowGone}
use Rattle.segcore.specs.declared.event.Leaving.TheVariants.{Evicts}
use Rattle.segbase.specs.Words.{AddsEvents, Board, marked, mine, number, Pass, trace}
use Rattle.segevict.specs.declared.eviction.EvictRowAnswer.{EvictRowAnswer}
use Rattle.segevict.specs.declared.eviction.EvictRowAnswer.TheVariants as evict_row
use Rattle.segstore.specs.Words.{DrawsNothing, GoesOn, HasCleanBit, memo, ReadsNothing}
use Rattle.segevict.specs.Rows.{KeepsGone}
use Rattle.segevict.specs.Tries.{IsInTheWay, StoodAtRow, TriesFor}

-- ---- the key goes

-- the word was cleared, which took the row's key out of the segment; or there was no such word
abbrev pub TakesKey : Board → ℕ → Item → Bool → Pass → Pass → Type 0
TakesKey b bucket item true p q =
    (key : List ℕ) × (at : ℕ)
    × (bucket ≡ bucket_of b.shape key)
    × AddsEvents b (Unlinked (number p) key at (Evicts item.seg) ∷ []) p q
    × ((row_after (trace q) item.seg item.row).linked ≡ Some key)
TakesKey b bucket item false p q = AddsEvents b [] p q

-- Under the bit, which the pass still has, the key was taken out, or there was no word of it.
-- No word names the row any more.
pub record TakesRow (b : Board) (bucket : ℕ) (item : Item) (told : Bool) (p q : Pass) : Type 0 where
  pub takes : TakesKey b bucket item told p q
  pub gone : RowGone b.shape item.seg item.row (trace q)
  pub bit : HasCleanBit b q bucket

-- ---- a row

abbrev pub IsRowAnswer : Board → ℕ → ℕ → EvictRowAnswer → Pass → Pass → Type 0
IsRowAnswer b segment row evict_row.Evicted p q =
    KeepsGone b segment p q
    × RowGone b.shape segment row (trace q)
    × ((key : List ℕ)
    × (linked_in (marked p) segment row ≡ Some key)
    × (mine q ≡ entry.Evicted (number p) key segment ∷ mine p))
IsRowAnswer b segment row evict_row.Left p q =
    KeepsGone b segment p q × RowGone b.shape segment row (trace q) × (mine q ≡ mine p)
IsRowAnswer b segment row evict_row.Busy p q =
    (mine q ≡ mine p) × IsInTheWay b.shape (StoodAtRow b.shape segment row p q) p q
IsRowAnswer b segment row _ p q = ⊥

-- The key of a row is taken out, or gone already, or the bit of its bucket can't be taken.
-- The pass tries for a bit only for that key, and only once.
pub record EvictsRow (b : Board) (segment row : ℕ) (told : EvictRowAnswer) (p q : Pass)
    : Type 0 where
  pub on : GoesOn b p q
  pub plain : q.plain ≡ p.plain
  pub memo : memo q ≡ memo p
  pub draws_nothing : DrawsNothing p q
  pub reads_nothing : ReadsNothing p q
  pub tries : TriesFor b.shape (StoodAtRow b.shape segment row p q) 1 p q
  pub answer : IsRowAnswer b segment row told p q
