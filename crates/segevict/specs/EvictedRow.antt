-- What an evict of one row answers: what became of the row's key, or what was in the way.
use Rattle.std.specs.Prelude.{◌≡◌, ◌↔◌, ℕ, List, Some, None, IsSome}
use Rattle.segword.specs.Words.{Shape}
use Rattle.segmodel.specs.declared.entry.Entry.TheVariants as entry
use Rattle.segcore.specs.Words.{linked_in}
use Rattle.segbase.specs.Words.{Board, marked, number, Pass, state_of}
use Rattle.segstore.specs.Words.{AddsEntry, ChangesNothing, DrawsNothing, GoesOn, memo}
use Rattle.segstore.specs.Words.{ReadsNothing, TakesAtMost}
use Rattle.segevict.specs.declared.eviction.EvictRowAnswer.{EvictRowAnswer}
use Rattle.segevict.specs.declared.eviction.EvictRowAnswer.TheVariants as evict_row
use Rattle.segevict.specs.Naming.{IsNamed}
use Rattle.segevict.specs.Rows.{HasRow}
use Rattle.segevict.specs.Steps.{most_steps_of_evict_row}
use Rattle.segevict.specs.Tries.{IsInTheWay, StoodAtRow, TriesFor}

-- The key that was stored in the row, or moved there, was taken out of the segment by one entry.
-- What the pass keeps of its segments, its lock and its hold is as it was.
pub record TakesKeyOut (segment row : ℕ) (p q : Pass) : Type 0 where
  pub key : List ℕ
  pub linked : linked_in (marked p) segment row ≡ Some key
  pub entry : AddsEntry (entry.Evicted (number p) key segment) p q
  pub plain : q.plain ≡ p.plain
  pub memo : memo q ≡ memo p

-- Evicted, Left: the row's key was taken out, or nothing was done; no item names the row any more.
-- Busy: the bucket of the row's key was in the way.
abbrev pub IsEvictRowAnswer : Shape → ℕ → ℕ → EvictRowAnswer → Pass → Pass → Type 0
IsEvictRowAnswer shape segment row evict_row.Evicted p q =
    TakesKeyOut segment row p q × ¬ (IsNamed shape segment row (marked q))
IsEvictRowAnswer shape segment row evict_row.Left p q =
    ChangesNothing p q × ¬ (IsNamed shape segment row (marked q))
IsEvictRowAnswer shape segment row evict_row.Busy p q =
    ChangesNothing p q × IsInTheWay shape (StoodAtRow shape segment row p q) p q
IsEvictRowAnswer shape segment row evict_row.NotYours p q = q ≡ p
IsEvictRowAnswer shape segment row evict_row.NotUsed p q = q ≡ p

-- The pass tries for a bit only for the row's key, and only once.
-- It draws no overflow bucket, and does nothing of what readers do.
pub record CostsOfEvictRow (b : Board) (segment row : ℕ) (told : EvictRowAnswer) (p q : Pass)
    : Type 0 where
  pub tries : TriesFor b.shape (StoodAtRow b.shape segment row p q) 1 p q
  pub steps : TakesAtMost (most_steps_of_evict_row told) p q
  pub draws_nothing : DrawsNothing p q
  pub reads_nothing : ReadsNothing p q

-- An evict of one row has this answer. It is NotYours exactly if the segment isn't one of the
-- pass's own, and else NotUsed exactly if the segment isn't in use or the row isn't used.
pub record EvictsItem (b : Board) (segment row : ℕ) (told : EvictRowAnswer) (p q : Pass)
    : Type 0 where
  pub on : GoesOn b p q
  pub answer : IsEvictRowAnswer b.shape segment row told p q
  pub not_yours : (told ≡ evict_row.NotYours) ↔ (state_of p segment ≡ None)
  pub not_used : (told ≡ evict_row.NotUsed)
      ↔ (IsSome (state_of p segment) × ¬ (HasRow segment row p))
  pub costs : CostsOfEvictRow b segment row told p q
