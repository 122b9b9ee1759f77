-- What an evict answers: how many keys it took out of the segment, each by one entry.
-- Either no key stands there then, or the bucket of one was in the way. And what an evict costs.
use Rattle.std.specs.Prelude.{◌≡◌, ◌≢◌, ◌↔◌, ◌⊎◌, ℕ, zero, suc, ◌+◌, ◌<◌, ◌≤◌, List, [], ◌∷◌, ◌++◌, length, Some, None}
use Rattle.segword.specs.Words.{Shape}
use Rattle.segmodel.specs.declared.entry.Entry.TheVariants as entry
use Rattle.segmodel.specs.declared.answer.EvictAnswer.TheVariants as evict
use Rattle.segmodel.specs.declared.answer.SegState.TheVariants.{InUse, Evicted}
use Rattle.segmodel.specs.Words.{after, but_for, Entry, EvictAnswer, NoneStandsIn}
use Rattle.segbase.specs.declared.pass.PlainPart.{PlainPart}
use Rattle.segbase.specs.Words.{Board, mine, number, Pass, seen, state_of}
use Rattle.segbase.specs.Words.{used_of, with_current, with_state}
use Rattle.segstore.specs.Words.{DrawsNothing, GoesOn, Idles, memo, ReadsNothing, TakesAtMost}
use Rattle.segevict.specs.declared.eviction.EvictRowAnswer.TheVariants as evict_row
use Rattle.segevict.specs.EvictedRow.{EvictsItem}
use Rattle.segevict.specs.Tries.{IsInTheWay, StoodIn, TriesFor}

-- each of the entries is an eviction by the pass of a key out of the segment
abbrev pub AreEvictions : ℕ → ℕ → List Entry → Type 0
AreEvictions pass segment [] = Unit {0}
AreEvictions pass segment (added ∷ more) =
    ((key : List ℕ) × (added ≡ entry.Evicted pass key segment)) × AreEvictions pass segment more

-- this number of keys was taken out of the segment
pub record TakesOut (segment count : ℕ) (p q : Pass) : Type 0 where
  pub evictions : List Entry
  pub counted : length evictions ≡ count
  pub all : AreEvictions (number p) segment evictions
  pub entries : mine q ≡ evictions ++ mine p
  pub memo : memo q ≡ memo p

-- nothing is stored in the segment any more
abbrev pub ended : ℕ → PlainPart → PlainPart
ended segment plain = with_current (but_for segment plain.current) plain

-- An own segment in use is emptied, or stays in use with what couldn't be taken out;
-- calling again goes on.
-- A segment that isn't in use has nothing to take out.
abbrev pub IsEvictAnswer : Shape → ℕ → EvictAnswer → Pass → Pass → Type 0
IsEvictAnswer shape segment (evict.Evicted count) p q =
    ((state_of p segment ≡ Some InUse) × TakesOut segment count p q
    × (q.plain ≡ with_state segment Evicted (ended segment p.plain))
    × NoneStandsIn (after shape (seen q)) segment)
    ⊎ ((state_of p segment ≢ Some InUse) × (count ≡ 0) × (q ≡ p))
IsEvictAnswer shape segment evict.NotYours p q = q ≡ p
IsEvictAnswer shape segment (evict.Busy count) p q =
    (state_of p segment ≡ Some InUse)
    × TakesOut segment count p q
    × (q.plain ≡ ended segment p.plain)
    × IsInTheWay shape (λ key. StoodIn shape segment key p q) p q

-- ---- rows in their order

-- The pass first looks which row from this one on is an item's first,
-- by no more loads than there are rows before this one.
-- Where no row from this one on is used, it does nothing.
abbrev pub LooksForFirst : Board → ℕ → ℕ → Pass → Pass → Type 0
LooksForFirst b segment from p q =
    Idles b p q × TakesAtMost from p q
    × ((used : ℕ) → used_of p segment ≡ Some used → used ≤ from → q ≡ p)

-- This number of rows was gone over, from this one on, each by an evict of one row. One behind an
-- item's first row is Left. This number of their keys was taken out.
abbrev pub EvictsOver : Board → ℕ → ℕ → ℕ → ℕ → Pass → Pass → Type 0
EvictsOver b segment from zero count p q = (count ≡ 0) × LooksForFirst b segment from p q
EvictsOver b segment from (suc rows) count p q =
    (middle : Pass)
    × (((before : ℕ) × (count ≡ before + 1) × EvictsOver b segment from rows before p middle
    × EvictsItem b segment (from + rows) evict_row.Evicted middle q)
    ⊎ (EvictsOver b segment from rows count p middle
    × EvictsItem b segment (from + rows) evict_row.Left middle q))

-- All used rows of the segment from this one on are gone over, or those up to one that stops
-- the evict. Nothing is stored in the segment from the first of them on.
abbrev pub EvictsInOrder : Board → ℕ → ℕ → EvictAnswer → Pass → Pass → Type 0
EvictsInOrder b segment from (evict.Evicted count) p q =
    (rows : ℕ) × (last : Pass)
    × (used_of p segment ≡ Some (from + rows))
    × EvictsOver b segment from rows count (record p { plain = ended segment p.plain }) last
    × (q ≡ record last { plain = with_state segment Evicted last.plain })
EvictsInOrder b segment from (evict.Busy count) p q =
    (used : ℕ) × (rows : ℕ) × (middle : Pass)
    × (used_of p segment ≡ Some used)
    × (from + rows < used)
    × EvictsOver b segment from rows count (record p { plain = ended segment p.plain }) middle
    × EvictsItem b segment (from + rows) evict_row.Busy middle q
EvictsInOrder b segment from evict.NotYours p q = ⊥

-- ---- what it costs

-- The rows of a segment in use are gone over in their order from this one on, each once.
-- The pass tried for bits for no more keys than there are used rows from there on.
-- It draws no overflow bucket, and does nothing of what readers do.
pub record CostsOfEvict (b : Board) (segment from : ℕ) (told : EvictAnswer) (p q : Pass)
    : Type 0 where
  pub order : state_of p segment ≡ Some InUse → EvictsInOrder b segment from told p q
  pub tries : (rows : ℕ)
      → used_of p segment ≡ Some (from + rows)
      → TriesFor b.shape (λ key. StoodIn b.shape segment key p q) rows p q
  pub draws_nothing : DrawsNothing p q
  pub reads_nothing : ReadsNothing p q

-- An evict from this row on has this answer,
-- which is NotYours exactly if the segment isn't one of the pass's own.
pub record EvictsRest (b : Board) (segment from : ℕ) (told : EvictAnswer) (p q : Pass)
    : Type 0 where
  pub on : GoesOn b p q
  pub answer : IsEvictAnswer b.shape segment told p q
  pub not_yours : (told ≡ evict.NotYours) ↔ (state_of p segment ≡ None)
  pub costs : CostsOfEvict b segment from told p q

-- an evict begins at the first row
abbrev pub EvictsSegment : Board → ℕ → EvictAnswer → Pass → Pass → Type 0
EvictsSegment b segment told p q = EvictsRest b segment 0 told p q
