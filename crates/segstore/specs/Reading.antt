-- What a pass reads of a row, and what the pass does by that.
use Rattle.std.specs.Prelude.{◌≡◌, ℕ, ◌<◌, true, List, [], ◌∷◌}
use Rattle.segword.specs.Words.{covers, IsKey, IsValue, Shape}
use Rattle.segcore.specs.Words.{Event, Holds, IsSegment, MayRead, Row, row_after, span_in}
use Rattle.segcore.specs.declared.event.Event.TheVariants.{Entered, Left}
use Rattle.segbase.specs.Words.{AddsAtOnce, AddsEvents, Board, number, Pass, Reads, ReadsIn, sight}
use Rattle.segbase.specs.Words.{trace}
use Rattle.segstore.specs.Calls.{TakesAtMost}

-- the pass only looked: it added nothing to what others did, and what it keeps is as it was
pub record OnlyLooks (b : Board) (p q : Pass) : Type 0 where
  pub did : AddsAtOnce b [] p q
  pub plain : q.plain ≡ p.plain
  pub memo : (sight q).memo ≡ (sight p).memo

-- the pass may read the row, and the rows behind it of the item that begins there
abbrev pub MayReadItem : Shape → List Event → ℕ → ℕ → ℕ → Type 0
MayReadItem shape trace pass segment row =
    (other : ℕ)
    → covers row (span_in trace segment row) other ≡ true
    → other < shape.rows
    → MayRead shape trace pass segment other

-- the row is one of the table, and the pass may read it: no one changes it meanwhile
abbrev pub IsReadable : Board → Pass → ℕ → ℕ → Type 0
IsReadable b p segment row =
    IsSegment b.shape segment
    × (row < b.shape.rows)
    × MayReadItem b.shape (trace p) (number p) segment row

-- the pass only looked, the row is as it was, and the pass may go on reading it
pub record ReadsRow (b : Board) (p q : Pass) (segment row : ℕ) : Type 0 where
  pub looked : OnlyLooks b p q
  pub readable : IsReadable b q segment row
  pub same : row_after (trace q) segment row ≡ row_after (trace p) segment row

-- the row holds a key and a value
pub record HoldsPair (row : Row) : Type 0 where
  pub key : List ℕ
  pub value : List ℕ
  pub is_key : IsKey key
  pub is_value : IsValue value
  pub holds : Holds row key value

-- ---- coming into segments, and leaving them

-- the pass only read, is in each segment as often as before, and what it keeps is as it was
pub record IsReader (b : Board) (p q : Pass) : Type 0 where
  pub reads : Reads b p q
  pub plain : q.plain ≡ p.plain
  pub memo : (sight q).memo ≡ (sight p).memo

-- the pass only read, is in this segment once more than before, and what it keeps is as it was
pub record IsReaderIn (b : Board) (p q : Pass) (segment : ℕ) : Type 0 where
  pub reads : ReadsIn b p q segment
  pub plain : q.plain ≡ p.plain
  pub memo : (sight q).memo ≡ (sight p).memo

-- by one step the pass came into a segment, and did nothing else
pub record Enters (b : Board) (p q : Pass) (segment : ℕ) : Type 0 where
  pub did : AddsAtOnce b (Entered (number p) segment ∷ []) p q
  pub plain : q.plain ≡ p.plain
  pub memo : (sight q).memo ≡ (sight p).memo
  pub steps : TakesAtMost 1 p q

-- by one step the pass left a segment, and did nothing else
pub record LeavesSegment (b : Board) (p q : Pass) (segment : ℕ) : Type 0 where
  pub moved : AddsEvents b (Left (number p) segment ∷ []) p q
  pub plain : q.plain ≡ p.plain
  pub memo : (sight q).memo ≡ (sight p).memo
  pub steps : TakesAtMost 1 p q
