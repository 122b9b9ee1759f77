-- What a pass sees of the table, in numbers: overflow buckets, and rows of its own segments.
use Rattle.std.specs.Prelude.{◌≡◌, ℕ, ◌≤◌, List}
use Rattle.segmodel.specs.Words.{Begins}
use Rattle.segcore.specs.Words.{all_drawn, Mark}
use Rattle.segcore.specs.Mark as mark
use Rattle.segbase.specs.Words.{Board, marked, Pass, SinceFirst}
use Rattle.segevict.specs.Words.{CountsRows}
use Rattle.segindex.specs.declared.table_stats.IndexStats.{IndexStats}
use Rattle.segindex.specs.Meeting.{OnlyLearns}

-- at a moment between these two so many overflow buckets were drawn
pub record WereDrawn (count : ℕ) (old new : List Mark) : Type 0 where
  pub moment : List Mark
  pub from : Begins old moment
  pub to : Begins moment new
  pub drawn : all_drawn moment ≡ count

-- So many overflow buckets were drawn at a moment after the call's first step.
-- So many rows of the pass's own segments are used.
-- So many of these were named by an item, each at a moment of the call,
-- and at the return no item names any of the others.
-- The pass added no entry, keeps all that it kept, and nothing of it costs.
pub record ReturnsStats (b : Board) (told : IndexStats) (p q : Pass) : Type 0 where
  pub only : OnlyLearns b p q
  pub drawn : SinceFirst p q
      (λ start. WereDrawn told.overflow_buckets (mark.marked start) (marked q))
  pub most : told.overflow_buckets ≤ b.shape.overflow
  pub rows : CountsRows b.shape told.used_rows told.named_rows p q
