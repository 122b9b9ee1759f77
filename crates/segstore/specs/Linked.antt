-- Item words at which a pass looks a second time, from within the item's segment: what stood there,
-- and that the row is still as it was.
use Rattle.std.specs.Prelude.{◌≡◌, ◌≢◌, ℕ, ◌/◌, ◌%◌, ◌^◌, ◌<◌, List, ◌++◌, Some}
use Rattle.segword.specs.Words.{IsKey, IsSameItem, IsValue, Item, item_word, Shape, tag_part}
use Rattle.segmodel.specs.Words.{after, bucket_of, IsBetween, standing, tag_of}
use Rattle.segcore.specs.Words.{cached, Event, Holds, inside, IsItemAt, IsLawful, IsSegment, KeyAt}
use Rattle.segcore.specs.Words.{NoneRefills, row_after, seen}
use Rattle.segcore.specs.Word as core
use Rattle.segbase.specs.Words.{Board, cell_at, home_bucket, IsPlace, number, Pass, Place, position}
use Rattle.segbase.specs.Words.{trace}
use Rattle.segstore.specs.Reading.{IsReadable}
use Rattle.segstore.specs.declared.read.Linked.{Linked}
use Rattle.segstore.specs.declared.read.Linked.TheVariants as linked
use Rattle.segstore.specs.declared.read.Keyed.{Keyed}
use Rattle.segstore.specs.declared.read.Keyed.TheVariants as keyed

-- the segment and the row that an item word names
abbrev pub segment_part : ℕ → ℕ
segment_part word = word / 2 ^ 20 % 2 ^ 24

abbrev pub row_part : ℕ → ℕ
row_part word = word % 2 ^ 20

-- the place is an item word of a chain
pub record IsChained (shape : Shape) (trace : List Event) (place : Place) : Type 0 where
  pub in_table : IsPlace shape place
  pub at : IsItemAt shape trace (home_bucket shape trace place) (position shape trace place)
      (cell_at shape place)

-- the word of a place at a moment
abbrev pub word_of_place : Shape → List Event → Place → ℕ
word_of_place shape trace place = core.word shape trace (cell_at shape place)

-- At a moment this item word stood at the place, and was the key's.
-- The key stood with the value in the word's segment, and the word's row held the pair.
pub record WasLinked (shape : Shape) (place : Place) (word : ℕ) (key value : List ℕ)
    (at : List Event) : Type 0 where
  pub lawful : IsLawful shape at
  pub chained : IsChained shape at place
  pub stood : word_of_place shape at place ≡ word
  pub tag : tag_part word ≡ tag_of key
  pub here : (bucket_of shape key ≡ home_bucket shape at place)
      × KeyAt shape key at (position shape at place)
  pub valid : IsKey key × IsValue value
  pub stands : standing (after shape (seen at)) key ≡ Some (cached value (segment_part word))
  pub in_segment : IsSegment shape (segment_part word) × (row_part word < shape.rows)
  pub linked : (row_after at (segment_part word) (row_part word)).linked ≡ Some key
  pub holds : Holds (row_after at (segment_part word) (row_part word)) key value

-- a look between two moments found this item word
pub record SawItem (shape : Shape) (place : Place) (word : ℕ) (key value : List ℕ)
    (old new : List Event) : Type 0 where
  pub at : List Event
  pub between : IsBetween old new at
  pub was : WasLinked shape place word key value at

-- a look found this item word, and its row is now as it was then,
-- since the segment wasn't filled again
pub record FoundItem (shape : Shape) (place : Place) (word : ℕ) (key value : List ℕ)
    (old new : List Event) : Type 0 where
  pub saw : SawItem shape place word key value old new
  pub kept : (more : List Event) × (new ≡ more ++ saw.at) × NoneRefills (segment_part word) more
  pub still : row_after new (segment_part word) (row_part word)
      ≡ row_after saw.at (segment_part word) (row_part word)
  -- with one pass nothing has happened since
  pub alone : shape.passes ≡ 1 → new ≡ saw.at

-- The key's item was found, and `header` is word 0 of its row.
pub record FoundKey (shape : Shape) (place : Place) (item : Item) (header : ℕ) (key : List ℕ)
    (old new : List Event) : Type 0 where
  pub value : List ℕ
  pub found : FoundItem shape place (item_word item) key value old new
  pub begins : header ≡ (row_after new item.seg item.row).words 0

-- a look between two moments found this word
pub record SawWord (shape : Shape) (place : Place) (word : ℕ) (old new : List Event) : Type 0 where
  pub at : List Event
  pub between : IsBetween old new at
  pub lawful : IsLawful shape at
  pub stood : word_of_place shape at place ≡ word

-- A second look saw the same item still.
-- It is a key's, and the pass is in its segment, so it may read the row.
pub record SeesAgain (b : Board) (place : Place) (word : ℕ) (item : Item) (q : Pass) : Type 0 where
  pub same : IsSameItem word (item_word item)
  pub key : List ℕ
  pub value : List ℕ
  pub was : WasLinked b.shape place (item_word item) key value (trace q)
  pub entered : 0 < inside (trace q) (number q) item.seg
  pub readable : IsReadable b q item.seg item.row

-- what a second look at an item word found
abbrev pub IsLinked : Shape → Place → ℕ → Linked → List Event → List Event → Type 0
IsLinked shape place word (linked.Same key value) old new =
    (same : ℕ) × IsSameItem word same × FoundItem shape place same key value old new
IsLinked shape place word (linked.Changed other) old new =
    SawWord shape place other old new × ¬ (IsSameItem word other)

-- what a second look for a key found
abbrev pub IsKeyed : Shape → Place → ℕ → List ℕ → Keyed → List Event → List Event → Type 0
IsKeyed shape place word key (keyed.Same item header) old new =
    IsSameItem word (item_word item) × FoundKey shape place item header key old new
IsKeyed shape place word key (keyed.Other item) old new =
    IsSameItem word (item_word item)
    × ((other value : List ℕ) × (other ≢ key)
    × SawItem shape place (item_word item) other value old new)
IsKeyed shape place word key (keyed.Changed other) old new =
    SawWord shape place other old new × ¬ (IsSameItem word other)
