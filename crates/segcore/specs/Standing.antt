-- What a lawful trace says of keys and item words: which word a key that stands has,
-- and that chains have no other words.
use Rattle.std.specs.Prelude.{◌≡◌, ℕ, ◌+◌, ◌*◌, ◌<◌, ◌⊎◌, List, Some}
use Rattle.segword.specs.Words.{chain_word, IsKey, IsValue, Shape}
use Rattle.segmodel.specs.Words.{after, bucket_of, Cached, standing, tag_of}
use Rattle.segcore.specs.declared.event.Event.{Event}
use Rattle.segcore.specs.declared.cell.Cell.{Cell}
use Rattle.segcore.specs.Event.{seen}
use Rattle.segcore.specs.Bucket.{slot}
use Rattle.segcore.specs.Overflow.{home, home_of}
use Rattle.segcore.specs.Row.{Holds, row_after}
use Rattle.segcore.specs.ItemWord.{packed}
use Rattle.segcore.specs.Lawful.{IsSegment}
use Rattle.segcore.specs.Word.{IsCell, word, IsItemAt}
use Rattle.segcore.specs.Mark.{marked, place, last_at, frequency_in, chained_to}

-- what stands under a key: a value, in a segment
abbrev pub cached : List ℕ → ℕ → Cached
cached value segment = record { value = value; segment = segment }

-- the word of a cell, which is that of a position of the bucket's chain,
-- is an item word that names the row
pub record Names (shape : Shape) (trace : List Event) (bucket position : ℕ) (cell : Cell)
    (tag segment row : ℕ) : Type 0 where
  pub here : IsItemAt shape trace bucket position cell
  pub in_table : IsCell shape cell
  pub tagged : (0 < tag) × (tag < 4096)
  pub in_segment : IsSegment shape segment × (row < shape.rows)
  pub frequency : ℕ
  pub small : frequency < 256
  pub reads : word shape trace cell ≡ packed tag frequency segment row

-- The word at the key's place has the key's tag, and names the row of the key's last `at`.
-- That row is in the segment and holds the pair.
pub record StandsAt (shape : Shape) (trace : List Event) (key value : List ℕ) (segment : ℕ)
    : Type 0 where
  pub valid : IsKey key × IsValue value
  pub position : ℕ
  pub cell : Cell
  pub placed : place shape (marked trace) key ≡ Some position
  pub row : ℕ
  pub last : last_at (marked trace) key ≡ Some (slot key segment row)
  pub names : Names shape trace (bucket_of shape key) position cell (tag_of key) segment row
  pub holds : Holds (row_after trace segment row) key value

-- the word chains on to the next bucket of the chain
pub record ChainsOn (shape : Shape) (trace : List Event) (bucket position : ℕ) (cell : Cell)
    : Type 0 where
  pub depth : ℕ
  pub at_end : position ≡ 8 * depth + 7
  pub inside : depth < chained_to (marked trace) bucket
  pub number : ℕ
  pub in_table : number < shape.overflow
  pub next : home_of trace number ≡ Some (home bucket (depth + 1))
  pub reads : word shape trace cell ≡ chain_word number

-- the word is that of a key of the bucket that stands, whose place this is
pub record IsOfKey (shape : Shape) (trace : List Event) (bucket position : ℕ) (cell : Cell)
    : Type 0 where
  pub key : List ℕ
  pub value : List ℕ
  pub segment : ℕ
  pub of : bucket_of shape key ≡ bucket
  pub stands : standing (after shape (seen trace)) key ≡ Some (cached value segment)
  pub placed : place shape (marked trace) key ≡ Some position
  pub row : ℕ
  pub names : Names shape trace bucket position cell (tag_of key) segment row

-- the three readings of a word of a chain
abbrev pub HasOneReading : Shape → List Event → ℕ → ℕ → Cell → Type 0
HasOneReading shape trace bucket position cell =
    (word shape trace cell ≡ 0)
    ⊎ (ChainsOn shape trace bucket position cell ⊎ IsOfKey shape trace bucket position cell)

-- what the words of the chains say of the keys that stand
pub record KeyFacts (shape : Shape) (trace : List Event) : Type 0 where
  -- a key stands with a value in a segment exactly if its word says so
  pub stands : (key value : List ℕ) (segment : ℕ)
      → (standing (after shape (seen trace)) key ≡ Some (cached value segment)
      → StandsAt shape trace key value segment)
      × (StandsAt shape trace key value segment
      → standing (after shape (seen trace)) key ≡ Some (cached value segment))
  -- chains have no other item words
  pub readings : (bucket position : ℕ) (cell : Cell)
      → bucket < shape.buckets
      → IsItemAt shape trace bucket position cell
      → HasOneReading shape trace bucket position cell
  -- no two words of chains name one row
  pub once : (b p c q : ℕ) (left right : Cell) (tag other segment row : ℕ)
      → Names shape trace b p left tag segment row
      → Names shape trace c q right other segment row
      → (b ≡ c) × (p ≡ q) × (left ≡ right)
  -- the frequency of an item word is the one that the last mark of its row gave
  pub frequencies : (bucket position : ℕ) (cell : Cell) (tag segment row : ℕ)
      (names : Names shape trace bucket position cell tag segment row)
      → names.frequency ≡ frequency_in (marked trace) segment row
