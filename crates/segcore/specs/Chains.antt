-- What a lawful trace says of buckets: their information words, their chains,
-- and the overflow buckets.
use Rattle.std.specs.Prelude.{◌≡◌, ◌≢◌, ℕ, ◌+◌, ◌*◌, ◌/◌, ◌%◌, ◌^◌, ◌<◌, ◌≤◌, ◌⊎◌, List, Some, None, if◌then◌else◌}
use Rattle.segword.specs.Words.{chain_word, IsValid, Shape}
use Rattle.segmodel.specs.Words.{after}
use Rattle.segcore.specs.declared.event.Event.{Event}
use Rattle.segcore.specs.declared.cell.Cell.{Cell}
use Rattle.segcore.specs.declared.cell.Cell.TheVariants.{OfCounter, OfBucket, OfOverflow}
use Rattle.segcore.specs.Event.{seen}
use Rattle.segcore.specs.Bucket.{bucket_after}
use Rattle.segcore.specs.Overflow.{home, home_of}
use Rattle.segcore.specs.ItemWord.{IsItemWord}
use Rattle.segcore.specs.Word.{IsCell, word, IsAt}
use Rattle.segcore.specs.Mark.{marked, drawn_for, chained_to, all_drawn}

-- how many writes the version doesn't count yet: one,
-- if something was stored or deleted under the set bit
abbrev pub behind : Shape → List Event → ℕ → ℕ
behind shape trace bucket = if (bucket_after shape trace bucket).written then 1 else 0

-- the information word: the version of the cache, or one less, and the bit
pub record InfoFacts (shape : Shape) (trace : List Event) (bucket : ℕ) : Type 0 where
  pub version : shape.first_version < 2 ^ 32
      → (word shape trace (OfBucket bucket 0) / 2 ^ 32 + behind shape trace bucket) % 2 ^ 32
      ≡ (after shape (seen trace)).version bucket
  -- bits 31 to 1 are 0
  pub bit : word shape trace (OfBucket bucket 0) % 2 ^ 32 < 2
  -- under a clear bit nothing waits to be counted
  pub counted : word shape trace (OfBucket bucket 0) % 2 ^ 32 ≡ 0 → behind shape trace bucket ≡ 0

-- the chain has the bucket itself and each overflow bucket that joined it
pub record ChainFacts (shape : Shape) (trace : List Event) (bucket : ℕ) : Type 0 where
  pub short : chained_to (marked trace) bucket < 4
  -- the last word of each bucket but the last leads on to the next, which is in the table
  pub joined : (depth : ℕ)
      → depth < chained_to (marked trace) bucket
      → (number : ℕ) × (home_of trace number ≡ Some (home bucket (depth + 1)))
      × ((cell : Cell) → IsAt trace bucket (8 * depth + 7) cell
      → word shape trace cell ≡ chain_word number)
      × (number < shape.overflow)
  -- the numbers of the overflow buckets rise with their depth
  pub rising : (low high d e : ℕ)
      → home_of trace low ≡ Some (home bucket d)
      → home_of trace high ≡ Some (home bucket e)
      → d < e
      → low < high
  -- at each depth there is one overflow bucket at most
  pub alone : (number other depth : ℕ)
      → home_of trace number ≡ Some (home bucket depth)
      → home_of trace other ≡ Some (home bucket depth)
      → number ≡ other
  -- as many overflow buckets were drawn for the bucket as joined it,
  -- or one more while its bit is set
  pub drawn : (drawn_for (marked trace) bucket ≡ chained_to (marked trace) bucket)
      ⊎ ((drawn_for (marked trace) bucket ≡ chained_to (marked trace) bucket + 1)
      × (word shape trace (OfBucket bucket 0) % 2 ^ 32 ≡ 1))

-- an overflow bucket that is in no chain: drawn for none, or for one that it hasn't joined
abbrev pub IsUnchained : List Event → ℕ → Type 0
IsUnchained trace number = (bucket depth : ℕ)
    → home_of trace number ≡ Some (home bucket depth)
    → chained_to (marked trace) bucket < depth

pub record BucketFacts (shape : Shape) (trace : List Event) : Type 0 where
  pub info : (bucket : ℕ) → bucket < shape.buckets → InfoFacts shape trace bucket
  pub chains : (bucket : ℕ) → ChainFacts shape trace bucket
  -- the overflow counter counts the buckets that were drawn, which are no more than there are
  pub counter : word shape trace OfCounter ≡ all_drawn (marked trace)
  pub enough : all_drawn (marked trace) ≤ shape.overflow
  -- an overflow bucket in no chain is empty, but for word 1 of a drawn one;
  -- word 0 of every one is 0
  pub empty : (number w : ℕ)
      → IsCell shape (OfOverflow number w)
      → IsUnchained trace number
      → w ≢ 1
      → word shape trace (OfOverflow number w) ≡ 0
  pub undrawn : (number w : ℕ)
      → home_of trace number ≡ None
      → word shape trace (OfOverflow number w) ≡ 0
  pub unused : (number : ℕ) → word shape trace (OfOverflow number 0) ≡ 0
  -- word 1 of a drawn one that is in no chain yet is 0 or an item word
  pub draft : (number bucket depth : ℕ)
      → IsValid shape
      → home_of trace number ≡ Some (home bucket depth)
      → chained_to (marked trace) bucket < depth
      → (word shape trace (OfOverflow number 1) ≡ 0)
      ⊎ IsItemWord (word shape trace (OfOverflow number 1))
