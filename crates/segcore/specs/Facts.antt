-- What a lawful world says: every fact about its words, its history and its passes.
use Rattle.std.specs.Prelude.{◌≡◌, ◌≢◌, ℕ, ◌+◌, ◌*◌, ◌/◌, ◌%◌, ◌^◌, ◌<◌, ◌≤◌, List, [], ◌∷◌, ◌++◌, length, Some}
use mathlib.Core.Option.{some}
use lib.ListN.{get_elem?}
use Rattle.segword.specs.Words.{Shape}
use Rattle.segmodel.specs.Words.{after, AreOne, IsLegal, key_of, owner, Request, standing, value_of}
use Rattle.segcore.specs.declared.event.Event.{Event}
use Rattle.segcore.specs.declared.event.Event.TheVariants.{Linked, Relinked, Refilled}
use Rattle.segcore.specs.declared.cell.Cell.TheVariants.{OfBucket, OfOverflow, OfSegment, OfRow}
use Rattle.segcore.specs.declared.view.View.{View}
use Rattle.segcore.specs.Event.{NoneBy, seen}
use Rattle.segcore.specs.Bucket.{bucket_after}
use Rattle.segcore.specs.Row.{Holds, row_after}
use Rattle.segcore.specs.Segment.{inside, NoneRefills}
use Rattle.segcore.specs.Lawful.{NoneAt}
use Rattle.segcore.specs.Word.{word}
use Rattle.segcore.specs.Mark.{marked, all_entered, all_left, times_entered, times_left, IsWellMarked, IsOrderly}
use Rattle.segcore.specs.Kind.{HasBit}
use Rattle.segcore.specs.World.{World}
use Rattle.segcore.specs.Standing.{cached, KeyFacts}
use Rattle.segcore.specs.Chains.{BucketFacts}

-- ---- segments and rows

-- no event links the row, or moves an item to it
abbrev pub NoneLinks : ℕ → ℕ → List Event → Type 0
NoneLinks segment row [] = Unit {0}
NoneLinks segment row (event ∷ trace) =
    ((pass position : ℕ) (request : Request) → event ≢ Linked pass request segment row position)
    × ((pass from from_row position : ℕ) (key : List ℕ)
    → event ≢ Relinked pass key from from_row segment row position)
    × NoneLinks segment row trace

-- A row that was linked, or moved to, since the last refilling of its segment.
-- No later event links it or moves to it.
-- The row holds the pair with which the key stood right after that event.
pub record IsKeptRow (shape : Shape) (trace more since : List Event) (key value : List ℕ)
    (segment row : ℕ) : Type 0 where
  pub once : NoneLinks segment row more
  pub holds : Holds (row_after trace segment row) key value
  pub stood : standing (after shape (seen since)) key ≡ Some (cached value segment)

pub record SegmentFacts (shape : Shape) (trace : List Event) : Type 0 where
  -- the upper half of a segment's word is the segment's deadline
  pub deadlines : (segment : ℕ)
      → word shape trace (OfSegment segment) / 2 ^ 32 ≡ (after shape (seen trace)).deadline segment
  -- the lower half is how often passes came into the segment, less how often they left it
  pub readers : (segment : ℕ)
      → word shape trace (OfSegment segment) % 2 ^ 32 + all_left (marked trace) segment
      ≡ all_entered (marked trace) segment
  -- a pass is in a segment as often as its marks say that it came and hasn't left
  pub marks : (pass segment : ℕ)
      → inside trace pass segment + times_left pass (marked trace) segment
      ≡ times_entered pass (marked trace) segment
  -- a pass is in a segment at most twice, so few readers are counted; if one is counted,
  -- a pass is there
  pub few : (pass segment : ℕ) → inside trace pass segment ≤ 2
  pub low : (segment : ℕ) → word shape trace (OfSegment segment) % 2 ^ 32 ≤ 2 * shape.passes
  pub reader : (segment : ℕ)
      → 0 < word shape trace (OfSegment segment) % 2 ^ 32
      → (pass : ℕ) × (0 < inside trace pass segment)
  -- at a refilling no pass is in the segment
  pub refilled : (more before : List Event) (filler pass segment deadline : ℕ)
      → trace ≡ more ++ (Refilled filler segment deadline ∷ before)
      → inside before pass segment ≡ 0
  pub rows : (more before : List Event) (pass : ℕ) (request : Request) (segment row position : ℕ)
      → trace ≡ more ++ (Linked pass request segment row position ∷ before)
      → NoneRefills segment more
      → IsKeptRow shape trace more (Linked pass request segment row position ∷ before)
      (key_of request) (value_of request) segment row
  pub moved : (more before : List Event) (pass : ℕ) (key : List ℕ)
      (from from_row segment row position : ℕ)
      → trace ≡ more ++ (Relinked pass key from from_row segment row position ∷ before)
      → NoneRefills segment more
      → (value : List ℕ)
      × IsKeptRow shape trace more
      (Relinked pass key from from_row segment row position ∷ before) key value segment row

-- ---- passes

-- What a pass has seen.
-- Only others went on from there, and they did nothing in the buckets whose bits the pass has.
-- What the pass knows of these buckets,
-- of its own rows and of the overflow bucket that it drew is still so.
pub record PassFacts (shape : Shape) (trace : List Event) (pass : ℕ) (view : View) : Type 0 where
  pub number : view.number ≡ pass
  pub more : List Event
  pub rest : trace ≡ more ++ view.trace
  pub others : NoneBy pass more
  pub quiet : (bucket : ℕ) → HasBit shape view.trace pass bucket → NoneAt shape bucket more
  pub buckets : (bucket : ℕ)
      → HasBit shape view.trace pass bucket
      → bucket_after shape trace bucket ≡ bucket_after shape view.trace bucket
  pub rows : (segment row place : ℕ)
      → owner shape segment ≡ pass
      → word shape trace (OfRow segment row place)
      ≡ word shape view.trace (OfRow segment row place)
  pub drafts : (bucket number w : ℕ)
      → HasBit shape view.trace pass bucket
      → (bucket_after shape view.trace bucket).spare ≡ Some number
      → word shape trace (OfOverflow number w) ≡ word shape view.trace (OfOverflow number w)

pub record PassesFacts (shape : Shape) (world : World) : Type 0 where
  pub each : (pass : ℕ) (view : View)
      → get_elem? world.views pass ≡ some view
      → PassFacts shape world.trace pass view
  -- one history: of what two passes have seen, one goes on from the other
  pub one : (p q : ℕ) (left right : View)
      → get_elem? world.views p ≡ some left
      → get_elem? world.views q ≡ some right
      → AreOne left.trace right.trace
  pub one_marked : (p q : ℕ) (left right : View)
      → get_elem? world.views p ≡ some left
      → get_elem? world.views q ≡ some right
      → AreOne (marked left.trace) (marked right.trace)
  -- the trace is what some pass has seen
  pub longest : 0 < length world.views
      → (pass : ℕ) × (view : View) × (get_elem? world.views pass ≡ some view)
      × (view.trace ≡ world.trace)
  -- a set bit has one pass, by what that pass has seen; a clear one has none
  pub set : (bucket : ℕ)
      → bucket < shape.buckets
      → word shape world.trace (OfBucket bucket 0) % 2 ^ 32 ≡ 1
      → (pass : ℕ) × (view : View) × (get_elem? world.views pass ≡ some view)
      × HasBit shape view.trace pass bucket
  pub clear : (bucket pass : ℕ) (view : View)
      → get_elem? world.views pass ≡ some view
      → HasBit shape view.trace pass bucket
      → word shape world.trace (OfBucket bucket 0) % 2 ^ 32 ≡ 1
  pub holder : (bucket p q : ℕ) (left right : View)
      → get_elem? world.views p ≡ some left
      → get_elem? world.views q ≡ some right
      → HasBit shape left.trace p bucket
      → HasBit shape right.trace q bucket
      → p ≡ q

-- ---- all of it

pub record WorldFacts (shape : Shape) (world : World) : Type 0 where
  pub legal : IsLegal shape (seen world.trace)
  pub placed : IsWellMarked shape (marked world.trace)
  pub orderly : IsOrderly (marked world.trace)
  pub keys : KeyFacts shape world.trace
  pub buckets : BucketFacts shape world.trace
  pub segments : SegmentFacts shape world.trace
  pub passes : PassesFacts shape world
