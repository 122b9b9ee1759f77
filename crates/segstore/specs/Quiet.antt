-- What is so of a pass between calls.
-- It has no bit but that of its lock, and is in no segment but that of its hold.
-- Its plain part says what is so.
use Rattle.std.specs.Prelude.{◌≡◌, ℕ, ◌<◌, ◌==◌, Bool, false, is_some, List, ◌++◌, Option, Some, None, option_map, if◌then◌else◌}
use Rattle.segword.specs.Words.{Shape}
use Rattle.segmodel.specs.Words.{IsStanding}
use Rattle.segcore.specs.Event as event
use Rattle.segcore.specs.Words.{bucket_after, Event, HasBit, inside, NoneAt, NoneRefills}
use Rattle.segbase.specs.Words.{Board, Held, holding, is_holding_of, IsPassOf, Locked, locked}
use Rattle.segbase.specs.Words.{locked_of, number, Pass, trace}
use Rattle.segstore.specs.Segments.{KeepsSegments}

-- the pass has had the bit of the bucket since it locked the bucket,
-- and nothing was done in the bucket since
pub record IsLock (shape : Shape) (trace : List Event) (pass : ℕ) (lock : Locked) : Type 0 where
  pub more : List Event
  pub since : trace ≡ more ++ lock.trace
  pub bit : HasBit shape lock.trace pass lock.bucket
  pub unwritten : (bucket_after shape lock.trace lock.bucket).written ≡ false
  pub undrawn : (bucket_after shape lock.trace lock.bucket).spare ≡ None
  pub still : NoneAt shape lock.bucket more

-- what is held stood at the moment of the hold, and its segment wasn't refilled since
pub record IsHold (shape : Shape) (trace : List Event) (hold : Held) : Type 0 where
  pub more : List Event
  pub since : trace ≡ more ++ hold.trace
  pub stood : IsStanding shape (event.seen hold.trace) hold.key hold.value hold.segment
  pub kept : NoneRefills hold.segment more

-- whether an item of the segment is held
abbrev pub is_held_in : Option Held → ℕ → Bool
is_held_in None segment = false
is_held_in (Some hold) segment = hold.segment == segment

pub record IsQuiet (b : Board) (p : Pass) : Type 0 where
  pub pass : IsPassOf b p
  pub segments : KeepsSegments b p
  -- the pass has no bit but that of the bucket that it has locked
  pub locks : locked_of p ≡ option_map (λ lock. lock.bucket) (locked p)
  pub bits : (bucket : ℕ) → HasBit b.shape (trace p) (number p) bucket → locked_of p ≡ Some bucket
  pub lock : (lock : Locked) → locked p ≡ Some lock → IsLock b.shape (trace p) (number p) lock
  -- the pass is in no segment but that of what it holds, and there once
  pub holds : is_holding_of p ≡ is_some (holding p)
  pub inside : (segment : ℕ)
      → inside (trace p) (number p) segment ≡ (if is_held_in (holding p) segment then 1 else 0)
  pub hold : (hold : Held) → holding p ≡ Some hold → IsHold b.shape (trace p) hold

-- the pass is in no segment twice
abbrev pub MayEnterAny : Pass → Type 0
MayEnterAny p = (segment : ℕ) → inside (trace p) (number p) segment < 2
