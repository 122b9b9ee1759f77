-- How a call takes the writer bit of a bucket: by at most 64 tries, until one finds the bit clear.
use Rattle.std.specs.Prelude.{◌≡◌, ◌⊎◌, ℕ, ◌<◌, Bool, true, false, List, ◌∷◌, [], replicate, Option, None, ◌≢◌, Some}
use Rattle.segcore.specs.declared.event.Event.TheVariants.{Took, Bounced, Entered, Left}
use Rattle.segcore.specs.Words.{bucket_after, Event, HasBit}
use Rattle.segbase.specs.Words.{AddsEvents, Board, has_bit, locked_of, number, Pass, trace}
use Rattle.segstore.specs.Calls.{memo, GoesOn, ChangesNothing, DrawsNothing, ReadsNothing, IsBusy}

-- the pass has the bit, nothing was written under it, and no overflow bucket was drawn
pub record HasCleanBit (b : Board) (p : Pass) (bucket : ℕ) : Type 0 where
  pub bit : HasBit b.shape (trace p) (number p) bucket
  pub unwritten : (bucket_after b.shape (trace p) bucket).written ≡ false
  pub undrawn : (bucket_after b.shape (trace p) bucket).spare ≡ None

-- the pass found the bit of the bucket set this number of times
unfoldable pub bounces : ℕ → ℕ → ℕ → List Event
bounces pass bucket times = replicate times (Bounced pass bucket)

-- The bit was taken at one of 64 tries, and the earlier tries found it set.
-- Or all 64 tries found it set.
-- They aren't counted if the bit is the pass's own.
abbrev pub TakesBucket : Board → ℕ → Bool → Pass → Pass → Type 0
TakesBucket b bucket true p q =
    (times : ℕ)
    × (times < 64)
    × AddsEvents b (Took (number p) bucket ∷ bounces (number p) bucket times) p q
    × HasCleanBit b q bucket
TakesBucket b bucket false p q =
    ((has_bit b p bucket ≡ true) × AddsEvents b [] p q)
    ⊎ ((has_bit b p bucket ≡ false) × AddsEvents b (bounces (number p) bucket 64) p q)

-- the pass took the bit of a bucket that it hasn't locked
pub record TookToWrite (b : Board) (bucket : ℕ) (p q : Pass) : Type 0 where
  pub unlocked : locked_of p ≢ Some bucket
  pub takes : TakesBucket b bucket true p q
  pub plain : q.plain ≡ p.plain
  pub memo : memo q ≡ memo p

-- the pass took the bit so, or the call is Busy
abbrev pub TakesToWrite : Board → ℕ → Bool → Pass → Pass → Type 0
TakesToWrite b bucket true p q = TookToWrite b bucket p q
TakesToWrite b bucket false p q =
    GoesOn b p q × ChangesNothing p q × IsBusy bucket p q × DrawsNothing p q × ReadsNothing p q

-- what a look at the deadline of a segment adds: the pass comes into the segment,
-- and leaves it at once
abbrev pub peek : ℕ → Option ℕ → List Event
peek pass None = []
peek pass (Some segment) = Left pass segment ∷ Entered pass segment ∷ []
