-- What a lock and an unlock of a bucket answer.
use Rattle.std.specs.Prelude.{◌≡◌, ◌≢◌, ◌↔◌, ℕ, Bool, true, false, is_some, List, Option, Some, None, option_map}
use Rattle.segword.specs.Words.{Shape}
use Rattle.segmodel.specs.Words.{Begins, bucket_of, entries_of, Entry}
use Rattle.segcore.specs.Event as event
use Rattle.segbase.specs.Words.{Board, Locked, locked, locked_of, mine, Pass, seen, trace}
use Rattle.segbase.specs.Words.{with_locked}
use Rattle.segstore.specs.declared.bucket.LockAnswer.{LockAnswer}
use Rattle.segstore.specs.declared.bucket.LockAnswer.TheVariants as lock
use Rattle.segstore.specs.Calls.{memo, GoesOn, ChangesNothing, TakesOneBit, TriesInVain, DrawsNothing, ReadsNothing, CostsNothing}

-- ---- locks

-- the bucket locked, as of what the pass has seen now
abbrev pub lock_now : Pass → ℕ → Locked
lock_now p bucket = record { bucket = bucket; trace = trace p }

-- this bucket is locked from now on, or none; all else that the pass keeps is as it was
pub record SetsLock (bucket : Option ℕ) (p q : Pass) : Type 0 where
  pub plain : q.plain ≡ with_locked bucket p.plain
  pub memo : memo q ≡ record (memo p) { locked = option_map (lock_now q) bucket }

-- the bucket is locked: the pass took the bucket's bit for that
pub record Locks (bucket : ℕ) (p q : Pass) : Type 0 where
  pub entries : mine q ≡ mine p
  pub sets : SetsLock (Some bucket) p q
  pub takes : TakesOneBit bucket p q

abbrev pub IsLockAnswer : Shape → List ℕ → LockAnswer → Pass → Pass → Type 0
IsLockAnswer shape key lock.Locked p q = Locks (bucket_of shape key) p q
IsLockAnswer shape key lock.Busy p q = ChangesNothing p q × TriesInVain (bucket_of shape key) p q
IsLockAnswer shape key lock.AlreadyLocked p q = q ≡ p

-- A lock of a key's bucket has this answer,
-- which is AlreadyLocked exactly if the pass has a bucket locked.
-- The pass draws no overflow bucket, and does nothing of what readers do.
pub record LocksBucket (b : Board) (key : List ℕ) (told : LockAnswer) (p q : Pass) : Type 0 where
  pub on : GoesOn b p q
  pub answer : IsLockAnswer b.shape key told p q
  pub already : (told ≡ lock.AlreadyLocked) ↔ (locked_of p ≢ None)
  pub draws_nothing : DrawsNothing p q
  pub reads_nothing : ReadsNothing p q

-- no entry of the bucket came in since it was locked
abbrev pub NoneSince : Shape → Locked → List Entry → Type 0
NoneSince shape lock new =
    Begins (event.seen lock.trace) new
    × (entries_of shape lock.bucket new ≡ entries_of shape lock.bucket (event.seen lock.trace))

-- the bucket is locked no more, and no entry of it came in since it was locked
pub record Unlocks (shape : Shape) (p q : Pass) : Type 0 where
  pub entries : mine q ≡ mine p
  pub sets : SetsLock None p q
  pub none_since : (lock : Locked) → locked p ≡ Some lock → NoneSince shape lock (seen q)

abbrev pub IsUnlockAnswer : Shape → Bool → Pass → Pass → Type 0
IsUnlockAnswer shape true p q = Unlocks shape p q
IsUnlockAnswer shape false p q = q ≡ p

-- An unlock has this answer, which is true exactly if the pass had a bucket locked.
pub record UnlocksBucket (b : Board) (told : Bool) (p q : Pass) : Type 0 where
  pub on : GoesOn b p q
  pub answer : IsUnlockAnswer b.shape told p q
  pub was_locked : told ≡ is_some (locked_of p)
  pub costs_nothing : CostsNothing p q
