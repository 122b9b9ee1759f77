-- Laws of commands: what a caller needs of an answer, in place of the contract of the call that
-- the command names. What the call costs stands only in that contract.
-- Each is proved as the contract of a function in src/laws.rt.
use Rattle.std.specs.Prelude.{◌≡◌, ◌⊎◌, IfSome, ℕ, ◌≤◌, false, is_some, List, ◌++◌, length, Option, Some, None, if◌then◌else◌}
use Rattle.std.specs.List.{AllByRecursion}
use Rattle.segword.specs.Words.{Shape}
use Rattle.segmodel.specs.declared.answer.Answer.TheVariants as answer
use Rattle.segmodel.specs.declared.answer.Command.{Command}
use Rattle.segmodel.specs.declared.answer.Command.TheVariants.{Write, Get, Gets, Keep, Evict, Refill}
use Rattle.segmodel.specs.declared.answer.DeleteAnswer.TheVariants as delete
use Rattle.segmodel.specs.declared.answer.EvictAnswer.TheVariants as evict
use Rattle.segmodel.specs.declared.answer.GetAnswer.TheVariants as get
use Rattle.segmodel.specs.declared.answer.GetsAnswer.TheVariants as gets
use Rattle.segmodel.specs.declared.answer.KeepAnswer.TheVariants as keep
use Rattle.segmodel.specs.declared.answer.RefillAnswer.TheVariants as refill
use Rattle.segmodel.specs.declared.answer.SegState.TheVariants.{InUse}
use Rattle.segmodel.specs.declared.answer.WriteAnswer.TheVariants as write
use Rattle.segmodel.specs.declared.entry.Entry.TheVariants.{Evicted, Moved, Refilled, Wrote}
use Rattle.segmodel.specs.declared.request.Request.TheVariants.{Delete}
use Rattle.segmodel.specs.Laws.{kept, keys_evicted}
use Rattle.segmodel.specs.Words.{after, Answer, bucket_of, Entry, key_of, NoneStandsIn, Reply}
use Rattle.segmodel.specs.Words.{reply_of_delete, reply_of_write, stirred}
use Rattle.segcore.specs.Event as event
use Rattle.segcore.specs.Mark as mark
use Rattle.segbase.specs.Words.{Board, current_of, marked, mine, number, Pass, seen, SinceFirst}
use Rattle.segbase.specs.Words.{state_of}
use Rattle.segstore.specs.Words.{GoesOn, has_room_for, IsBusy, memo}
use Rattle.segread.specs.Words.{IsDisturbed, PresentLocked}
use Rattle.segwrite.specs.Words.{rows_of, WasFull}
use Rattle.segevict.specs.Keeping.{LacksRows}
use Rattle.segevict.specs.Words.{AreSeldom, IsInTheWay, IsKeepTarget, StoodIn, WasOften}
use Rattle.segindex.specs.Commands.{AnswersCommand}
use Rattle.segindex.specs.Linearizable.{Effect, effect_of_get, effect_of_gets, effect_of_write, Had}
use Rattle.segindex.specs.Refilling.{IsBeingRead}

-- `Is` holds of each command that a pass made, with its answer.
abbrev pub OfCommand : (Board → Command → Answer → Pass → Pass → Type 0) → Type 0
OfCommand Is = (b : Board) (command : Command) (draw : ℕ) (told : Answer) (p q : Pass)
    → AnswersCommand b command draw told p q → Is b command told p q

-- ---- each answer

-- the answer is one to such a command
abbrev pub IsAnswerTo : Command → Answer → Type 0
IsAnswerTo (Write (Delete key now)) (answer.Delete told) = Unit {0}
IsAnswerTo (Write (Delete key now)) _ = ⊥
IsAnswerTo (Write request) (answer.Write told) = Unit {0}
IsAnswerTo (Get key now) (answer.Get told) = Unit {0}
IsAnswerTo (Gets key now) (answer.Gets told) = Unit {0}
IsAnswerTo (Keep segment cutoff) (answer.Keep told) = Unit {0}
IsAnswerTo (Evict segment) (answer.Evict told) = Unit {0}
IsAnswerTo (Refill segment deadline) (answer.Refill told) = Unit {0}
IsAnswerTo _ _ = ⊥

-- A command is answered by an answer to such a command.
abbrev pub CommandHasItsAnswer : Type 0
CommandHasItsAnswer = OfCommand (λ b command told p q. IsAnswerTo command told)

-- The pass is quiet again, what it has seen only grew, and its hold and its lock are as they were.
abbrev pub CommandGoesOn : Type 0
CommandGoesOn = OfCommand (λ b command told p q. GoesOn b p q × (memo q ≡ memo p))

-- ---- reads and writes

-- what a read or a write does; what was refused does nothing, nor does what makes room
abbrev pub effect_of : Command → Answer → Option Effect
effect_of (Get key now) (answer.Get told) = effect_of_get key now told
effect_of (Gets key now) (answer.Gets told) = effect_of_gets key now told
effect_of (Write request) (answer.Write told) = effect_of_write request (reply_of_write told)
effect_of (Write request) (answer.Delete told) = effect_of_write request (reply_of_delete told)
effect_of _ _ = None

-- What is read, or replied to a write, is what a cache of one thread returns
-- at a moment of the call.
abbrev pub CommandHasEffect : Type 0
CommandHasEffect = OfCommand (λ b command told p q.
    IfSome (effect_of command told) (λ effect. Had b.shape effect p q))

-- ---- entries

-- how many entries an answer tells of: one for a reply, one for each item that was moved,
-- each key that was taken out, and a segment that was refilled
abbrev pub entries_told : Answer → ℕ
entries_told (answer.Write told) = if is_some (reply_of_write told) then 1 else 0
entries_told (answer.Delete told) = if is_some (reply_of_delete told) then 1 else 0
entries_told (answer.Keep told) = kept told
entries_told (answer.Evict told) = keys_evicted told
entries_told (answer.Refill refill.Refilled) = 1
entries_told _ = 0

-- the entry is of this command of the pass; an item was moved if it was read often enough
abbrev pub IsOfCommand : Shape → Command → Pass → Pass → Entry → Type 0
IsOfCommand shape (Write request) p q entry =
    (said : Reply) × (segment : Option ℕ) × (entry ≡ Wrote (number p) request said segment)
IsOfCommand shape (Keep segment cutoff) p q entry =
    (key : List ℕ) × (into : ℕ) × (entry ≡ Moved (number p) key segment into)
    × WasOften shape segment cutoff p q key
IsOfCommand shape (Evict segment) p q entry =
    (key : List ℕ) × (entry ≡ Evicted (number p) key segment)
IsOfCommand shape (Refill segment deadline) p q entry =
    entry ≡ Refilled (number p) segment deadline
IsOfCommand shape _ p q entry = ⊥

-- The pass adds as many entries as the answer tells of, each of the command.
abbrev pub CommandAddsEntries : Type 0
CommandAddsEntries = OfCommand (λ b command told p q. (more : List Entry)
    × (length more ≡ entries_told told)
    × AllByRecursion (IsOfCommand b.shape command p q) more
    × (mine q ≡ more ++ mine p))

-- ---- segments

-- what a keep left was read too seldom, no key stands in a segment that was evicted,
-- and a segment that was refilled is current
abbrev pub LeavesSegment : Shape → Command → Answer → Pass → Pass → Type 0
LeavesSegment shape (Keep segment cutoff) (answer.Keep (keep.Kept count)) p q =
    AreSeldom shape segment cutoff p q
LeavesSegment shape (Evict segment) (answer.Evict (evict.Evicted count)) p q =
    NoneStandsIn (after shape (seen q)) segment
LeavesSegment shape (Refill segment deadline) (answer.Refill refill.Refilled) p q =
    current_of q ≡ Some segment
LeavesSegment shape _ _ p q = Unit {0}

-- What a keep that is Kept left in its segment was read too seldom.
-- No key stands in a segment that was evicted. The pass stores into a segment that was refilled.
abbrev pub CommandLeavesSegment : Type 0
CommandLeavesSegment = OfCommand (λ b command told p q. LeavesSegment b.shape command told p q)

-- ---- refusals

-- why the answer is a refusal, if it is one
abbrev pub IsReason : Board → Command → Answer → Pass → Pass → Type 0
IsReason b (Get key now) (answer.Get get.Busy) p q =
    SinceFirst p q (λ start. 64 ≤ stirred b.shape key (event.seen start) (seen q))
IsReason b (Gets key now) (answer.Gets gets.Busy) p q =
    SinceFirst p q (λ start. IsDisturbed b.shape key now (event.seen start) p q
    ⊎ PresentLocked b.shape key now (event.seen start) p q)
IsReason b (Write request) (answer.Write write.NoRoom) p q =
    has_room_for b.shape (rows_of request) p ≡ false
IsReason b (Write request) (answer.Write write.BucketFull) p q =
    SinceFirst p q (λ start. WasFull b.shape (key_of request) (mark.marked start) (marked q))
IsReason b (Write request) (answer.Write write.Busy) p q =
    IsBusy (bucket_of b.shape (key_of request)) p q
IsReason b (Write request) (answer.Delete delete.Busy) p q =
    IsBusy (bucket_of b.shape (key_of request)) p q
IsReason b (Keep segment cutoff) (answer.Keep keep.NotYours) p q = state_of p segment ≡ None
IsReason b (Keep segment cutoff) (answer.Keep (keep.NoRoom count)) p q =
    ((into : ℕ) → ¬ (IsKeepTarget segment into p)) ⊎ LacksRows b segment p q
IsReason b (Keep segment cutoff) (answer.Keep (keep.Busy count)) p q =
    IsInTheWay b.shape (WasOften b.shape segment cutoff p q) p q
IsReason b (Evict segment) (answer.Evict evict.NotYours) p q = state_of p segment ≡ None
IsReason b (Evict segment) (answer.Evict (evict.Busy count)) p q =
    IsInTheWay b.shape (λ key. StoodIn b.shape segment key p q) p q
IsReason b (Refill segment deadline) (answer.Refill refill.NotYours) p q =
    state_of p segment ≡ None
IsReason b (Refill segment deadline) (answer.Refill refill.NotEvicted) p q =
    state_of p segment ≡ Some InUse
IsReason b (Refill segment deadline) (answer.Refill refill.Held) p q = IsBeingRead segment q
IsReason b _ _ p q = Unit {0}

-- A command is refused for a reason: too few rows are left, a bucket is full or in the way,
-- the segment isn't the pass's own, is in use, or is being read.
abbrev pub CommandIsRefused : Type 0
CommandIsRefused = OfCommand (λ b command told p q. IsReason b command told p q)
