-- The words of this crate that others use, from one place.
pub use Rattle.segstore.specs.Calls.{AddsEntry, ChangesNothing, CostsNothing, DrawsNothing, GoesOn}
pub use Rattle.segstore.specs.Calls.{IsBusy, memo, RaisesNothing, ReadsNothing, step_count}
pub use Rattle.segstore.specs.Calls.{TakesAtMost, TakesNoBit, TakesOneBit}
pub use Rattle.segstore.specs.Chains.{first_word, IsNext, LeadsNowhere, LeadsTo, next_word}
pub use Rattle.segstore.specs.Copying.{CopiesValue}
pub use Rattle.segstore.specs.Linked.{FoundItem, FoundKey, IsChained, IsKeyed, row_part, SawItem}
pub use Rattle.segstore.specs.Linked.{SawWord, segment_part, WasLinked, word_of_place}
pub use Rattle.segstore.specs.Locks.{IsLockAnswer, IsUnlockAnswer, LocksBucket, NoneSince}
pub use Rattle.segstore.specs.Locks.{SetsLock, UnlocksBucket}
pub use Rattle.segstore.specs.Props.{IsQuiet-prop, KeepsSegments-prop}
pub use Rattle.segstore.specs.Quiet.{is_held_in, IsHold, IsLock, IsQuiet, MayEnterAny}
pub use Rattle.segstore.specs.Reading.{HoldsPair, IsReadable, IsReader, IsReaderIn}
pub use Rattle.segstore.specs.Reading.{LeavesSegment, MayReadItem, OnlyLooks}
pub use Rattle.segstore.specs.Reading.{ReadsRow}
pub use Rattle.segstore.specs.Refilling.{FillsWith, Idles, IsOutcome, IsOutcomeWith, refilled}
pub use Rattle.segstore.specs.Refilling.{refilled_aside, TakesOneStep}
unfoldable pub use Rattle.segstore.specs.Rows.{fills}
pub use Rattle.segstore.specs.Rows.{StoresRow}
pub use Rattle.segstore.specs.Segments.{are_left, AreRows, has_room, has_room_for, is_below}
pub use Rattle.segstore.specs.Segments.{KeepsSegments}
pub use Rattle.segstore.specs.Sought.{IsSought}
unfoldable pub use Rattle.segstore.specs.Taking.{bounces}
pub use Rattle.segstore.specs.Taking.{HasCleanBit, peek, TakesToWrite, TookToWrite}
use Rattle.segstore.specs.declared.bucket.LockAnswer as declared_lock_answer

-- The types of this crate that others name.
abbrev pub LockAnswer : Type 0
LockAnswer = declared_lock_answer.LockAnswer
