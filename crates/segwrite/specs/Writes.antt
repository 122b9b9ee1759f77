-- What a write or a delete answers, in the terms of the model, what it changes, and what it costs.
use Rattle.std.specs.Prelude.{◌≡◌, ◌≢◌, ◌⊎◌, ◌↔◌, ℕ, ◌+◌, true, false, List, Some, None}
use Rattle.segword.specs.Words.{Shape}
use Rattle.segmodel.specs.declared.entry.Entry.TheVariants.{Wrote}
use Rattle.segmodel.specs.declared.request.Request.TheVariants.{Delete}
use Rattle.segmodel.specs.declared.request.Reply.TheVariants as reply
use Rattle.segmodel.specs.declared.answer.WriteAnswer.TheVariants as write
use Rattle.segmodel.specs.declared.answer.DeleteAnswer.TheVariants as delete
use Rattle.segmodel.specs.Words.{adds_key, bucket_of, DeleteAnswer, key_of, Reply, Request}
use Rattle.segmodel.specs.Words.{WriteAnswer}
use Rattle.segcore.specs.Words.{entered, glanced}
use Rattle.segbase.specs.Words.{Board, count, current_of, locked_of, marked, number, OwnSegment}
use Rattle.segbase.specs.Words.{Pass, SinceFirst, trace, with_own}
use Rattle.segcore.specs.Mark as mark
use Rattle.segstore.specs.Words.{AddsEntry, ChangesNothing, DrawsNothing, GoesOn, has_room_for, IsBusy}
use Rattle.segstore.specs.Words.{memo, RaisesNothing, ReadsNothing, TakesAtMost, TakesOneBit}
use Rattle.segwrite.specs.Presence.{CameIn, depends_on_key}
use Rattle.segwrite.specs.FirstEmpty.{TookFirstEmpty}
use Rattle.segwrite.specs.Spans.{rows_of}
use Rattle.segwrite.specs.Full.{WasFull, GrowsFor}
use Rattle.segwrite.specs.Steps.{most_steps_of_delete, WritesInSteps}

-- ---- writes

-- so many rows more of an own segment are used
abbrev pub more : ℕ → OwnSegment → OwnSegment
more rows own = record own { used = own.used + rows }

abbrev pub one_more : OwnSegment → OwnSegment
one_more own = more 1 own

-- so many rows more of the pass's current segment are used,
-- and nothing else of what the pass keeps is changed
pub record UsesRows (segment rows : ℕ) (p q : Pass) : Type 0 where
  pub current : current_of p ≡ Some segment
  pub plain : q.plain ≡ with_own segment (more rows) p.plain
  pub memo : memo q ≡ memo p

abbrev pub UsesRow : ℕ → Pass → Pass → Type 0
UsesRow segment p q = UsesRows segment 1 p q

-- the request has this reply, by an entry that stores nothing
abbrev pub AddsReply : Request → Reply → Pass → Pass → Type 0
AddsReply request told p q =
    AddsEntry (Wrote (number p) request told None) p q × (q.plain ≡ p.plain) × (memo q ≡ memo p)

-- A request to store was stored in the current segment, or the cache refused it with a reply.
-- Each is one entry.
-- Without an entry it was refused for lack of a row, of a word, or of the bit.
-- A word is lacking only for a set or an add of a new key, at a moment after the first step.
abbrev pub IsWriteAnswer : Shape → Request → WriteAnswer → Pass → Pass → Type 0
IsWriteAnswer shape request write.Stored p q =
    (segment : ℕ)
    × AddsEntry (Wrote (number p) request reply.Stored (Some segment)) p q
    × UsesRows segment (rows_of request) p q
IsWriteAnswer shape request write.NotStored p q = AddsReply request reply.NotStored p q
IsWriteAnswer shape request write.Exists p q = AddsReply request reply.Exists p q
IsWriteAnswer shape request write.NotFound p q = AddsReply request reply.NotFound p q
IsWriteAnswer shape request write.NoRoom p q = q ≡ p
IsWriteAnswer shape request write.BucketFull p q =
    ChangesNothing p q
    × (adds_key request false ≡ true)
    × SinceFirst p q (λ start. WasFull shape (key_of request) (mark.marked start) (marked q))
IsWriteAnswer shape request write.Busy p q =
    ChangesNothing p q × IsBusy (bucket_of shape (key_of request)) p q

-- a set is stored, or lacks a row, a word or the bit
abbrev pub IsSetAnswer : WriteAnswer → Type 0
IsSetAnswer write.NotStored = ⊥
IsSetAnswer write.Exists = ⊥
IsSetAnswer write.NotFound = ⊥
IsSetAnswer _ = Unit {0}

-- a delete has its reply by one entry, or is Busy, without an entry, for lack of the bit
abbrev pub IsDeleteAnswer : Shape → List ℕ → ℕ → DeleteAnswer → Pass → Pass → Type 0
IsDeleteAnswer shape key now delete.Deleted p q = AddsReply (Delete key now) reply.Deleted p q
IsDeleteAnswer shape key now delete.NotFound p q = AddsReply (Delete key now) reply.NotFound p q
IsDeleteAnswer shape key now delete.Busy p q = ChangesNothing p q × IsBusy (bucket_of shape key) p q

-- ---- what they cost

-- The pass raised no frequency, and no look of it without the bit found the bit set.
-- It came into a segment once at most, and the key stood there at that moment.
pub record EntersForKey (shape : Shape) (key : List ℕ) (p q : Pass) : Type 0 where
  pub raises_nothing : RaisesNothing p q
  pub glanced : (bucket : ℕ) → count (glanced bucket) q ≡ count (glanced bucket) p
  pub entered : (count entered q ≡ count entered p)
      ⊎ ((count entered q ≡ count entered p + 1)
      × ((segment : ℕ) × CameIn shape key (number p) segment (trace p) (trace q)))

-- Stored: the pass took one bit, and a new key is stored in the first empty word of its chain.
-- Busy: the pass drew no overflow bucket, and did nothing of what readers do.
-- NoRoom: the answer says all. For any other answer the pass took one bit, and drew nothing.
abbrev pub CostsOfAnswer : Shape → Request → WriteAnswer → Pass → Pass → Type 0
CostsOfAnswer shape request write.Stored p q =
    TakesOneBit (bucket_of shape (key_of request)) p q
    × TookFirstEmpty shape request (number p) (marked p) (marked q)
CostsOfAnswer shape request write.NoRoom p q = Unit {0}
CostsOfAnswer shape request write.Busy p q = DrawsNothing p q × ReadsNothing p q
CostsOfAnswer shape request _ p q =
    TakesOneBit (bucket_of shape (key_of request)) p q × DrawsNothing p q

-- the pass comes into no segment for a set
pub record CostsOfWrite (shape : Shape) (request : Request) (told : WriteAnswer) (p q : Pass)
    : Type 0 where
  pub of_answer : CostsOfAnswer shape request told p q
  pub steps : WritesInSteps shape request told p q
  pub grows : GrowsFor shape request p q
  pub enters : EntersForKey shape (key_of request) p q
  pub reads_nothing : depends_on_key request ≡ false → ReadsNothing p q

-- a delete takes one bit, or is Busy
pub record CostsOfDelete (shape : Shape) (key : List ℕ) (told : DeleteAnswer) (p q : Pass)
    : Type 0 where
  pub takes : told ≢ delete.Busy → TakesOneBit (bucket_of shape key) p q
  pub steps : TakesAtMost (most_steps_of_delete told) p q
  pub draws_nothing : DrawsNothing p q
  pub enters : EntersForKey shape key p q
  pub reads_nothing : told ≡ delete.Busy → ReadsNothing p q

-- ---- whole calls

-- A set, an add, a replace or a cas has this answer.
-- NoRoom comes first, exactly if the pass has too few rows left.
-- Then comes Busy, always if the pass itself has the bucket locked.
pub record Writes (b : Board) (request : Request) (told : WriteAnswer) (p q : Pass) : Type 0 where
  pub on : GoesOn b p q
  pub answer : IsWriteAnswer b.shape request told p q
  pub no_room : (told ≡ write.NoRoom) ↔ (has_room_for b.shape (rows_of request) p ≡ false)
  pub locked : has_room_for b.shape (rows_of request) p ≡ true
      → locked_of p ≡ Some (bucket_of b.shape (key_of request))
      → told ≡ write.Busy
  pub costs : CostsOfWrite b.shape request told p q

-- a delete has this answer, and needs no row
pub record Deletes (b : Board) (key : List ℕ) (now : ℕ) (told : DeleteAnswer) (p q : Pass)
    : Type 0 where
  pub on : GoesOn b p q
  pub answer : IsDeleteAnswer b.shape key now told p q
  pub locked : locked_of p ≡ Some (bucket_of b.shape key) → told ≡ delete.Busy
  pub costs : CostsOfDelete b.shape key told p q
