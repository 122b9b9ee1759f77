-- Which request a write of a pair makes, what a cache of one thread replies in place of storing
-- it, and how the bit is given back.
use Rattle.std.specs.Prelude.{◌≡◌, ℕ, Bool, true, false, List, [], ◌∷◌, Option, Some, None}
use Rattle.segmodel.specs.declared.request.Request.TheVariants.{Set, Add, Replace, Cas}
use Rattle.segmodel.specs.declared.request.Reply.TheVariants.{Stored, NotFound}
use Rattle.segmodel.specs.declared.answer.DeleteAnswer.TheVariants as delete
use Rattle.segmodel.specs.Words.{after, bucket_of, DeleteAnswer, key_of, moment_of, Reply, reply_in}
use Rattle.segmodel.specs.Words.{reply_of_write, Request, WriteAnswer}
use Rattle.segcore.specs.declared.event.Event.TheVariants.{Freed, Replied, Unlinked}
use Rattle.segcore.specs.declared.event.Leaving.TheVariants.{Deletes}
use Rattle.segcore.specs.Words.{bucket_after, Event, IsRefusal}
use Rattle.segbase.specs.Words.{AddsEvents, Board, number, Pass, seen, trace}
use Rattle.segstore.specs.Words.{memo}
use Rattle.segwrite.specs.Presence.{Peeks}
use Rattle.segwrite.specs.declared.condition.Condition.{Condition}
use Rattle.segwrite.specs.declared.condition.Condition.TheVariants as condition

-- the request of a write with this condition
abbrev pub request_of : Condition → List ℕ → List ℕ → ℕ → Request
request_of condition.Always key value now = Set key value now
request_of condition.IfAbsent key value now = Add key value now
request_of condition.IfPresent key value now = Replace key value now
request_of (condition.IfVersion version) key value now = Cas key value version now

-- the reply is the one that the refusal tells; without a refusal it is Stored
abbrev pub IsToldBy : Reply → Option WriteAnswer → Type 0
IsToldBy reply None = reply ≡ Stored
IsToldBy reply (Some refusal) = (reply_of_write refusal ≡ Some reply) × IsRefusal reply

-- the reply of the cache as the pass has seen it
abbrev pub reply_now : Board → Pass → Request → Reply
reply_now b p request = reply_in b.shape (after b.shape (seen p)) request

-- The bit of the bucket was given back. Before that the pass added just these events, newest first.
-- What the pass keeps is as it was.
pub record GivesBack (b : Board) (bucket : ℕ) (counted : Bool) (own : List Event) (p q : Pass)
    : Type 0 where
  pub moved : AddsEvents b (Freed (number p) bucket counted ∷ own) p q
  pub free : (bucket_after b.shape (trace q) bucket).holder ≡ None
  pub plain : q.plain ≡ p.plain
  pub memo : memo q ≡ memo p

-- the refused request came into the history, and the bit was given back
abbrev pub RefusesUnderBit : Board → Request → Reply → Pass → Pass → Type 0
RefusesUnderBit b request reply p q =
    GivesBack b (bucket_of b.shape (key_of request)) false
    (Replied (number p) request reply ∷ []) p q

-- Once the pass knew whether the key is present, a present key left its word,
-- or the refusal entered the history.
-- Then the bit was given back.
abbrev pub RemovesPresent : Board → Request → DeleteAnswer → Pass → Pass → Type 0
RemovesPresent b request delete.Deleted p q =
    (position : ℕ)
    × GivesBack b (bucket_of b.shape (key_of request)) true
    (Unlinked (number p) (key_of request) position (Deletes (moment_of request)) ∷ []) p q
RemovesPresent b request delete.NotFound p q = RefusesUnderBit b request NotFound p q
RemovesPresent b request delete.Busy p q = ⊥

abbrev pub Removes : Board → Request → DeleteAnswer → Pass → Pass → Type 0
Removes b request told p q =
    (between : Pass) × Peeks b (key_of request) p between × RemovesPresent b request told between q
