-- Laws of quiet passes and of replies. Each is proved as the contract of a function in src/laws.rt.
use Rattle.std.specs.Prelude.{◌≡◌, ◌≢◌, ℕ, ◌+◌, ◌*◌, ◌^◌, ◌<◌, ◌≤◌, ◌↔◌, nat_lt, true, is_some, IsSome, List, Some}
use Rattle.segword.specs.Words.{covers, most_rows}
use Rattle.segmodel.specs.declared.request.Request.TheVariants.{Cas, Delete}
use Rattle.segmodel.specs.declared.answer.GetsAnswer.TheVariants.{Found}
use Rattle.segmodel.specs.declared.answer.KeepAnswer.TheVariants.{Kept}
use Rattle.segmodel.specs.declared.answer.SegState.TheVariants.{InUse}
use Rattle.segmodel.specs.Words.{after, Begins, DeleteAnswer, Entry, IsLegal, keys_in, NoneStandsIn}
use Rattle.segmodel.specs.Words.{owner, Reply, reply_of_delete, reply_of_write, Request, SegState}
use Rattle.segmodel.specs.Words.{stirred, WriteAnswer}
use Rattle.segcore.specs.Words.{bounced, chained_to, entries, glanced, inside, IsSegment, linked_in}
use Rattle.segcore.specs.Words.{span_in, width}
use Rattle.segbase.specs.Words.{Board, count, current_of, deadline_of, Locked, locked, locked_of}
use Rattle.segbase.specs.Words.{marked, mine, number, Pass, seen, SinceFirst, state_of, trace}
use Rattle.segbase.specs.Words.{used_of}
use Rattle.segcore.specs.Event as event
use Rattle.segstore.specs.Words.{IsBusy, IsQuiet, NoneSince}
use Rattle.segwrite.specs.Words.{cas_reply, Deletes, WasTold, Writes}
use Rattle.segread.specs.Words.{IsGetsAnswer}
use Rattle.segevict.specs.Words.{KeepsItems}

-- ---- a quiet pass

-- `Is` holds of each quiet pass of each index.
abbrev pub OfQuiet : (Board → Pass → Type 0) → Type 0
OfQuiet Is = (b : Board) (p : Pass) → IsQuiet b p → Is b p

-- What the pass has seen is a history of a cache of one thread.
abbrev pub SeenIsLegal : Type 0
SeenIsLegal = OfQuiet (λ b p. IsLegal b.shape (seen p))

-- The history with marks that the pass has seen is the one without, once the marks are left out.
abbrev pub MarksAreBeside : Type 0
MarksAreBeside = OfQuiet (λ b p. entries (marked p) ≡ seen p)

-- The pass knows the states of just its own segments.
abbrev pub KnowsItsOwn : Type 0
KnowsItsOwn = OfQuiet
    (λ b p. (segment : ℕ) → IsSome (state_of p segment) ↔ (owner b.shape segment ≡ number p))

-- The segments whose states the pass knows are segments of the table.
abbrev pub OwnAreInTable : Type 0
OwnAreInTable =
    OfQuiet (λ b p. (segment : ℕ) → IsSome (state_of p segment) → IsSegment b.shape segment)

-- The row is one of the rows of an item that was linked in this filling.
abbrev pub IsOfLinkedItem : Pass → ℕ → ℕ → Type 0
IsOfLinkedItem p segment row = (first : ℕ)
    × IsSome (linked_in (marked p) segment first)
    × (covers first (span_in (trace p) segment first) row ≡ true)

-- Of a segment of the pass those rows are used that are rows of items that were linked
-- in this filling.
abbrev pub UsedAreLinked : Type 0
UsedAreLinked = OfQuiet (λ b p. (segment used row : ℕ) → used_of p segment ≡ Some used
    → row < b.shape.rows → (row < used) ↔ IsOfLinkedItem p segment row)

-- An item that was linked to a row in this filling, as its first one, takes no more rows
-- than the table's limits allow.
abbrev pub ItemsAreWithin : Type 0
ItemsAreWithin = OfQuiet (λ b p. (segment row : ℕ) → IsSome (linked_in (marked p) segment row)
    → span_in (trace p) segment row ≤ most_rows b.limits)

-- Where the table's limits allow an item only one row, an item was linked to each used row in this
-- filling, and to no other row.
abbrev pub EachUsedIsLinked : Type 0
EachUsedIsLinked = OfQuiet (λ b p. most_rows b.limits ≡ 1
    → (segment used row : ℕ) → used_of p segment ≡ Some used
    → row < b.shape.rows → is_some (linked_in (marked p) segment row) ≡ nat_lt row used)

-- The segment that the pass stores into is in use.
abbrev pub CurrentIsInUse : Type 0
CurrentIsInUse =
    OfQuiet (λ b p. (segment : ℕ) → current_of p ≡ Some segment → state_of p segment ≡ Some InUse)

-- A deadline that the pass keeps of a segment is the segment's deadline in the cache.
abbrev pub DeadlinesAreKnown : Type 0
DeadlinesAreKnown = OfQuiet (λ b p. (segment deadline : ℕ) → deadline_of p segment ≡ Some deadline
    → (after b.shape (seen p)).deadline segment ≡ deadline)

-- No key stands in a segment of the pass that isn't in use.
abbrev pub UnusedIsEmpty : Type 0
UnusedIsEmpty = OfQuiet (λ b p. (segment : ℕ) (state : SegState) → state_of p segment ≡ Some state
    → state ≢ InUse → NoneStandsIn (after b.shape (seen p)) segment)

-- A keep with the cutoff 0 that is told Kept leaves no key in the segment.
abbrev pub KeptAllLeavesNone : Type 0
KeptAllLeavesNone = (b : Board) (segment count : ℕ) (p q : Pass)
    → IsQuiet b p
    → KeepsItems b segment 0 (Kept count) p q
    → NoneStandsIn (after b.shape (seen q)) segment

-- No entry came into the bucket that the pass has locked, since it was locked.
abbrev pub LockedIsStill : Type 0
LockedIsStill =
    OfQuiet (λ b p. (lock : Locked) → locked p ≡ Some lock → NoneSince b.shape lock (seen p))

-- At most seven keys of a bucket stand,
-- and six more for each overflow bucket that joined its chain.
abbrev pub KeysAreFew : Type 0
KeysAreFew = OfQuiet (λ b p. (bucket : ℕ)
    → keys_in b.shape (after b.shape (seen p)) bucket ≤ 6 * chained_to (marked p) bucket + 7)

-- No chain has more overflow buckets than there are.
abbrev pub ChainsAreShort : Type 0
ChainsAreShort = OfQuiet (λ b p. (bucket : ℕ) → chained_to (marked p) bucket ≤ b.shape.overflow)

-- ---- the only pass of an index

-- `Is` holds of each quiet pass that is the only one of its index.
abbrev pub OfOnly : (Board → Pass → Type 0) → Type 0
OfOnly Is = OfQuiet (λ b p. b.shape.passes ≡ 1 → Is b p)

-- `Is` holds of the only pass of an index at any two moments at which it is quiet.
abbrev pub OfOnlyTwice : (Board → Pass → Pass → Type 0) → Type 0
OfOnlyTwice Is =
    (b : Board) (p q : Pass) → IsQuiet b p → IsQuiet b q → b.shape.passes ≡ 1 → Is b p q

-- Each entry that the pass has seen is its own.
abbrev pub AllAreOwn : Type 0
AllAreOwn = OfOnly (λ b p. mine p ≡ seen p)

-- No take of the pass found a bit of another's.
abbrev pub NoTakeBounced : Type 0
NoTakeBounced = OfOnly (λ b p. (bucket : ℕ) → count (bounced bucket) p ≡ 0)

-- No look of the pass found a bit of another's.
abbrev pub NoLookGlanced : Type 0
NoLookGlanced = OfOnly (λ b p. (bucket : ℕ) → count (glanced bucket) p ≡ 0)

-- Nobody else is in a segment.
abbrev pub NobodyIsInside : Type 0
NobodyIsInside =
    OfOnly (λ b p. (other segment : ℕ) → other ≢ number p → inside (trace p) other segment ≡ 0)

-- Each overflow bucket that was drawn has joined its chain.
abbrev pub DrawnHaveJoined : Type 0
DrawnHaveJoined =
    OfOnly (λ b p. (bucket : ℕ) → width (marked p) bucket ≡ chained_to (marked p) bucket + 1)

-- Only the bucket that the pass has locked itself is busy.
abbrev pub BusyIsLocked : Type 0
BusyIsLocked = OfOnlyTwice (λ b p q. (bucket : ℕ) → IsBusy bucket p q → locked_of p ≡ Some bucket)

-- While the pass adds no entry, nothing comes into the bucket of a key.
abbrev pub NothingIsStirred : Type 0
NothingIsStirred = OfOnlyTwice
    (λ b p q. (key : List ℕ) → mine q ≡ mine p → stirred b.shape key (seen p) (seen q) ≡ 0)

-- ---- replies

-- A reply to a write is that of a cache of one thread at one moment after the call's first step.
-- At that moment the write's entry came into the history.
abbrev pub WritesAtAMoment : Type 0
WritesAtAMoment = (b : Board) (p q : Pass) (request : Request) (told : WriteAnswer) (said : Reply)
    → Writes b request told p q → reply_of_write told ≡ Some said
    → SinceFirst p q
    (λ start. WasTold b.shape (number p) request said (event.seen start) (seen q))

-- The same is so of a reply to a delete.
abbrev pub DeletesAtAMoment : Type 0
DeletesAtAMoment =
    (b : Board) (p q : Pass) (key : List ℕ) (now : ℕ) (told : DeleteAnswer) (said : Reply)
    → Deletes b key now told p q
    → reply_of_delete told ≡ Some said
    → SinceFirst p q
    (λ start. WasTold b.shape (number p) (Delete key now) said (event.seen start) (seen q))

-- A gets of one pass, from `reader` to `found`, gave a version, of a moment since a history.
-- A cas of any pass, from `p` to `q`, expects this version, and was replied.
-- `Is` holds of any such two calls, with the history at the gets (`got.0`),
-- the history at the cas (`was.1.0`), and the cas's `now`.
abbrev pub OfGetsAndCas : ((b : Board) → List ℕ → (now : ℕ) → (found p : Pass) → Reply
    → (read entered : List Entry) → Type 0) → Type 0
OfGetsAndCas Is =
    (b : Board) (reader found p q : Pass) (key read value : List ℕ) (version before now : ℕ)
    (told : WriteAnswer) (said : Reply) (old : List Entry)
    → b.shape.first_version < 2 ^ 32
    → (got : IsGetsAnswer b.shape key before (Found read version) old reader found)
    → Writes b (Cas key value version now) told p q
    → reply_of_write told ≡ Some said
    → (was : WasTold b.shape (number p) (Cas key value version now) said (seen p) (seen q))
    × Is b key now found p said got.0 was.1.0

-- A cas that is entered later than the gets is NotFound if its key is absent then.
-- Otherwise the cas is Exists exactly if the numbers of the bucket's writes at the two moments
-- differ modulo 2^32, and else Stored.
abbrev pub CasFailsWhereWrittenSince : Type 0
CasFailsWhereWrittenSince =
    OfGetsAndCas (λ b key now found p said read entered.
    Begins read entered → said ≡ cas_reply b.shape key now read entered)

-- The same is so if the cas's pass, when it called, had seen all that the gets had seen.
abbrev pub CasCalledLaterFails : Type 0
CasCalledLaterFails =
    OfGetsAndCas (λ b key now found p said read entered.
    Begins (seen found) (seen p) → said ≡ cas_reply b.shape key now read entered)
