-- What the commands of a pass do in a load: how each is counted, which entries the pass adds,
-- and what its next commands depend on.
-- A read adds no entry. That it was made is said by the calls (`Calls`).
use Rattle.std.specs.Prelude.{◌≡◌, ◌≢◌, ◌⊎◌, ℕ, zero, suc, ◌≤◌, true, false, List, [], ◌∷◌, ◌++◌, Option, Some, None}
use Rattle.segword.specs.Words.{Shape}
use Rattle.segmodel.specs.declared.request.Request.TheVariants as request
use Rattle.segmodel.specs.declared.request.Reply.TheVariants as reply
use Rattle.segmodel.specs.declared.entry.Entry.TheVariants.{Wrote, Refilled}
use Rattle.segmodel.specs.Words.{adds_key, after, Begins, bucket_of, Cache, Entry, key_of, keys_in}
use Rattle.segmodel.specs.Words.{mine, reads, reads_version, Request, standing}
use Rattle.segevict.specs.Words.{AreEvictions}
use Rattle.segpolicy.specs.declared.load.Kind.TheVariants as kind
use Rattle.segpolicy.specs.Words.{after_load, Cycle, Draws, Kind, Load, next_load, next_of, turned}
use Rattle.segtally.specs.declared.tally.Tally.{Tally}
use Rattle.segtally.specs.declared.tally.Tally.TheVariants as tally
use Rattle.segtally.specs.Rings.{first_ring}
use Rattle.segload.specs.declared.totals.Tallies.{Tallies}
use Rattle.segload.specs.Counting.{no_tallies, with_one_more}

-- ---- from one command to the next

-- what the next commands of a pass depend on: its segments, which it clears in turn,
-- and the version that its last gets found
pub record ClientState : Type 0 where
  pub segments : Cycle
  pub version : ℕ

-- the state at the start: the pass's segments from the first on, and version 0
abbrev pub start_of : Shape → ℕ → ClientState
start_of shape pass = record {
  segments = first_ring shape pass;
  version = 0;
}

-- the state after the pass gave up a segment: the next one is the next of its ring
abbrev pub turned_on : ClientState → ClientState
turned_on course = record course { segments = turned course.segments }

-- ---- reads

-- the moment that each command of a load is made with
abbrev pub load_moment : ℕ
load_moment = 0

-- At a moment of the history at which the entries of the pass were just these,
-- this was so of the cache.
abbrev pub AtMoment : Shape → List Entry → ℕ → List Entry → (Cache → Type 0) → Type 0
AtMoment shape history pass own IsSo =
    (moment : List Entry)
    × Begins moment history
    × (mine pass moment ≡ own)
    × IsSo (after shape moment)

-- At such a moment the key read so, to a command with the moment of the load.
abbrev pub ReadsWhen : Shape → List Entry → ℕ → List Entry → List ℕ → Option (List ℕ) → Type 0
ReadsWhen shape history pass own key read =
    AtMoment shape history pass own (λ cache. reads cache load_moment key ≡ read)

-- A read is a hit if the key reads a value, and a miss if the key reads none.
-- A read is busy only if there are other passes.
abbrev pub IsReadAs : Shape → List Entry → ℕ → List Entry → List ℕ → Tally → Type 0
IsReadAs shape history pass own key tally.Hit =
    (value : List ℕ) × ReadsWhen shape history pass own key (Some value)
IsReadAs shape history pass own key tally.Miss = ReadsWhen shape history pass own key None
IsReadAs shape history pass own key tally.Busy = shape.passes ≢ 1
IsReadAs shape history pass own key _ = ⊥

-- A gets is read so too. If it is a hit, the pass keeps the bucket's version of the same moment.
abbrev pub IsVersionReadAs : Shape → List Entry → ℕ → List Entry → List ℕ → Tally → ClientState
    → ClientState → Type 0
IsVersionReadAs shape history pass own key tally.Hit from to =
    (value : List ℕ)
    × AtMoment shape history pass own
    (λ cache. reads_version shape cache load_moment key ≡ Some (value, to.version))
    × (to.segments ≡ from.segments)
IsVersionReadAs shape history pass own key told from to =
    IsReadAs shape history pass own key told × (to ≡ from)

-- ---- writes

-- The key doesn't stand, and at least seven others of its bucket do:
-- as many as fill one whose chain hasn't grown.
abbrev pub IsFullFor : Shape → List ℕ → Cache → Type 0
IsFullFor shape key cache =
    (standing cache key ≡ None) × (7 ≤ keys_in shape cache (bucket_of shape key))

-- A write is counted by its reply, and adds one entry, of just this request with this reply.
-- Or the write is refused, and adds no entry.
-- It is BucketFull only if it may add a key,
-- and if others filled the key's bucket at such a moment.
-- It is Busy only if there are other passes.
abbrev pub IsWrittenAs : Shape → List Entry → ℕ → Request → Tally → List Entry → List Entry → Type 0
IsWrittenAs shape history pass asked tally.Stored old new =
    (segment : ℕ) × (new ≡ Wrote pass asked reply.Stored (Some segment) ∷ old)
IsWrittenAs shape history pass asked tally.NotStored old new =
    new ≡ Wrote pass asked reply.NotStored None ∷ old
IsWrittenAs shape history pass asked tally.Exists old new =
    new ≡ Wrote pass asked reply.Exists None ∷ old
IsWrittenAs shape history pass asked tally.NotFound old new =
    new ≡ Wrote pass asked reply.NotFound None ∷ old
IsWrittenAs shape history pass asked tally.Deleted old new =
    new ≡ Wrote pass asked reply.Deleted None ∷ old
IsWrittenAs shape history pass asked tally.BucketFull old new =
    (new ≡ old)
    × (adds_key asked false ≡ true)
    × AtMoment shape history pass old (IsFullFor shape (key_of asked))
IsWrittenAs shape history pass asked tally.Busy old new = (new ≡ old) × (shape.passes ≢ 1)
IsWrittenAs shape history pass asked _ old new = ⊥

-- the deadline of each segment that a load refills: the last moment of all
abbrev pub load_deadline : ℕ
load_deadline = 4294967295

-- The pass took keys out of a segment, each by one entry.
abbrev pub Empties : ℕ → ℕ → List Entry → List Entry → Type 0
Empties pass segment old new =
    (evictions : List Entry) × AreEvictions pass segment evictions × (new ≡ evictions ++ old)

-- A segment was given up for a request: it was emptied and refilled up to the load's deadline.
-- Then the request was written.
-- Or the segment couldn't be refilled, but only if there are other passes:
-- then the answer is NoRoom.
abbrev pub IsStoredAfter : Shape → List Entry → ℕ → ℕ → Request → Tally → List Entry → List Entry
    → Type 0
IsStoredAfter shape history pass segment asked told old new =
    (room : List Entry)
    × Empties pass segment old room
    × (IsWrittenAs shape history pass asked told (Refilled pass segment load_deadline ∷ room) new
    ⊎ ((told ≡ tally.NoRoom) × (new ≡ room) × (shape.passes ≢ 1)))

-- A request to store is written at once, or after the next segment of the ring was given up for it.
abbrev pub IsStoredAs : Shape → List Entry → ℕ → Request → Tally → ClientState → ClientState
    → List Entry → List Entry → Type 0
IsStoredAs shape history pass asked told from to old new =
    (IsWrittenAs shape history pass asked told old new × (to ≡ from))
    ⊎ (IsStoredAfter shape history pass (next_of from.segments) asked told old new
    × (to ≡ turned_on from))

-- ---- commands

-- What a command of this kind did, at the moment of the load.
-- A cas expects the version that the last gets found, whatever that gets's key was.
abbrev pub CameTo : Shape → List Entry → ℕ → Kind → Load → Tally → ClientState → ClientState
    → List Entry → List Entry → Type 0
CameTo shape history pass kind.Get load told from to old new =
    IsReadAs shape history pass old load.key told × (new ≡ old) × (to ≡ from)
CameTo shape history pass kind.Gets load told from to old new =
    IsVersionReadAs shape history pass old load.key told from to × (new ≡ old)
CameTo shape history pass kind.Set load told from to old new =
    IsStoredAs shape history pass
    (request.Set load.key load.value load_moment) told from to old new
CameTo shape history pass kind.Add load told from to old new =
    IsStoredAs shape history pass
    (request.Add load.key load.value load_moment) told from to old new
CameTo shape history pass kind.Replace load told from to old new =
    IsStoredAs shape history pass
    (request.Replace load.key load.value load_moment) told from to old new
CameTo shape history pass kind.Cas load told from to old new =
    IsStoredAs shape history pass
    (request.Cas load.key load.value from.version load_moment) told from to old new
CameTo shape history pass kind.Delete load told from to old new =
    IsWrittenAs shape history pass (request.Delete load.key load_moment) told old new × (to ≡ from)

-- what a command did
abbrev pub ComesTo : Shape → List Entry → ℕ → Load → Tally → ClientState → ClientState → List Entry
    → List Entry → Type 0
ComesTo shape history pass load = CameTo shape history pass load.kind load

-- a workload after so many of its commands
abbrev pub draws_after : Draws → ℕ → Draws
draws_after draws zero = draws
draws_after draws (suc made) = after_load (draws_after draws made)

-- The pass made the first so many commands of a workload, one after the other.
-- These are its tallies then, this is its state, and these are its entries.
abbrev pub Makes : Shape → List Entry → ℕ → Draws → ℕ → Tallies → ClientState → List Entry → Type 0
Makes shape history pass draws zero tallies course own =
    (tallies ≡ no_tallies) × (course ≡ start_of shape pass) × (own ≡ [])
Makes shape history pass draws (suc made) tallies course own =
    (told : Tally) × (before : Tallies) × (from : ClientState) × (own_before : List Entry)
    × Makes shape history pass draws made before from own_before
    × ComesTo shape history pass
    (next_load (draws_after draws made)) told from course own_before own
    × (tallies ≡ with_one_more told before)
