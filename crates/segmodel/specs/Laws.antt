-- Laws: what follows from the definitions.
-- Each is proved as the contract of a function in src/laws.rt.
use Rattle.std.specs.Prelude.{◌≡◌, ◌⊎◌, ℕ, ◌+◌, ◌%◌, ◌^◌, ◌==◌, ◌<◌, ◌≤◌, nat_lt, Bool, true, false, is_some, IsSome, IsSomeAnd, MatchOption, List, [], ◌∷◌, ◌++◌, length, find, Option, Some, None, option_and_then, unwrap_or, if◌then◌else◌}
use Rattle.std.specs.BTreeMap.{is_at}
use Rattle.std.specs.List.{AllByRecursion}
use Rattle.std.specs.List.Sorted.{IsStrictlySortedBy}
use Rattle.std.specs.Map.{keys_of}
use Rattle.segword.specs.Words.{Shape}
use Rattle.segmodel.specs.declared.request.Request.{Request}
use Rattle.segmodel.specs.declared.request.Request.TheVariants.{Add, Replace, Cas, Delete}
use Rattle.segmodel.specs.declared.request.Reply.{Reply}
use Rattle.segmodel.specs.declared.request.Reply.TheVariants.{Stored, Exists, NotFound, Deleted}
use Rattle.segmodel.specs.declared.entry.Cached.{Cached}
use Rattle.segmodel.specs.declared.entry.Entry.{Entry}
use Rattle.segmodel.specs.declared.entry.Entry.TheVariants.{Wrote, Evicted, Refilled, Moved}
use Rattle.segmodel.specs.declared.answer.Command.{Command}
use Rattle.segmodel.specs.declared.answer.Command.TheVariants.{Write, Keep, Evict, Refill}
use Rattle.segmodel.specs.declared.answer.Answer.{Answer}
use Rattle.segmodel.specs.declared.answer.Answer.TheVariants as answer
use Rattle.segmodel.specs.declared.answer.RefillAnswer.TheVariants as refill
use Rattle.segmodel.specs.declared.answer.KeepAnswer.{KeepAnswer}
use Rattle.segmodel.specs.declared.answer.KeepAnswer.TheVariants as keep
use Rattle.segmodel.specs.declared.answer.EvictAnswer.{EvictAnswer}
use Rattle.segmodel.specs.declared.answer.EvictAnswer.TheVariants as evict
use Rattle.segmodel.specs.declared.answer.WriteAnswer.{WriteAnswer}
use Rattle.segmodel.specs.declared.answer.DeleteAnswer.{DeleteAnswer}
use Rattle.segmodel.specs.declared.answer.Turn.{Turn}
use Rattle.segmodel.specs.declared.answer.Turn.TheVariants.{Serve}
use Rattle.segmodel.specs.declared.answer.Outcome.{Outcome}
use Rattle.segmodel.specs.Places.{bucket_of}
use Rattle.segmodel.specs.Request.{key_of, value_of}
use Rattle.segmodel.specs.Cache.{Cache, key_cmp, present, IsExpired, value_under, segment_under, reads, reads_version, reply_in}
use Rattle.segmodel.specs.History.{NoneStandsIn, Follows, next, after, IsLegal, Begins, CameBetween, is_of, entries_of, stirred, is_write_to, writes, IsSameAt}
use Rattle.segmodel.specs.State.{State, IsSound, fresh}
use Rattle.segmodel.specs.Serving.{Serves, ServesStore, ServesDelete, reply_of_write, reply_of_delete}
use Rattle.segmodel.specs.Turns.{Turns, Runs}

-- ---- legal histories

-- a legal history with one more entry, which follows, is legal
abbrev pub LongerIsLegal : Type 0
LongerIsLegal = (shape : Shape) (history : List Entry) (entry : Entry)
    → IsLegal shape history
    → Follows shape (after shape history) entry
    → IsLegal shape (entry ∷ history)

-- what a legal history was at an earlier moment is legal
abbrev pub EarlierIsLegal : Type 0
EarlierIsLegal =
    (shape : Shape) (old new : List Entry) → Begins old new → IsLegal shape new → IsLegal shape old

-- the items of a cache are in the order of their keys, so that each key has one at most
abbrev pub ItemsAreInOrder : Type 0
ItemsAreInOrder = (shape : Shape) (history : List Entry)
    → IsStrictlySortedBy key_cmp (keys_of (after shape history).items)

-- ---- what a key reads

-- whether an entry changes the value that stands under the key: the key was stored,
-- deleted or evicted
abbrev pub is_change_of : List ℕ → Entry → Bool
is_change_of key (Wrote pass request Stored segment) = is_at (key_cmp key) (key_of request)
is_change_of key (Wrote pass request Deleted segment) = is_at (key_cmp key) (key_of request)
is_change_of key (Evicted pass other segment) = is_at (key_cmp key) other
is_change_of key _ = false

-- the value that an entry stores, if it stores one
abbrev pub value_left_by : Entry → Option (List ℕ)
value_left_by (Wrote pass request Stored segment) = Some (value_of request)
value_left_by _ = None

-- The value that the last change of the key left, if that stored one.
-- The history has its newest entry first, so the last change is the first one found.
abbrev pub last_value : List ℕ → List Entry → Option (List ℕ)
last_value key history = option_and_then value_left_by (find (is_change_of key) history)

-- whether an entry changes the segment in which the key stands: the key's value changed,
-- or the key was moved
abbrev pub changes_segment : List ℕ → Entry → Bool
changes_segment key (Moved pass other from to) = is_at (key_cmp key) other
changes_segment key entry = is_change_of key entry

-- the segment in which an entry leaves the key: the one in which it was stored,
-- or to which it was moved
abbrev pub segment_left_by : Entry → Option ℕ
segment_left_by (Wrote pass request Stored segment) = segment
segment_left_by (Moved pass key from to) = Some to
segment_left_by _ = None

-- the segment in which the last such entry left the key
abbrev pub last_segment : List ℕ → List Entry → Option ℕ
last_segment key history = option_and_then segment_left_by (find (changes_segment key) history)

-- Under a key stands the value that its last change left.
-- The key stands in the segment in which it was stored, or to which it was moved last.
abbrev pub StandsAsLeft : Type 0
StandsAsLeft = (shape : Shape) (history : List Entry) (key : List ℕ)
    → IsLegal shape history
    → (value_under (after shape history) key ≡ last_value key history)
    × (segment_under (after shape history) key ≡ last_segment key history)

-- whether a segment is named, and its deadline comes after the moment
abbrev pub is_before : (ℕ → ℕ) → ℕ → Option ℕ → Bool
is_before deadline now None = false
is_before deadline now (Some segment) = nat_lt now (deadline segment)

-- a key reads the value that its last change left before the deadline of its last segment,
-- and none from then on
abbrev pub ReadsAsLeft : Type 0
ReadsAsLeft = (shape : Shape) (history : List Entry) (now : ℕ) (key : List ℕ)
    → IsLegal shape history
    → reads (after shape history) now key
    ≡ (if is_before (after shape history).deadline now (last_segment key history)
    then last_value key history
    else None)

-- whether an entry refills the segment
abbrev pub is_refill_of : ℕ → Entry → Bool
is_refill_of segment (Refilled pass other deadline) = other == segment
is_refill_of segment _ = false

-- the deadline that an entry sets, if it is a refilling
abbrev pub deadline_set_by : Entry → Option ℕ
deadline_set_by (Refilled pass segment deadline) = Some deadline
deadline_set_by _ = None

-- a segment has the deadline that its last refilling set, and 0 before the first
abbrev pub DeadlineAsSet : Type 0
DeadlineAsSet = (shape : Shape) (history : List Entry) (segment : ℕ)
    → (after shape history).deadline segment
    ≡ unwrap_or (option_and_then deadline_set_by (find (is_refill_of segment) history)) 0

-- a move leaves what every key reads at every moment, what every gets reads, and every version
abbrev pub MovesAreUnread : Type 0
MovesAreUnread = (shape : Shape) (cache : Cache) (pass from to now : ℕ) (key other : List ℕ)
    → Follows shape cache (Moved pass key from to)
    → (reads (next shape cache (Moved pass key from to)) now other ≡ reads cache now other)
    × (reads_version shape (next shape cache (Moved pass key from to)) now other
    ≡ reads_version shape cache now other)
    × ((next shape cache (Moved pass key from to)).version ≡ cache.version)

-- ---- why a key reads otherwise later

-- the entry takes the key out: it was deleted or evicted
abbrev pub TakesKeyOut : List ℕ → Entry → Type 0
TakesKeyOut key (Wrote pass request Deleted segment) = key_of request ≡ key
TakesKeyOut key (Evicted pass other segment) = other ≡ key
TakesKeyOut key _ = ⊥

-- the entry stores this value under the key
abbrev pub StoresValue : List ℕ → List ℕ → Entry → Type 0
StoresValue key value (Wrote pass request Stored segment) =
    (key_of request ≡ key) × (value_of request ≡ value)
StoresValue key value _ = ⊥

-- if a key under which a value stood reads none later, it was taken out in between,
-- or its deadline has come
abbrev pub GoneIsTakenOut : Type 0
GoneIsTakenOut = (shape : Shape) (old new : List Entry) (later : ℕ) (key value : List ℕ)
    → IsLegal shape new
    → Begins old new
    → value_under (after shape old) key ≡ Some value
    → reads (after shape new) later key ≡ None
    → CameBetween (TakesKeyOut key) old new ⊎ IsExpired (after shape new) later key

-- if a key under which a value stood reads another value later,
-- that one was stored under it in between
abbrev pub ChangedIsStored : Type 0
ChangedIsStored = (shape : Shape) (old new : List Entry) (later : ℕ) (key value other : List ℕ)
    → IsLegal shape new
    → Begins old new
    → value_under (after shape old) key ≡ Some value
    → reads (after shape new) later key ≡ Some other
    → (other ≡ value) ⊎ CameBetween (StoresValue key other) old new

-- a key whose deadline has come reads nothing
abbrev pub ExpiredReadsNothing : Type 0
ExpiredReadsNothing =
    (cache : Cache) (now : ℕ) (key : List ℕ) → IsExpired cache now key → reads cache now key ≡ None

-- the entry stores a value under the key
abbrev pub StoresKey : List ℕ → Entry → Type 0
StoresKey key (Wrote pass request Stored segment) = key_of request ≡ key
StoresKey key _ = ⊥

-- A key that reads nothing at a moment reads nothing at that or a later one,
-- until it is stored again.
-- What expired or was taken out never comes back by itself.
abbrev pub NothingUntilStored : Type 0
NothingUntilStored = (shape : Shape) (old new : List Entry) (now later : ℕ) (key : List ℕ)
    → IsLegal shape new
    → Begins old new
    → now ≤ later
    → reads (after shape old) now key ≡ None
    → (reads (after shape new) later key ≡ None) ⊎ CameBetween (StoresKey key) old new

-- ---- versions

-- the version of a bucket is the first version and one more for each of its writes, modulo 2^32
abbrev pub VersionCountsWrites : Type 0
VersionCountsWrites = (shape : Shape) (history : List Entry) (bucket : ℕ)
    → shape.first_version < 2 ^ 32
    → IsLegal shape history
    → (after shape history).version bucket
    ≡ (shape.first_version + writes shape history bucket) % 2 ^ 32

-- an entry that is no write to the bucket leaves its version
abbrev pub OthersKeepVersion : Type 0
OthersKeepVersion = (shape : Shape) (cache : Cache) (entry : Entry) (bucket : ℕ)
    → is_write_to shape bucket entry ≡ false
    → (next shape cache entry).version bucket ≡ cache.version bucket

-- an eviction leaves every version
abbrev pub EvictionKeepsVersions : Type 0
EvictionKeepsVersions = (shape : Shape) (cache : Cache) (pass segment : ℕ) (key : List ℕ)
    → (next shape cache (Evicted pass key segment)).version ≡ cache.version

-- whether a reply says that nothing was stored or deleted
abbrev pub changes_nothing : Reply → Bool
changes_nothing Stored = false
changes_nothing Deleted = false
changes_nothing _ = true

-- a request with such a reply leaves the cache as it is, versions included
abbrev pub UnwrittenKeepsCache : Type 0
UnwrittenKeepsCache =
    (shape : Shape) (cache : Cache) (pass : ℕ) (request : Request) (reply : Reply)
    (segment : Option ℕ)
    → changes_nothing reply ≡ true
    → next shape cache (Wrote pass request reply segment) ≡ cache

-- The version law.
-- A cas brings the version that a gets gave at an earlier moment of the same history.
-- If its key is absent, the reply is NotFound.
-- Otherwise it is Exists exactly if the numbers of its bucket's writes at the two moments differ
-- modulo 2^32, else Stored.
abbrev pub CasFailsWhereWritten : Type 0
CasFailsWhereWritten =
    (shape : Shape) (old new : List Entry) (now later : ℕ) (key seen value : List ℕ) (version : ℕ)
    → shape.first_version < 2 ^ 32
    → IsLegal shape new
    → Begins old new
    → reads_version shape (after shape old) now key ≡ Some (seen, version)
    → reply_in shape (after shape new) (Cas key value version later)
    ≡ (if is_some (present (after shape new) later key)
    then (if writes shape new (bucket_of shape key) % 2 ^ 32
    == writes shape old (bucket_of shape key) % 2 ^ 32
    then Stored
    else Exists)
    else NotFound)

-- ---- which requests store

-- an add stores only under an absent key
abbrev pub AddNeedsAbsent : Type 0
AddNeedsAbsent =
    (shape : Shape) (cache : Cache) (pass now : ℕ) (key value : List ℕ) (segment : Option ℕ)
    → Follows shape cache (Wrote pass (Add key value now) Stored segment)
    → reads cache now key ≡ None

-- a replace stores only under a present key
abbrev pub ReplaceNeedsPresent : Type 0
ReplaceNeedsPresent =
    (shape : Shape) (cache : Cache) (pass now : ℕ) (key value : List ℕ) (segment : Option ℕ)
    → Follows shape cache (Wrote pass (Replace key value now) Stored segment)
    → IsSome (reads cache now key)

-- a cas stores only under a present key whose bucket has the expected version
abbrev pub CasNeedsVersion : Type 0
CasNeedsVersion =
    (shape : Shape) (cache : Cache) (pass : ℕ) (key value : List ℕ) (expected now : ℕ)
    (segment : Option ℕ)
    → Follows shape cache (Wrote pass (Cas key value expected now) Stored segment)
    → IsSomeAnd (reads_version shape cache now key) (λ read. read.1 ≡ expected)

-- ---- other buckets

-- an entry of another bucket leaves a key, and its bucket's version, as they are
abbrev pub OtherBucketsAreKept : Type 0
OtherBucketsAreKept = (shape : Shape) (cache : Cache) (entry : Entry) (key : List ℕ)
    → Follows shape cache entry
    → is_of shape (bucket_of shape key) entry ≡ false
    → IsSameAt shape cache (next shape cache entry) key

-- `stirred` counts the entries of the key's bucket that were added
abbrev pub StirredCountsAdded : Type 0
StirredCountsAdded = (shape : Shape) (before more : List Entry) (key : List ℕ)
    → stirred shape key before (more ++ before) ≡ entries_of shape (bucket_of shape key) more

-- if no entry of its bucket came in between two moments, a key reads the same at both,
-- with the same version
abbrev pub UnstirredReadsTheSame : Type 0
UnstirredReadsTheSame = (shape : Shape) (old new : List Entry) (now : ℕ) (key : List ℕ)
    → IsLegal shape new
    → Begins old new
    → stirred shape key old new ≡ 0
    → (reads (after shape new) now key ≡ reads (after shape old) now key)
    × (reads_version shape (after shape new) now key
    ≡ reads_version shape (after shape old) now key)

-- ---- serving

-- what always holds of a state holds at the start
abbrev pub IsKeptAtTheStart : Type 0
IsKeptAtTheStart = (shape : Shape) → IsSound shape (fresh shape)

-- serving a command keeps what always holds of a state
abbrev pub ServingKeeps : Type 0
ServingKeeps = (shape : Shape) (old new : State) (command : Command) (given : Answer)
    → IsSound shape old
    → Serves shape old command given new
    → IsSound shape new

-- a whole run of commands keeps that
abbrev pub CommandsKeep : Type 0
CommandsKeep = (shape : Shape) (old new : State) (commands : List Command) (given : List Answer)
    → IsSound shape old
    → Runs (Serves shape) old commands given new
    → IsSound shape new

-- a whole run of turns keeps that
abbrev pub TurnsKeep : Type 0
TurnsKeep = (shape : Shape) (old new : State) (turns : List Turn) (given : List Outcome)
    → IsSound shape old
    → Runs (Turns shape) old turns given new
    → IsSound shape new

-- a segment is refilled only if no key stands in it
abbrev pub RefilledWhereNoneStands : Type 0
RefilledWhereNoneStands = (shape : Shape) (old new : State) (segment deadline : ℕ)
    → IsSound shape old
    → Serves shape old (Refill segment deadline) (answer.Refill refill.Refilled) new
    → NoneStandsIn old.cache segment

-- a segment is not refilled while an item of it is held
abbrev pub HeldIsNotRefilled : Type 0
HeldIsNotRefilled = (shape : Shape) (old new : State) (item : Cached) (deadline : ℕ)
    → IsSound shape old
    → old.held ≡ Some item
    → Serves shape old (Refill item.segment deadline) (answer.Refill refill.Refilled) new
    → ⊥

-- the segment that an entry with this reply names: the current one for Stored,
-- and none for any other reply
abbrev pub stored_in : Reply → Option ℕ → Option ℕ
stored_in Stored current = current
stored_in _ current = None

-- a request to store that is served with a reply is an entry that follows,
-- and the cache is then the one that the entry leaves
abbrev pub StoreIsAnEntry : Type 0
StoreIsAnEntry =
    (shape : Shape) (old new : State) (request : Request) (given : WriteAnswer) (reply : Reply)
    → IsSound shape old
    → ServesStore shape old request given new
    → reply_of_write given ≡ Some reply
    → Follows shape old.cache (Wrote 0 request reply (stored_in reply old.current))
    × (new.cache ≡ next shape old.cache (Wrote 0 request reply (stored_in reply old.current)))

-- a delete that is served with a reply is an entry that follows, and leaves the cache so too
abbrev pub DeleteIsAnEntry : Type 0
DeleteIsAnEntry =
    (shape : Shape) (old new : State) (key : List ℕ) (now : ℕ) (given : DeleteAnswer)
    (reply : Reply)
    → ServesDelete shape old key now given new
    → reply_of_delete given ≡ Some reply
    → Follows shape old.cache (Wrote 0 (Delete key now) reply (stored_in reply old.current))
    × (new.cache ≡ next shape old.cache
    (Wrote 0 (Delete key now) reply (stored_in reply old.current)))

-- ---- turns

-- whether the turn is an eviction
abbrev pub is_evict : Turn → Bool
is_evict (Serve (Evict segment)) = true
is_evict _ = false

-- every turn has an outcome
abbrev pub EveryTurnIsAnswered : Type 0
EveryTurnIsAnswered = (shape : Shape) (old : State) (turn : Turn)
    → IsSound shape old
    → (given : Outcome) × (new : State) × Turns shape old turn given new

-- every turn but an eviction has only one outcome, with one state after it
abbrev pub OnlyEvictChooses : Type 0
OnlyEvictChooses = (shape : Shape) (old new other : State) (turn : Turn) (given told : Outcome)
    → is_evict turn ≡ false
    → Turns shape old turn given new
    → Turns shape old turn told other
    → (told ≡ given) × (other ≡ new)

-- ---- serving is history

-- the entry of a request that is replied; a refusal adds none
abbrev pub entry_of_reply : Option ℕ → Request → Option Reply → List Entry
entry_of_reply current request None = []
entry_of_reply current request (Some reply) = Wrote 0 request reply (stored_in reply current) ∷ []

-- an entry says that a key was evicted from the segment
abbrev pub IsEvictionFrom : ℕ → Entry → Type 0
IsEvictionFrom segment entry = (key : List ℕ) × (entry ≡ Evicted 0 key segment)

-- how many keys the answer to an evict says were taken out
abbrev pub keys_evicted : EvictAnswer → ℕ
keys_evicted (evict.Evicted count) = count
keys_evicted (evict.Busy count) = count
keys_evicted evict.NotYours = 0

-- an entry says that a key was moved from the one segment to the other
abbrev pub IsMoveBetween : ℕ → ℕ → Entry → Type 0
IsMoveBetween from to entry = (key : List ℕ) × (entry ≡ Moved 0 key from to)

-- how many items the answer to a keep says were moved
abbrev pub kept : KeepAnswer → ℕ
kept (keep.Kept count) = count
kept (keep.NoRoom count) = count
kept (keep.Busy count) = count
kept keep.NotYours = 0

-- The entries that serving a command adds, by its answer: one for a request that is replied,
-- one for each item that is moved, one for each key that is evicted,
-- one for a segment that is refilled; none for anything else.
-- The segment that was current is the one stored in and moved to.
abbrev pub Adds : Option ℕ → Command → Answer → List Entry → Type 0
Adds current (Write request) (answer.Write told) more =
    more ≡ entry_of_reply current request (reply_of_write told)
Adds current (Write request) (answer.Delete told) more =
    more ≡ entry_of_reply current request (reply_of_delete told)
Adds current (Keep segment cutoff) (answer.Keep told) more =
    MatchOption current ((more ≡ []) × (kept told ≡ 0))
    (λ to. AllByRecursion (IsMoveBetween segment to) more × (length more ≡ kept told))
Adds current (Evict segment) (answer.Evict told) more =
    AllByRecursion (IsEvictionFrom segment) more × (length more ≡ keys_evicted told)
Adds current (Refill segment deadline) (answer.Refill refill.Refilled) more =
    more ≡ Refilled 0 segment deadline ∷ []
Adds current _ _ more = more ≡ []

-- If the cache is that of a legal history,
-- then serving a command adds the entries that its answer tells.
-- The longer history is legal, and the new cache is the one after it.
-- The longer history is legal, and the cache is that of it.
abbrev pub ServingIsHistory : Type 0
ServingIsHistory =
    (shape : Shape) (old new : State) (command : Command) (given : Answer) (history : List Entry)
    → IsSound shape old
    → IsLegal shape history
    → old.cache ≡ after shape history
    → Serves shape old command given new
    → (more : List Entry) × IsLegal shape (more ++ history)
    × (new.cache ≡ after shape (more ++ history)) × Adds old.current command given more
