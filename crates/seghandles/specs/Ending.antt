-- What the exports do that free a cache, and list its content.
use Rattle.std.specs.Prelude.{◌≡◌, ◌⊎◌, ◌+◌, ◌≤◌, ◌<◌, ℕ, All, length, ◌++◌, drop, List, [], ◌∷◌}
use Rattle.std.specs.Prelude.{Option, Some, None, slice_get, Bool, true, false}
use Rattle.std.specs.List.{AllZip}
use Rattle.seghandles.specs.declared.cache.Cache.{Cache}
use Rattle.seghandles.specs.declared.cursor.Cursor.{Cursor}
use Rattle.seghandles.specs.declared.cursor.ShardClose.{ShardClose}
use Rattle.seghandles.specs.declared.cursor.ShardClose.TheVariants as turn
use Rattle.seghandles.specs.declared.home.Home.{Home}
use Rattle.seghandles.specs.declared.kept.Kept.{Kept}
use Rattle.seghandles.specs.declared.kept.Kept.TheVariants as kept
use Rattle.seghandles.specs.declared.status.Status.{Status}
use Rattle.seghandles.specs.declared.status.Status.TheVariants as status
use Rattle.seghandles.specs.Exports.{Out}
use Rattle.seghandles.specs.Home.{HasAllBack, IsRefusal, IsSameHome, ListsContent, LosesContent}

-- ---- the end of a cache

-- whether each client of the cache is back
abbrev pub AreAllHome : Cache → Type 0
AreAllHome cache = All HasAllBack cache.homes.items

abbrev pub AreAllBack : Kept → Type 0
AreAllBack (kept.Cache cache) = AreAllHome cache
AreAllBack _ = ⊥

abbrev pub is_cache : Kept → Bool
is_cache (kept.Cache home) = true
is_cache _ = false

-- Ok: each client is back, and the handle is empty. ClientOut: one isn't. NoHandle: it is no
-- cache. Then the handle is as it was.
abbrev pub FreesCache : Kept → Option Kept → Status → Type 0
FreesCache was after status.Ok = AreAllBack was × (after ≡ None)
FreesCache was after status.ClientOut =
    (is_cache was ≡ true) × ¬ (AreAllBack was) × (after ≡ Some was)
FreesCache was after status.NoHandle = (is_cache was ≡ false) × (after ≡ Some was)
FreesCache was after _ = ⊥

abbrev pub Freed : Option Kept → Option Kept → Status → Type 0
Freed (Some was) after returned = FreesCache was after returned
Freed None after returned = (returned ≡ status.NoHandle) × (after ≡ None)

-- ---- the shards that are left

-- the last of them was taken out
pub record TakesLast (old new : Cursor) : Type 0 where
  pub home : Home
  pub homes : old.homes.items ≡ new.homes.items ++ home ∷ []

-- the last of them was closed, and its content is the list
pub record Turns (old new : Cursor) : Type 0 where
  pub takes : TakesLast old new
  pub lists : ListsContent takes.home new.pairs.items
  pub next : new.next ≡ 0

-- the last of them was closed, and memory for the list of its content was refused
pub record LosesShard (old new : Cursor) : Type 0 where
  pub takes : TakesLast old new
  pub loses : LosesContent takes.home
  pub pairs : new.pairs.items ≡ []

-- the last of them wasn't closed, and they are as they were
pub record LeavesShard (why : Status) (old new : Cursor) : Type 0 where
  pub last : Home
  pub among : List Home
  pub homes : old.homes.items ≡ among ++ last ∷ []
  pub is_refusal : IsRefusal last why
  pub same : AllZip IsSameHome old.homes.items new.homes.items
  pub pairs : new.pairs.items ≡ []

-- none is left, and the list is as it was
pub record IsDone (old new : Cursor) : Type 0 where
  pub none : old.homes.items ≡ []
  pub homes : new.homes.items ≡ []
  pub pairs : new.pairs ≡ old.pairs
  pub next : new.next ≡ old.next

-- the last of them wasn't closed, and was left out: its pairs aren't listed
pub record LeavesOut (why : Status) (old new : Cursor) : Type 0 where
  pub refused : Cursor
  pub leaves : LeavesShard why old refused
  pub takes : TakesLast refused new
  pub pairs : new.pairs.items ≡ []

abbrev pub TurnsAs : Cursor → Cursor → ShardClose → Type 0
TurnsAs old new turn.Listed = Turns old new
TurnsAs old new (turn.Refused why) = LeavesShard why old new
TurnsAs old new turn.Gone = LosesShard old new
TurnsAs old new turn.Done = IsDone old new

-- each pair of the list was returned
abbrev pub IsRead : Cursor → Type 0
IsRead cursor = length cursor.pairs.items ≤ cursor.next

-- Shards were closed one after another, each once each pair of the one before was returned.
unfoldable pub CloseInTurn : List Cursor → Cursor → Cursor → Type 0
CloseInTurn [] old new = new ≡ old
CloseInTurn (mid ∷ mids) old new = IsRead old × Turns old mid × CloseInTurn mids mid new

-- Ok: there is a next pair. End: each pair was returned, and no shard is left.
-- Else the next shard is gone with its pairs: it wasn't closed, or, OutOfMemory, memory for its
-- list was refused. So the call after this one goes on with the shard behind it.
abbrev pub StopsAs : Cursor → Cursor → Status → Type 0
StopsAs old new status.Ok = (new ≡ old) × (old.next < length old.pairs.items)
StopsAs old new status.End = IsRead old × IsDone old new
StopsAs old new returned =
    IsRead old
    × (LeavesOut returned old new ⊎ ((returned ≡ status.OutOfMemory) × LosesShard old new))

-- shards were closed until there was a next pair, none was left, or one couldn't be closed
pub record Seeks (returned : Status) (old new : Cursor) : Type 0 where
  pub mids : List Cursor
  pub last : Cursor
  pub closes : CloseInTurn mids old last
  pub stops : StopsAs last new returned

-- ---- the content

-- these bytes stand in front of the buffer, and what is behind them is as it was
abbrev pub Fronts : List ℕ → List ℕ → List ℕ → Type 0
Fronts bytes old new = new ≡ bytes ++ drop (length bytes) old

-- both buffers have room
abbrev pub HaveRoom : List ℕ × List ℕ → Out → Out → Type 0
HaveRoom pair key value = (length pair.0 ≤ length key.0) × (length pair.1 ≤ length value.0)

-- The lengths of the next pair were written, and the pair, if both buffers have room for it.
-- Then the one behind it is next.
pub record ReturnsPair (pair : List ℕ × List ℕ) (old new : Cursor) (key key' value value' : Out)
    (returned : Status) : Type 0 where
  pub key_len : key'.1 ≡ length pair.0
  pub value_len : value'.1 ≡ length pair.1
  pub fits : HaveRoom pair key value
      → (returned ≡ status.Ok) × Fronts pair.0 key.0 key'.0 × Fronts pair.1 value.0 value'.0
      × (new ≡ record old { next = old.next + 1 })
  pub short : ¬ (HaveRoom pair key value)
      → (returned ≡ status.ShortBuffer) × (key'.0 ≡ key.0) × (value'.0 ≡ value.0) × (new ≡ old)

-- nothing was written
abbrev pub WritesNone : Status → Out → Out → Out → Out → Status → Type 0
WritesNone why key key' value value' returned = (returned ≡ why) × (key' ≡ key) × (value' ≡ value)

abbrev pub ReturnsNext : Option (List ℕ × List ℕ) → Cursor → Cursor → Out → Out → Out → Out
    → Status → Type 0
ReturnsNext (Some pair) old new key key' value value' returned =
    ReturnsPair pair old new key key' value value' returned
ReturnsNext None old new key key' value value' returned =
    WritesNone status.End key key' value value' returned × (new ≡ old)

-- the next pair, if one was found; else nothing was written
abbrev pub ReturnsFound : Status → Cursor → Cursor → Out → Out → Out → Out → Status → Type 0
ReturnsFound status.Ok old new key key' value value' returned =
    ReturnsNext (slice_get old.pairs.items old.next) old new key key' value value' returned
ReturnsFound why old new key key' value value' returned =
    WritesNone why key key' value value' returned × (new ≡ old)

-- shards were closed until there was a next pair, and it was returned
pub record ListsNext (old new : Cursor) (key key' value value' : Out) (returned : Status)
    : Type 0 where
  pub sought : Status
  pub mid : Cursor
  pub seeks : Seeks sought old mid
  pub returns : ReturnsFound sought mid new key key' value value' returned

-- the same of what a handle keeps: what is no cursor stays
abbrev pub SeeksIn : Kept → Kept → Status → Type 0
SeeksIn (kept.Cursor old) now returned =
    (new : Cursor) × (now ≡ kept.Cursor new) × Seeks returned old new
SeeksIn was now returned = (returned ≡ status.NoHandle) × (now ≡ was)

abbrev pub ReturnsIn : Kept → Kept → Out → Out → Out → Out → Status → Type 0
ReturnsIn (kept.Cursor old) now key key' value value' returned =
    (new : Cursor) × (now ≡ kept.Cursor new)
    × ReturnsNext (slice_get old.pairs.items old.next) old new key key' value value' returned
ReturnsIn was now key key' value value' returned =
    WritesNone status.NoHandle key key' value value' returned × (now ≡ was)

abbrev pub Listed : Option Kept → Option Kept → Out → Out → Out → Out → Status → Type 0
Listed (Some (kept.Cursor old)) after key key' value value' returned =
    (new : Cursor) × (after ≡ Some (kept.Cursor new))
    × ListsNext old new key key' value value' returned
Listed before after key key' value value' returned =
    WritesNone status.NoHandle key key' value value' returned × (after ≡ before)

abbrev pub is_cursor : Kept → Bool
is_cursor (kept.Cursor cursor) = true
is_cursor _ = false

-- a handle with a cursor is empty then, and any other is as it was
abbrev pub FreesCursor : Option Kept → Option Kept → Status → Type 0
FreesCursor (Some (kept.Cursor cursor)) after returned = (returned ≡ status.Ok) × (after ≡ None)
FreesCursor before after returned = (returned ≡ status.NoHandle) × (after ≡ before)
