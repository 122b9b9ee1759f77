-- How a cache closes: with the content of its last shard listed, refused, or gone.
use Rattle.std.specs.Prelude.{◌≡◌, ◌⊎◌, Option, Some, None}
use Rattle.std.specs.List.{AllZip}
use Rattle.seghandles.specs.declared.cache.Cache.{Cache}
use Rattle.seghandles.specs.declared.closing.Closing.{Closing}
use Rattle.seghandles.specs.declared.closing.Closing.TheVariants as closing
use Rattle.seghandles.specs.declared.cursor.Cursor.{Cursor}
use Rattle.seghandles.specs.declared.kept.Kept.{Kept}
use Rattle.seghandles.specs.declared.kept.Kept.TheVariants as kept
use Rattle.seghandles.specs.declared.status.Status.{Status}
use Rattle.seghandles.specs.declared.status.Status.TheVariants as status
use Rattle.seghandles.specs.Ending.{AreAllHome, LosesShard, Turns}
use Rattle.seghandles.specs.Home.{IsSameHome}

-- the shards of a cache, none of which is closed
abbrev pub IsBefore : Cache → Cursor → Type 0
IsBefore cache cursor = cursor.homes ≡ cache.homes

-- the last shard was closed, and its content is listed
pub record ListsLast (cache : Cache) (list : Cursor) : Type 0 where
  pub before : Cursor
  pub begins : IsBefore cache before
  pub turns : Turns before list

-- the last shard was closed, and memory for the list of its content was refused
pub record LosesLast (cache : Cache) : Type 0 where
  pub before : Cursor
  pub after : Cursor
  pub begins : IsBefore cache before
  pub loses : LosesShard before after

-- each shard is as it was
abbrev pub IsSameCache : Cache → Cache → Type 0
IsSameCache old new = AllZip IsSameHome old.homes.items new.homes.items

-- ClientOut: a client isn't back. Else each is: memory was refused, or, Busy, an index is shared
-- with somebody else.
abbrev pub IsRefusal : Cache → Status → Type 0
IsRefusal cache status.ClientOut = ¬ (AreAllHome cache)
IsRefusal cache status.OutOfMemory = AreAllHome cache
IsRefusal cache status.Busy = AreAllHome cache
IsRefusal cache _ = ⊥

abbrev pub ClosesCache : Cache → Kept → Closing → Type 0
ClosesCache cache now closing.Listed =
    (list : Cursor) × (now ≡ kept.Cursor list) × AreAllHome cache × ListsLast cache list
ClosesCache cache now (closing.Refused why) =
    (same : Cache) × (now ≡ kept.Cache same) × IsSameCache cache same × IsRefusal cache why
ClosesCache cache now closing.Gone = AreAllHome cache × LosesLast cache

-- ---- by what a handle keeps

-- the cache became a cursor before the first pair of the content of its last shard
abbrev pub IsListOf : Kept → Kept → Type 0
IsListOf (kept.Cache cache) now = ClosesCache cache now closing.Listed
IsListOf was now = ⊥

-- the cache is as it was, and so is what is none
abbrev pub IsRefused : Kept → Kept → Status → Type 0
IsRefused (kept.Cache cache) now why = ClosesCache cache now (closing.Refused why)
IsRefused was now why = (why ≡ status.NoHandle) × (now ≡ was)

abbrev pub IsLost : Kept → Type 0
IsLost (kept.Cache cache) = AreAllHome cache × LosesLast cache
IsLost was = ⊥

abbrev pub ClosesAs : Kept → Kept → Closing → Type 0
ClosesAs was now closing.Listed = IsListOf was now
ClosesAs was now (closing.Refused why) = IsRefused was now why
ClosesAs was now closing.Gone = IsLost was

-- ---- by both handles

-- Ok: the handle of the cache is empty, and that of the cursor has the list.
-- Else the cursor's is empty. Refused: the cache is as it was.
-- Or memory for the list was refused, and the cache is gone.
abbrev pub Closes : Kept → Option Kept → Option Kept → Status → Type 0
Closes was after next returned =
    ((returned ≡ status.Ok) × (after ≡ None)
    × ((now : Kept) × (next ≡ Some now) × IsListOf was now))
    ⊎ ((next ≡ None) × ((now : Kept) × (after ≡ Some now) × IsRefused was now returned))
    ⊎ ((returned ≡ status.OutOfMemory) × (after ≡ None) × (next ≡ None) × IsLost was)

abbrev pub ClosesFrom : Option Kept → Option Kept → Option Kept → Status → Type 0
ClosesFrom (Some was) after next returned = Closes was after next returned
ClosesFrom None after next returned =
    (returned ≡ status.NoHandle) × (after ≡ None) × (next ≡ None)

-- if the cursor's handle is in use, both are as they were
abbrev pub Closed : Option Kept → Option Kept → Option Kept → Option Kept → Status → Type 0
Closed before after None next returned = ClosesFrom before after next returned
Closed before after (Some used) next returned =
    (returned ≡ status.NoHandle) × (after ≡ before) × (next ≡ Some used)
