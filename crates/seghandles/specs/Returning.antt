-- What the exports do that give a client back.
use Rattle.std.specs.Prelude.{◌≡◌, Option, Some, None}
use Rattle.std.specs.List.{AllZip}
use Rattle.segshards.specs.Each.{AllThree}
use Rattle.seghandles.specs.declared.cache.Cache.{Cache}
use Rattle.seghandles.specs.declared.client.SharedClient.{SharedClient}
use Rattle.seghandles.specs.declared.kept.Kept.{Kept}
use Rattle.seghandles.specs.declared.kept.Kept.TheVariants as kept
use Rattle.seghandles.specs.declared.status.Status.{Status}
use Rattle.seghandles.specs.declared.status.Status.TheVariants as status
use Rattle.seghandles.specs.Home as of_home

-- each shard has a free place for the client's guest of it
abbrev pub HasPlaceFor : Cache → SharedClient → Type 0
HasPlaceFor cache client = AllZip of_home.HasPlaceFor cache.homes.items client.guests.items

-- each guest of the client went back to its shard
abbrev pub TakesBack : SharedClient → Cache → Cache → Type 0
TakesBack client old new =
    AllThree of_home.TakesBack client.guests.items old.homes.items new.homes.items

-- whether the cache has a place for what a handle keeps
abbrev pub IsWelcome : Cache → Kept → Status → Type 0
IsWelcome home (kept.Client guest) status.Ok = HasPlaceFor home guest
IsWelcome home (kept.Client guest) status.Foreign = ¬ (HasPlaceFor home guest)
IsWelcome home (kept.Client guest) returned = ⊥
IsWelcome home guest returned = returned ≡ status.NoHandle

-- the same of what a handle kept
abbrev pub TakesKept : Kept → Cache → Cache → Type 0
TakesKept (kept.Client guest) old new = TakesBack guest old new
TakesKept guest old new = ⊥

-- Ok: there was a client with a free place, it went back, and its handle is empty.
-- Foreign: its place isn't free. NoHandle: it is no client. Then both are as they were.
pub record GoesBack (guest : Kept) (next : Option Kept) (old new : Cache) (returned : Status)
    : Type 0 where
  pub welcome : IsWelcome old guest returned
  pub ok : returned ≡ status.Ok → TakesKept guest old new × (next ≡ None)
  pub other : ¬ (returned ≡ status.Ok) → (new ≡ old) × (next ≡ Some guest)

abbrev pub GoesBackFrom : Option Kept → Option Kept → Cache → Cache → Status → Type 0
GoesBackFrom (Some guest) next old new returned = GoesBack guest next old new returned
GoesBackFrom None next old new returned = (returned ≡ status.NoHandle) × (new ≡ old) × (next ≡ None)

-- a handle with no cache is as it was, and the client's too
abbrev pub GivenBack : Option Kept → Option Kept → Option Kept → Option Kept → Status → Type 0
GivenBack (Some (kept.Cache old)) after guest next returned =
    (new : Cache) × (after ≡ Some (kept.Cache new)) × GoesBackFrom guest next old new returned
GivenBack before after guest next returned =
    (returned ≡ status.NoHandle) × (after ≡ before) × (next ≡ guest)
