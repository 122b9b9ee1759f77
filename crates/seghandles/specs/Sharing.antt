-- A cache and a client of its shards.
use Rattle.std.specs.Prelude.{◌≡◌, Option, Some}
use Rattle.std.specs.List.{AllZip}
use Rattle.seghandles.specs.declared.cache.Cache.{Cache}
use Rattle.seghandles.specs.declared.client.SharedClient.{SharedClient}
use Rattle.seghandles.specs.declared.guest.Guest.{Guest}
use Rattle.seghandles.specs.declared.home.Home.{Home}
use Rattle.seghandles.specs.declared.kept.Kept.{Kept}
use Rattle.seghandles.specs.declared.kept.Kept.TheVariants as kept

-- they share one index
abbrev pub ShareIndex : Home → Guest → Type 0
ShareIndex home guest = guest.share.index.value ≡ home.index.value

-- the guests of the client share the indexes of the cache, shard by shard
abbrev pub ShareShards : Cache → SharedClient → Type 0
ShareShards cache client = AllZip ShareIndex cache.homes.items client.guests.items

-- if this is a client, it is one of the cache's
abbrev pub IsClientOf : Cache → Kept → Type 0
IsClientOf cache (kept.Client client) = ShareShards cache client
IsClientOf cache _ = Unit {0}

abbrev pub MayBeClient : Cache → Option Kept → Type 0
MayBeClient cache (Some client) = IsClientOf cache client
MayBeClient cache _ = Unit {0}

-- if these are a cache and a client, the client is one of the cache's
abbrev pub AreOfOneCache : Option Kept → Option Kept → Type 0
AreOfOneCache (Some (kept.Cache cache)) client = MayBeClient cache client
AreOfOneCache _ _ = Unit {0}
