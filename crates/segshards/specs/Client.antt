-- A client of all shards of a cache, as contracts see it.
use Rattle.std.specs.Prelude.{◌≡◌, ℕ, List, length, slice_get, slice_set, Some, None}
use Rattle.std.specs.List.{AllZip}
use Rattle.segbase.specs.Words.{Board, Pass}
use Rattle.segindex.specs.Words.{Index}
use Rattle.segclient.specs.declared.client.Client as one
use Rattle.segclient.specs.declared.member.Member.{Member}
use Rattle.segclient.specs.Client as of_one
use Rattle.segclient.specs.Member.{SetsNow}
use Rattle.segshards.specs.declared.client.Client.{Client}
use Rattle.segshards.specs.Shards.{shard_of}

-- there is a client of each shard, new, of one of its passes
abbrev pub AreNewClients : List Index → List one.Client → Type 0
AreNewClients = AllZip (λ i client. (p : Pass) × of_one.Starts i (Some 0) p client)

-- a new client of all shards: its clock shows 0, and it holds nothing
pub record IsNewClient (indexes : List Index) (client : Client) : Type 0 where
  pub shards : AreNewClients indexes client.shards.items
  pub clock : client.clock ≡ 0
  pub holds : client.holds ≡ None

-- its clock shows this moment, and nothing else is changed
pub record ShowsNow (moment : ℕ) (old new : Client) : Type 0 where
  pub shards : new.shards ≡ old.shards
  pub clock : new.clock ≡ moment
  pub holds : new.holds ≡ old.holds

-- the clock was set to this moment, and then the call was made
pub record At (now : ℕ) (Made : Board → Member → Member → Type 0) (b : Board)
    (old new : Member) : Type 0 where
  pub before : Member
  pub sets : SetsNow now old before
  pub made : Made b before new

-- The client of this shard made this call of its index, at the moment that the clock shows.
-- The clients of the other shards are as they were, and so is the clock.
pub record CallsShard (shard : ℕ) (Made : Board → Member → Member → Type 0) (old new : Client)
    : Type 0 where
  pub was : one.Client
  pub is : one.Client
  pub there : slice_get old.shards.items shard ≡ Some was
  pub made : of_one.MakesCall (At old.clock Made) was is
  pub shards : new.shards.items ≡ slice_set old.shards.items shard is
  pub clock : new.clock ≡ old.clock

-- The client of the key's shard made this call, and what is held is as it was.
pub record MakesCall (key : List ℕ) (Made : Board → Member → Member → Type 0) (old new : Client)
    : Type 0 where
  pub calls : CallsShard (shard_of (length old.shards.items) key) Made old new
  pub holds : new.holds ≡ old.holds
