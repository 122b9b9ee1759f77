-- Clients of all passes of all shards.
use Rattle.std.specs.Prelude.{◌≡◌, ℕ, ◌<◌, List, map, slice_get, slice_set, Some}
use Rattle.std.specs.List.{AllZip}
use Rattle.segbase.specs.Words.{number}
use Rattle.segindex.specs.Words.{Index, shape_of}
use Rattle.segclient.specs.declared.client.Client as one
use Rattle.segshards.specs.declared.client.Client.{Client}

-- there is a client of each shard
abbrev pub IsClientOf : List Index → Client → Type 0
IsClientOf indexes client = AllZip (λ i one. one.index.now ≡ i) indexes client.shards.items

-- the index of a client of one shard, and the number of its pass
abbrev pub seat_of : one.Client → Index × ℕ
seat_of client = (client.index.now, number client.member.pass)

-- it has clients of the same passes of the same shards
abbrev pub IsSame : Client → Client → Type 0
IsSame old new = map seat_of new.shards.items ≡ map seat_of old.shards.items

-- one of the clients has the pass of this number of the shard at this place
pub record HasPass (clients : List Client) (shard n : ℕ) : Type 0 where
  pub place : ℕ
  pub client : Client
  pub there : slice_get clients place ≡ Some client
  pub one : one.Client
  pub its : slice_get client.shards.items shard ≡ Some one
  pub number : number one.member.pass ≡ n

-- the clients are of these shards, and each pass of each shard is one's, in any order
pub record AreAllClients (indexes : List Index) (clients : List Client) : Type 0 where
  pub of : (place : ℕ) (client : Client)
      → slice_get clients place ≡ Some client
      → IsClientOf indexes client
  pub all : (shard : ℕ) (i : Index)
      → slice_get indexes shard ≡ Some i
      → (n : ℕ)
      → n < (shape_of i).passes
      → HasPass clients shard n

-- Where one of all clients has become one of the same passes, they are all clients still.
abbrev pub OneStays : Type 0
OneStays = (indexes : List Index) (clients : List Client) (place : ℕ) (old new : Client)
    → AreAllClients indexes clients
    → slice_get clients place ≡ Some old
    → IsSame old new
    → AreAllClients indexes (slice_set clients place new)

-- And so they are where each of them has.
abbrev pub EachStays : Type 0
EachStays = (indexes : List Index) (old new : List Client)
    → AreAllClients indexes old
    → AllZip IsSame old new
    → AreAllClients indexes new
