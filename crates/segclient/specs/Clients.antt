-- Clients of all passes of an index.
use Rattle.std.specs.Prelude.{◌≡◌, ℕ, ◌<◌, List, slice_get, Some}
use Rattle.segbase.specs.Words.{number}
use Rattle.segindex.specs.Words.{board_of, Index}
use Rattle.segclient.specs.declared.client.Client.{Client}

-- the clients are of this index, and each of its passes is one's, in any order
pub record AreAllClients (i : Index) (clients : List Client) : Type 0 where
  pub of : (place : ℕ) (client : Client)
      → slice_get clients place ≡ Some client
      → client.index.now ≡ i
  pub all : (n : ℕ)
      → n < (board_of i).shape.passes
      → (place : ℕ) × (client : Client)
      × (slice_get clients place ≡ Some client) × (number client.member.pass ≡ n)
