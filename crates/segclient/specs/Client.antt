-- A client as contracts see it: an index, and what it has beside it.
use Rattle.std.specs.Prelude.{◌≡◌, ℕ, Option}
use Rattle.segbase.specs.Words.{Board, number, Pass}
use Rattle.segindex.specs.Words.{Index}
use Rattle.segclient.specs.declared.client.Client.{Client}
use Rattle.segclient.specs.declared.member.Member.{Member}
use Rattle.segclient.specs.Member.{Begins}

-- a new client of the pass, whose puts keep nothing under this cutoff
pub record Starts (i : Index) (cutoff : Option ℕ) (p : Pass) (client : Client) : Type 0 where
  pub index : client.index.now ≡ i
  pub member : Begins i.board.shape cutoff p client.member

-- it is a client of the same index and the same pass
pub record IsSame (old new : Client) : Type 0 where
  pub index : new.index.now ≡ old.index.now
  pub number : number new.member.pass ≡ number old.member.pass

-- the client made this call of its index
pub record MakesCall (Made : Board → Member → Member → Type 0) (old new : Client) : Type 0 where
  pub index : new.index.now ≡ old.index.now
  pub made : Made old.index.now.board old.member new.member
