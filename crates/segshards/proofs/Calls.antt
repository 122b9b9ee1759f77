-- A client of shards makes a call by one of them.
use Rattle.std.proofs.Common.{◌≡◌, ◌<◌, ℕ, List, get_or, length, set, slice_get, Some, sym, ap, ◌∙◌, subst}
use Rattle.std.proofs.lemmas.Option.{slice_get-get_or}
use Rattle.segbase.specs.Words.{Board}
use Rattle.segindex.specs.Words.{board_of, Index}
use Rattle.segclient.specs.declared.client.Client as one
use Rattle.segclient.specs.declared.member.Member.{Member}
use Rattle.segclient.specs.Client as of_one
use Rattle.segclient.specs.Member.{SetsNow}
use Rattle.segshards.specs.declared.client.Client.{Client}
use Rattle.segshards.specs.Client.{At, CallsShard, MakesCall}
use Rattle.segshards.specs.Shards.{shard_of}

-- the clock was set, and then the call was made
at_moment : (now : ℕ) (Made : Board → Member → Member → Type 0) (was mid is : one.Client)
    → of_one.MakesCall (λ board. SetsNow now) was mid → of_one.MakesCall Made mid is → of_one.MakesCall (At now Made) was is
at_moment now Made was mid is sets made = record {
  index = made.index ∙ sets.index;
  made = record {
    before = mid.member;
    sets = sets.made;
    made = subst (λ (i : Index). Made (board_of i) mid.member is.member) sets.index made.made;
  };
}

-- the client of the shard at this place made the call
pub calls_shard : (shard : ℕ) (Made : Board → Member → Member → Type 0) (old new : Client) (place : ℕ) (was mid is : one.Client)
    → place ≡ shard → place < length old.shards.items → was ≡ get_or old.shards.items place was
    → of_one.MakesCall (λ board. SetsNow old.clock) was mid → of_one.MakesCall Made mid is
    → new.shards.items ≡ set old.shards.items place is → new.clock ≡ old.clock
    → CallsShard shard Made old new
calls_shard shard Made old new place was mid is at below there sets made shards clock = record {
  was = was;
  is = is;
  there = subst (λ n. slice_get old.shards.items n ≡ Some was) at (slice_get-get_or old.shards.items place was below ∙ ap (λ (c : one.Client). Some c) (sym there));
  made = at_moment old.clock Made was mid is sets made;
  shards = shards ∙ ap (λ n. set old.shards.items n is) at;
  clock = clock;
}

-- the client of the key's shard made the call
pub by_shard : (key : List ℕ) (Made : Board → Member → Member → Type 0) (old new : Client) (place : ℕ) (was mid is : one.Client)
    → (place ≡ shard_of (length old.shards.items) key) × (place < length old.shards.items) → was ≡ get_or old.shards.items place was
    → of_one.MakesCall (λ board. SetsNow old.clock) was mid → of_one.MakesCall Made mid is
    → new.shards.items ≡ set old.shards.items place is → new.clock ≡ old.clock → new.holds ≡ old.holds
    → MakesCall key Made old new
by_shard key Made old new place was mid is at there sets made shards clock holds = record {
  calls = calls_shard (shard_of (length old.shards.items) key) Made old new place was mid is at.0 at.1 there sets made shards clock;
  holds = holds;
}
