-- A client of all shards makes a call by one of them.
use Rattle.std.proofs.Common.{◌≡◌, ◌<◌, ℕ, List, get_or, length, set, slice_get, Some, sym, ap, ◌∙◌, subst}
use Rattle.std.proofs.lemmas.Option.{slice_get-get_or}
use Rattle.segbase.specs.Words.{Board}
use Rattle.segclient.specs.declared.member.Member.{Member}
use Rattle.segshards.specs.Shards.{shard_of}
use Rattle.seghandles.specs.declared.client.SharedClient.{SharedClient}
use Rattle.seghandles.specs.declared.guest.Guest.{Guest}
use Rattle.seghandles.specs.Calls.{ByShard, CallsKey, MakesCall}
use Rattle.seghandles.specs.Guest as of_guest

-- the guest of the shard at this place did this
pub by_shard : (shard : ℕ) (Does : Guest → Guest → Type 0) (old new : SharedClient) (place : ℕ) (was is : Guest)
    → place ≡ shard → place < length old.guests.items → was ≡ get_or old.guests.items place was → Does was is → new.guests.items ≡ set old.guests.items place is
    → ByShard shard Does old new
by_shard shard Does old new place was is at below there does guests = record {
  was = was;
  is = is;
  there = subst (λ n. slice_get old.guests.items n ≡ Some was) at (slice_get-get_or old.guests.items place was below ∙ ap (λ (g : Guest). Some g) (sym there));
  does = does;
  guests = guests ∙ ap (λ n. set old.guests.items n is) at;
}

-- that of the key's shard made a call
pub calls_key : (key : List ℕ) (Made : Board → Member → Member → Type 0) (old new : SharedClient) (place : ℕ) (was is : Guest)
    → (place ≡ shard_of (length old.guests.items) key) × (place < length old.guests.items) → was ≡ get_or old.guests.items place was
    → of_guest.MakesCall Made was is → new.guests.items ≡ set old.guests.items place is → new.holds ≡ old.holds
    → CallsKey key Made old new
calls_key key Made old new place was is at there made guests holds = record {
  calls = by_shard (shard_of (length old.guests.items) key) (of_guest.MakesCall Made) old new place was is at.0 at.1 there made guests;
  holds = holds;
}

pub makes_call : (key : List ℕ) (Made : Board → Member → Member → Type 0) (old new : SharedClient) (place : ℕ) (was is : Guest)
    → (place ≡ shard_of (length old.guests.items) key) × (place < length old.guests.items) → was ≡ get_or old.guests.items place was
    → of_guest.MakesCall Made was is → new.guests.items ≡ set old.guests.items place is → new.holds ≡ old.holds → new.wants ≡ old.wants
    → MakesCall key Made old new
makes_call key Made old new place was is at there made guests holds wants = record {
  calls = calls_key key Made old new place was is at there made guests holds;
  wants = wants;
}
