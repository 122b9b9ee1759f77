-- What a client of all shards did by one of them.
use Rattle.std.specs.Prelude.{◌≡◌, ℕ, List, length, slice_get, slice_set, Some}
use Rattle.segbase.specs.Words.{Board}
use Rattle.segclient.specs.declared.member.Member.{Member}
use Rattle.segshards.specs.Shards.{shard_of}
use Rattle.seghandles.specs.declared.client.SharedClient.{SharedClient}
use Rattle.seghandles.specs.declared.guest.Guest.{Guest}
use Rattle.seghandles.specs.Guest as of_guest

-- its guest of this shard did this, and the guests of the others are as they were
pub record ByShard (shard : ℕ) (Does : Guest → Guest → Type 0) (old new : SharedClient)
    : Type 0 where
  pub was : Guest
  pub is : Guest
  pub there : slice_get old.guests.items shard ≡ Some was
  pub does : Does was is
  pub guests : new.guests.items ≡ slice_set old.guests.items shard is

-- the guest of the key's shard did this
abbrev pub ByShardOf : List ℕ → (Guest → Guest → Type 0) → SharedClient → SharedClient → Type 0
ByShardOf key Does old new = ByShard (shard_of (length old.guests.items) key) Does old new

-- The guest of the key's shard made this call of its index, and what is held is as it was.
pub record CallsKey (key : List ℕ) (Made : Board → Member → Member → Type 0)
    (old new : SharedClient) : Type 0 where
  pub calls : ByShardOf key (of_guest.MakesCall Made) old new
  pub holds : new.holds ≡ old.holds

-- and so is the shard that wants room
pub record MakesCall (key : List ℕ) (Made : Board → Member → Member → Type 0)
    (old new : SharedClient) : Type 0 where
  pub calls : CallsKey key Made old new
  pub wants : new.wants ≡ old.wants
