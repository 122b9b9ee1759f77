-- An item that a client of all shards holds: in one shard.
use Rattle.std.specs.Prelude.{◌≡◌, ℕ, List, length, Bool, false, is_some}
use Rattle.std.specs.Prelude.{Option, Some, None}
use Rattle.segshards.specs.Shards.{shard_of}
use Rattle.seghandles.specs.declared.client.SharedClient.{SharedClient}
use Rattle.seghandles.specs.declared.guest.Guest.{Guest}
use Rattle.seghandles.specs.declared.status.Status.{Status}
use Rattle.seghandles.specs.declared.status.Status.TheVariants as status
use Rattle.seghandles.specs.Calls.{ByShard, ByShardOf}
use Rattle.seghandles.specs.Guest as of_guest

-- the shard that holds something from then on, if a hold in it had this status
abbrev pub holds_after : Status → ℕ → Option ℕ
holds_after status.Ok shard = Some shard
holds_after _ shard = None

-- the guest of the key's shard made this hold
pub record HoldsInShard (key : List ℕ) (now : ℕ) (returned : Status) (old new : SharedClient)
    : Type 0 where
  pub calls : ByShardOf key (of_guest.HoldsAt key now returned) old new
  pub holds : new.holds ≡ holds_after returned (shard_of (length old.guests.items) key)
  pub wants : new.wants ≡ old.wants

-- AlreadyHolding if an item is held in some shard, and then nothing was done
abbrev pub HoldsBy : Option ℕ → List ℕ → ℕ → Status → SharedClient → SharedClient → Type 0
HoldsBy (Some shard) key now returned old new = (returned ≡ status.AlreadyHolding) × (new ≡ old)
HoldsBy None key now returned old new = HoldsInShard key now returned old new

abbrev pub HoldsAt : List ℕ → ℕ → Status → SharedClient → SharedClient → Type 0
HoldsAt key now returned old new = HoldsBy old.holds key now returned old new

-- the value that the guest of this shard holds was read
pub record ReadsInShard (shard : ℕ) (value : Option (List ℕ)) (old new : SharedClient)
    : Type 0 where
  pub reads : ByShard shard (of_guest.ReadsHeld value) old new
  pub holds : new.holds ≡ old.holds
  pub wants : new.wants ≡ old.wants

-- where nothing is held, nothing was done
abbrev pub ReadsBy : Option ℕ → Option (List ℕ) → SharedClient → SharedClient → Type 0
ReadsBy (Some shard) value old new = ReadsInShard shard value old new
ReadsBy None value old new = (value ≡ None) × (new ≡ old)

abbrev pub ReadsHeld : Option (List ℕ) → SharedClient → SharedClient → Type 0
ReadsHeld value old new = ReadsBy old.holds value old new

-- the hold of a guest ended, if there was one
abbrev pub EndsHoldIf : Bool → Guest → Guest → Type 0
EndsHoldIf ended old new =
    of_guest.EndsItsHold old.share.held old new × (ended ≡ is_some old.share.held)

-- the hold of the guest of this shard ended
pub record ReleasesInShard (shard : ℕ) (ended : Bool) (old new : SharedClient) : Type 0 where
  pub ends : ByShard shard (EndsHoldIf ended) old new
  pub holds : new.holds ≡ None
  pub wants : new.wants ≡ old.wants

abbrev pub ReleasesBy : Option ℕ → Bool → SharedClient → SharedClient → Type 0
ReleasesBy (Some shard) ended old new = ReleasesInShard shard ended old new
ReleasesBy None ended old new = (ended ≡ false) × (new ≡ old)

abbrev pub Releases : Bool → SharedClient → SharedClient → Type 0
Releases ended old new = ReleasesBy old.holds ended old new
