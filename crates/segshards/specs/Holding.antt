-- An item that a client of all shards holds: in one shard.
use Rattle.std.specs.Prelude.{◌≡◌, ℕ, List, length, slice_get, Option, Some, None}
use Rattle.segindex.specs.Words.{shape_of}
use Rattle.segread.specs.declared.held.HoldAnswer.TheVariants as hold_answer
use Rattle.segread.specs.Words as read
use Rattle.segclient.specs.declared.client.Client as one
use Rattle.segclient.specs.Made as made
use Rattle.segshards.specs.declared.client.Client.{Client}
use Rattle.segshards.specs.Client.{CallsShard}
use Rattle.segshards.specs.Shards.{shard_of}

-- the shard that holds something from then on, if a hold in it had this answer
abbrev pub holds_after : read.HoldAnswer → ℕ → Option ℕ
holds_after (hold_answer.Holding hold) shard = Some shard
holds_after _ shard = None

-- the client of the key's shard made this hold
pub record HoldsInShard (key : List ℕ) (told : read.HoldAnswer) (old new : Client) : Type 0 where
  pub calls : CallsShard (shard_of (length old.shards.items) key) (made.HoldsKey key told) old new
  pub holds : new.holds ≡ holds_after told (shard_of (length old.shards.items) key)

-- A hold of the key had this answer: AlreadyHolding if an item is held in some shard,
-- and then nothing was done.
abbrev pub HoldsBy : Option ℕ → List ℕ → read.HoldAnswer → Client → Client → Type 0
HoldsBy (Some shard) key told old new = (told ≡ hold_answer.AlreadyHolding) × (new ≡ old)
HoldsBy None key told old new = HoldsInShard key told old new

abbrev pub HoldsKey : List ℕ → read.HoldAnswer → Client → Client → Type 0
HoldsKey key told old new = HoldsBy old.holds key told old new

-- the hold has the row of the item that is held in the shard that holds one
pub record IsHoldOf (hold : read.Hold) (client : Client) : Type 0 where
  pub shard : ℕ
  pub holds : client.holds ≡ Some shard
  pub holder : one.Client
  pub there : slice_get client.shards.items shard ≡ Some holder
  pub is : read.IsHoldOf (shape_of holder.index.now) hold holder.member.pass

-- the hold has the row of the item that is held, and that is an item of this key
pub record IsHoldOfKey (key : List ℕ) (hold : read.Hold) (client : Client) : Type 0 where
  pub of : IsHoldOf hold client
  pub item : of.is.held.key ≡ key

-- what a hold of the key has that had this answer
abbrev pub HasHold : List ℕ → read.HoldAnswer → Client → Type 0
HasHold key (hold_answer.Holding hold) client = IsHoldOfKey key hold client
HasHold key _ client = Unit {0}
