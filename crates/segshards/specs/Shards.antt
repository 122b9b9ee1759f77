-- Several indexes, the shards of a cache: each key belongs to one of them by its hash.
use Rattle.std.specs.Prelude.{◌≡◌, ◌≤◌, length, ℕ, ◌*◌, ◌/◌, ◌%◌, ◌^◌, List, All}
use Rattle.std.specs.List.{AllZip}
use Rattle.std.specs.Global.{Vec}
use Rattle.segword.specs.Shape.{HasRoomFor}
use Rattle.segword.specs.Words.{hash_of, Shape}
use Rattle.segword.specs.declared.shape.ShapeFault.{ShapeFault}
use Rattle.segbase.specs.Words.{Pass}
use Rattle.segbase.specs.declared.fault.MakeFault.{MakeFault}
use Rattle.segbase.specs.declared.fault.MakeFault.TheVariants as fault
use Rattle.segindex.specs.Words.{AreAllQuiet, board_of, Index, IsNew, shape_of}
use Rattle.segstore.specs.Words.{IsQuiet}
use Rattle.segshards.specs.declared.plan.ShardPlan.{ShardPlan}

-- the shard, out of so many, of the keys with this hash: by its bits 20 to 51
abbrev pub shard_from_hash : ℕ → ℕ → ℕ
shard_from_hash count hash = hash / 2 ^ 20 % 2 ^ 32 * count / 2 ^ 32

abbrev pub shard_of : ℕ → List ℕ → ℕ
shard_of count key = shard_from_hash count (hash_of key)

-- there is a list of passes for each shard, and these are between two calls of it
abbrev pub AreOfShards : List Index → List (Vec Pass) → Type 0
AreOfShards = AllZip (λ i passes. All (IsQuiet (board_of i)) passes.items)

-- each shard is new and of this shape, with its passes in the order of their numbers
abbrev pub AreNew : Shape → List Index → List (Vec Pass) → Type 0
AreNew shape = AllZip (λ i passes. IsNew shape i passes.items)

-- there are all passes of each shard, in any order, and these are between two calls of it
abbrev pub AreAllOfShards : List Index → List (Vec Pass) → Type 0
AreAllOfShards = AllZip (λ i passes. AreAllQuiet (board_of i) passes.items)

-- The shards have room for so many keys together, as many each, and each has so many passes.
pub record HaveRoomFor (keys threads : ℕ) (indexes : List Index) : Type 0 where
  pub shape : Shape
  pub each : ℕ
  pub enough : keys ≤ each * length indexes
  pub room : HasRoomFor each shape
  pub passes : shape.passes ≡ threads
  pub shapes : All (λ i. shape_of i ≡ shape) indexes

-- the shards are those of a plan of this kind: as many as it has, and each of its shape
pub record AreOfPlan (IsPlan : ShardPlan → Type 0) (indexes : List Index) : Type 0 where
  pub shape : Shape
  pub plan : IsPlan (record { shape = shape; count = length indexes })
  pub shapes : All (λ i. shape_of i ≡ shape) indexes

-- Memory can be in the way of shards only where there is a plan of this kind, and a fault of a shape
-- only if it is of this one.
abbrev pub IsFaultOfShards : (ShardPlan → Type 0) → (ShapeFault → Type 0) → MakeFault → Type 0
IsFaultOfShards IsPlan IsFault (fault.Shape found) = IsFault found
IsFaultOfShards IsPlan IsFault fault.OutOfMemory = (plan : ShardPlan) × IsPlan plan
