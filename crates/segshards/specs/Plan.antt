-- How many shards a cache has for a number of keys, and of which shape.
use Rattle.std.specs.Prelude.{◌≡◌, ℕ, ◌+◌, ◌*◌, ◌<◌, ◌≤◌, ◌⊎◌, max}
use Rattle.std.specs.Int.{div_ceil, IsInRange}
use Rattle.segword.specs.Shape.{HasRoomFor, IsValid}
use Rattle.segword.specs.declared.shape.ShapeFault.{ShapeFault}
use Rattle.segword.specs.declared.shape.ShapeFault.TheVariants.{BadPasses}
use Rattle.segshards.specs.declared.plan.ShardPlan.{ShardPlan}
use Rattle.segshards.specs.declared.shard.TheConstants.{MOST_SHARDS}

-- The shards have room for so many keys together, as many each, and each has so many passes.
-- They are planned for no more keys. There is no more than one for every 200,000, and none has
-- more keys while there may be another one.
pub record IsPlanFor (keys threads : ℕ) (plan : ShardPlan) : Type 0 where
  pub valid : IsValid plan.shape
  pub passes : plan.shape.passes ≡ threads
  pub each : ℕ
  pub enough : keys ≤ each * plan.count
  pub no_more : each * plan.count < keys + plan.count
  pub room : HasRoomFor each plan.shape
  pub some : 1 ≤ plan.count
  pub few : plan.count ≤ MOST_SHARDS
  pub needed : plan.count ≤ max 1 (div_ceil keys 200000)
  pub spread : (each ≤ 200000) ⊎ (plan.count ≡ MOST_SHARDS)

-- Only the number of threads can be in the way of a plan: each number of keys has one.
pub record IsFaultOfPlan (threads : ℕ) (fault : ShapeFault) : Type 0 where
  pub is : fault ≡ BadPasses
  pub is_not : ¬ (IsInRange 1 64 threads)
