-- How many bytes a cache takes, and how large one is that may take a number of bytes.
use Rattle.std.specs.Prelude.{◌≡◌, ℕ, ◌+◌, ◌*◌, ◌/◌, ◌<◌, ◌≤◌, ◌⊎◌, List, All, length}
use Rattle.std.specs.Int.{div_ceil, IsInRange}
use Rattle.segword.specs.declared.shape.ShapeFault.{ShapeFault}
use Rattle.segword.specs.declared.shape.ShapeFault.TheVariants.{BadPasses, TooLarge}
use Rattle.segword.specs.Shape.{word_count}
use Rattle.segword.specs.Words.{Shape}
use Rattle.segindex.specs.Words.{Index, shape_of}
use Rattle.segshards.specs.declared.plan.TheConstants.{MOST_KEYS}
use Rattle.segshards.specs.declared.plan.ShardPlan.{ShardPlan}
use Rattle.segshards.specs.declared.shard.TheConstants.{MOST_SHARDS}
use Rattle.segshards.specs.Items.{IsShapeForItems, mean_rows}

-- what the clients of a shard keep beside its table: for each segment 64 bytes, 3 for each row
-- and one for each eight rows, and 4,096 each
abbrev pub clients_bytes : Shape → ℕ
clients_bytes shape =
    shape.passes * (shape.segments_each * (3 * shape.rows + div_ceil shape.rows 8 + 64) + 4096)

-- So many shards of a shape take so many bytes, from their opening on: a table each and one more,
-- and what their clients keep.
abbrev pub bytes_of : Shape → ℕ → ℕ
bytes_of shape count = (count + 1) * (8 * word_count shape) + count * clients_bytes shape

-- so many keys of the mean length a shard has at most
abbrev pub most_items : ℕ
most_items = MOST_KEYS / mean_rows

-- a shard of the shape has room for so many keys of the mean length, and a pass for each thread
abbrev pub IsShapeFor : ℕ → ℕ → Shape → Type 0
IsShapeFor keys threads shape = IsShapeForItems keys mean_rows threads shape

-- so many shards with room for so many keys each take over so many bytes
abbrev pub TakesOver : ℕ → ℕ → ℕ → ℕ → Type 0
TakesOver bytes threads keys count =
    (shape : Shape) × IsShapeFor keys threads shape × (bytes < bytes_of shape count)

-- The shards take no more than so many bytes. With room for one key more each they would take
-- more, or there are the most shards, with the most keys each.
pub record IsPlanWithin (bytes threads : ℕ) (plan : ShardPlan) : Type 0 where
  pub each : ℕ
  pub shape : IsShapeFor each threads plan.shape
  pub some : 1 ≤ plan.count
  pub few : plan.count ≤ MOST_SHARDS
  pub within : bytes_of plan.shape plan.count ≤ bytes
  pub full : ((each ≡ most_items) × (plan.count ≡ MOST_SHARDS))
      ⊎ TakesOver bytes threads (each + 1) plan.count

-- The same for so many shards, which can have the most keys each.
pub record IsPlanOf (bytes threads count : ℕ) (plan : ShardPlan) : Type 0 where
  pub each : ℕ
  pub shape : IsShapeFor each threads plan.shape
  pub is : plan.count ≡ count
  pub within : bytes_of plan.shape plan.count ≤ bytes
  pub full : (each ≡ most_items) ⊎ TakesOver bytes threads (each + 1) plan.count

-- The same of shards that are there.
pub record AreWithin (bytes threads : ℕ) (indexes : List Index) : Type 0 where
  pub shape : Shape
  pub plan : IsPlanWithin bytes threads (record { shape = shape; count = length indexes })
  pub shapes : All (λ i. shape_of i ≡ shape) indexes

-- BadPasses: so many threads can't be. TooLarge: even one shard for no key takes more.
abbrev pub IsFaultOfBudget : ℕ → ℕ → ShapeFault → Type 0
IsFaultOfBudget bytes threads BadPasses = ¬ (IsInRange 1 64 threads)
IsFaultOfBudget bytes threads TooLarge = IsInRange 1 64 threads × TakesOver bytes threads 0 1
IsFaultOfBudget bytes threads fault = ⊥
