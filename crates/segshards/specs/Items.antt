-- Caches for items of several rows: how large one is for so many items of a mean length.
use Rattle.std.specs.Prelude.{◌≡◌, ℕ, ◌+◌, ◌*◌, ◌^◌, ◌<◌, ◌≤◌, ◌⊎◌, List, All, length, max, min}
use Rattle.std.specs.Int.{div_ceil, IsInRange}
use Rattle.segword.specs.declared.row.TheConstants.{ROW_WORDS}
use Rattle.segword.specs.declared.shape.ShapeFault.{ShapeFault}
use Rattle.segword.specs.declared.shape.ShapeFault.TheVariants.{BadPasses, TooLarge}
use Rattle.segword.specs.Shape.{HasBucketsFor, IsValid, word_count}
use Rattle.segword.specs.Words.{longest, most_rows, Shape}
use Rattle.segindex.specs.Words.{Index, shape_of}
use Rattle.segshards.specs.declared.plan.ShardPlan.{ShardPlan}
use Rattle.segshards.specs.declared.shard.TheConstants.{MOST_SHARDS}

-- how many rows an item takes at most: its key and value are no longer than the longest
abbrev pub most_of_item : ℕ
most_of_item = most_rows longest

-- so many rows an item is taken to have where nobody says how long items are
abbrev pub mean_rows : ℕ
mean_rows = min most_of_item 4

-- how many rows an item takes of so many bytes of key and value: a row has 64 bytes,
-- and eight of the first one's are no such bytes; and no more than the longest takes
abbrev pub rows_of_mean : ℕ → ℕ
rows_of_mean bytes = min (div_ceil (min bytes 4088 + 8) 64) most_of_item

-- There are two words of chains for each item, and rows for each one twice, in at least 64 segments
-- of each pass. The table has few words more: with ROW_WORDS 8 at most 27 for each item of one row,
-- 47 for each row more of an item, and 594 for each pass.
pub record HasRoomForItems (items rows_each : ℕ) (shape : Shape) : Type 0 where
  pub words : 2 * items ≤ 7 * shape.buckets + 6 * shape.overflow
  pub buckets : HasBucketsFor items shape
  pub rows : 2 * (items * rows_each) ≤ shape.passes * shape.segments_each * shape.rows
  pub segments : 64 ≤ shape.segments_each
  pub few : word_count shape + 20 * items
      ≤ (2 * ROW_WORDS + 31) * (items * rows_each) + 66 * (ROW_WORDS + 1) * shape.passes + 20

-- a shape with this room, and with a pass for each thread
pub record IsShapeForItems (items rows_each threads : ℕ) (shape : Shape) : Type 0 where
  pub valid : IsValid shape
  pub passes : shape.passes ≡ threads
  pub room : HasRoomForItems items rows_each shape

-- The shards have room for so many items together, as many each, and each has so many passes.
-- They are planned for no more items. There is no more than one for every 200,000 rows of items,
-- and none has more of these while there may be another one.
pub record IsPlanForItems (items rows_each threads : ℕ) (plan : ShardPlan) : Type 0 where
  pub each : ℕ
  pub shape : IsShapeForItems each rows_each threads plan.shape
  pub enough : items ≤ each * plan.count
  pub no_more : each * plan.count < items + plan.count
  pub some : 1 ≤ plan.count
  pub few : plan.count ≤ MOST_SHARDS
  pub needed : plan.count ≤ max 1 (div_ceil (items * rows_each) 200000)
  pub spread : (each * rows_each < 200000 + rows_each) ⊎ (plan.count ≡ MOST_SHARDS)

-- The same of shards that are there.
pub record HaveRoomForItems (items rows_each threads : ℕ) (indexes : List Index) : Type 0 where
  pub shape : Shape
  pub each : ℕ
  pub enough : items ≤ each * length indexes
  pub room : IsShapeForItems each rows_each threads shape
  pub shapes : All (λ i. shape_of i ≡ shape) indexes

-- BadPasses: so many threads can't be. TooLarge: the items take over 2^32 rows.
abbrev pub IsFaultOfItems : ℕ → ℕ → ℕ → ShapeFault → Type 0
IsFaultOfItems items rows_each threads BadPasses = ¬ (IsInRange 1 64 threads)
IsFaultOfItems items rows_each threads TooLarge =
    IsInRange 1 64 threads × (2 ^ 32 < items * rows_each)
IsFaultOfItems items rows_each threads fault = ⊥
