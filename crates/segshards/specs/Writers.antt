-- A cache that some of its threads fill: how large it is, and what is in the way of one.
use Rattle.std.specs.Prelude.{◌≡◌, ℕ, ◌+◌, ◌*◌, ◌^◌, ◌<◌, ◌≤◌, ◌⊎◌, List, All, length, max}
use Rattle.std.specs.Int.{div_ceil, IsInRange}
use Rattle.segword.specs.declared.row.TheConstants.{ROW_WORDS}
use Rattle.segword.specs.declared.shape.ShapeFault.{ShapeFault}
use Rattle.segword.specs.declared.shape.ShapeFault.TheVariants.{BadPasses, TooLarge}
use Rattle.segword.specs.Shape.{HasBucketsFor, IsValid, word_count}
use Rattle.segword.specs.Words.{Shape}
use Rattle.segindex.specs.Words.{Index, shape_of}
use Rattle.segshards.specs.declared.plan.ShardPlan.{ShardPlan}
use Rattle.segshards.specs.declared.shard.TheConstants.{MOST_SHARDS}

-- There are two words of chains for each key, and any so many passes together have two rows for
-- each, in at least 64 segments of each pass. So each of these passes has two rows for each key
-- of its part. The table has few words more than that of so many keys, and one of `wide` keys:
-- for so many the rows would do if all passes stored.
pub record HasRoomForWriters (keys writers : ℕ) (shape : Shape) : Type 0 where
  pub words : 2 * keys ≤ 7 * shape.buckets + 6 * shape.overflow
  pub buckets : HasBucketsFor keys shape
  pub rows : 2 * keys ≤ writers * (shape.segments_each * shape.rows)
  pub segments : 64 ≤ shape.segments_each
  pub wide : ℕ
  pub least : writers * wide < keys * shape.passes + writers
  pub few : word_count shape
      ≤ (2 * ROW_WORDS + 11) * (keys + wide) + 132 * (ROW_WORDS + 1) * shape.passes + 40

-- The shards have room for so many keys together, as many each, if so many of the threads store
-- them, whichever these are, and each of these as many. Each shard has a pass for each thread.
-- They are planned for no more keys. There is no more than one for every 200,000 of those that
-- there were if all threads stored as much as a writer, and none has more of these while there may
-- be another shard.
pub record IsPlanForWriters (keys threads writers : ℕ) (plan : ShardPlan) : Type 0 where
  pub valid : IsValid plan.shape
  pub passes : plan.shape.passes ≡ threads
  pub each : ℕ
  pub enough : keys ≤ each * plan.count
  pub no_more : each * plan.count < keys + plan.count
  pub room : HasRoomForWriters each writers plan.shape
  pub some : 1 ≤ plan.count
  pub few : plan.count ≤ MOST_SHARDS
  pub needed : plan.count ≤ max 1 (div_ceil (keys * threads) (200000 * writers))
  pub spread : (each * threads < 200000 * writers + threads) ⊎ (plan.count ≡ MOST_SHARDS)

-- The same of shards that are there.
pub record HaveRoomForWriters (keys threads writers : ℕ) (indexes : List Index) : Type 0 where
  pub shape : Shape
  pub each : ℕ
  pub enough : keys ≤ each * length indexes
  pub room : HasRoomForWriters each writers shape
  pub passes : shape.passes ≡ threads
  pub shapes : All (λ i. shape_of i ≡ shape) indexes

-- a cache has 1 to 64 threads, of which one or more are writers
abbrev pub AreWriters : ℕ → ℕ → Type 0
AreWriters threads writers = IsInRange 1 64 threads × IsInRange 1 threads writers

-- BadPasses: so many threads, or so many writers of them, can't be. TooLarge: if all threads
-- stored as much as a writer, that were over 2^32 keys.
abbrev pub IsFaultOfWriters : ℕ → ℕ → ℕ → ShapeFault → Type 0
IsFaultOfWriters keys threads writers BadPasses = ¬ (AreWriters threads writers)
IsFaultOfWriters keys threads writers TooLarge =
    AreWriters threads writers × (2 ^ 32 * writers < keys * threads)
IsFaultOfWriters keys threads writers fault = ⊥
