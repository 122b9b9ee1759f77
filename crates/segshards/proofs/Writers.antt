-- A plan for some writers is two plans: of the chains for the keys, and of rows for more.
use Rattle.std.proofs.Common.{◌≡◌, ℕ, ◌+◌, ◌*◌, ◌<◌, ◌≤◌, ◌⊎◌, max, arith, inl, inr, refl}
use Rattle.std.specs.Int.{IsInRange, div_ceil}
use Rattle.std.proofs.lemmas.Bool.{cases_lt}
use Rattle.std.proofs.lemmas.Grind.{div_ceil_times}
use Rattle.std.proofs.Math.Nat.{mul-le-mul_left, mul-le-mul_right}
use Rattle.segword.specs.declared.shape.ShapeFault.{ShapeFault}
use Rattle.segword.specs.declared.shape.ShapeFault.TheVariants.{BadBuckets, BadOverflow, BadPasses, BadSegments, BadRows, TooLarge}
use Rattle.segword.specs.Shape.{HasRoomFor, IsFaultOfKeys, IsValid}
use Rattle.segword.specs.Words.{Shape}
use Rattle.segshards.specs.Writers.{AreWriters, HasRoomForWriters}

-- what is less in equal shares is less in one
less_each : (a b n : ℕ) → a * n < b * n → a < b
less_each a b n less = by (cases_lt a b)
  where
    by : (a < b) ⊎ (b ≤ a) → a < b
    by (inl is) = is
    by (inr above) =
        let more : b * n ≤ a * n = mul-le-mul_right n above in
        absurd (omega (arith, less))

-- so few keys and so many threads have a shape
pub no_fault : (keys passes : ℕ) (fault : ShapeFault) → IsInRange 1 64 passes → keys ≤ 262208 → IsFaultOfKeys keys passes fault → ⊥
no_fault keys passes BadBuckets range few is = is
no_fault keys passes BadOverflow range few is = is
no_fault keys passes BadPasses range few is = is range
no_fault keys passes BadSegments range few is = is
no_fault keys passes BadRows range few is = is
no_fault keys passes TooLarge range few is = let many = is.1 in absurd (omega (arith, few, many))

-- the number of shards, from the steps that make it
pub counted : (keys threads writers a b d share count : ℕ) → count ≡ max share 1 → share ≡ div_ceil (a * b) d
    → a ≡ keys → b ≡ threads → d ≡ 262144 * writers → count ≡ max (div_ceil (keys * threads) (262144 * writers)) 1
counted keys threads writers a b d share count is_count is_share is_a is_b is_d = rw (is_count, is_share, is_a, is_b, is_d) refl

-- there are no more shards of more keys each
fewer_of_more : (x w : ℕ) → 1 ≤ w → div_ceil x (262144 * w) ≤ div_ceil x (200000 * w)
fewer_of_more x w some = by (cases_lt (div_ceil x (200000 * w)) (div_ceil x (262144 * w)))
  where
    by : (div_ceil x (200000 * w) < div_ceil x (262144 * w)) ⊎ (div_ceil x (262144 * w) ≤ div_ceil x (200000 * w)) → div_ceil x (262144 * w) ≤ div_ceil x (200000 * w)
    by (inr few) = few
    by (inl more) =
        let large = (div_ceil_times x (262144 * w) (omega (arith, some))).1 in
        let small = (div_ceil_times x (200000 * w) (omega (arith, some))).0 in
        let step : (div_ceil x (200000 * w) + 1) * (262144 * w) ≤ div_ceil x (262144 * w) * (262144 * w) = mul-le-mul_right (262144 * w) (omega (arith, more)) in
        let spread : div_ceil x (200000 * w) * (200000 * w) ≤ div_ceil x (200000 * w) * (262144 * w) = mul-le-mul_left (div_ceil x (200000 * w)) (omega arith) in
        absurd (omega (arith, large, small, step, spread))

-- no more shards than are needed, from the steps that make their number
pub as_needed : (keys threads writers a b d count least wanted : ℕ) → AreWriters threads writers
    → least ≡ max (div_ceil (keys * threads) (262144 * writers)) 1 → count ≤ max least wanted
    → wanted ≡ div_ceil (a * b) d → a ≡ keys → b ≡ threads → d ≡ 200000 * writers
    → count ≤ max 1 (div_ceil (keys * threads) (200000 * writers))
as_needed keys threads writers a b d count least wanted are is_least few is_wanted is_a is_b is_d =
    let fewer = fewer_of_more (keys * threads) writers are.1.0 in
    let wanted_is : wanted ≡ div_ceil (keys * threads) (200000 * writers) = rw (is_wanted, is_a, is_b, is_d) refl in
    omega (arith, is_least, few, wanted_is, fewer)

-- a cache that needs more shards than there may be
pub too_many : (keys threads writers count : ℕ) → AreWriters threads writers → count ≡ max (div_ceil (keys * threads) (262144 * writers)) 1 → 16384 < count → 4294967296 * writers < keys * threads
too_many keys threads writers count are is_count many =
    let some = are.1.0 in
    let times = (div_ceil_times (keys * threads) (262144 * writers) (omega (arith, some))).1 in
    let more : 16385 * (262144 * writers) ≤ div_ceil (keys * threads) (262144 * writers) * (262144 * writers) = mul-le-mul_right (262144 * writers) (omega (arith, is_count, many)) in
    omega (arith, times, more)

module _ (keys threads writers least count each : ℕ) (are : AreWriters threads writers)
    (is_least : least ≡ max (div_ceil (keys * threads) (262144 * writers)) 1) (over : least ≤ count) (is_each : each ≡ div_ceil keys count) where
  pub some : 1 ≤ count
  some = omega (arith, is_least, over)

  all_fit : keys * threads ≤ count * (262144 * writers)
  all_fit =
      let times = div_ceil_times (keys * threads) (262144 * writers) (omega (arith, are.1.0)) in
      let more : div_ceil (keys * threads) (262144 * writers) * (262144 * writers) ≤ count * (262144 * writers) = mul-le-mul_right (262144 * writers) (omega (arith, is_least, over)) in
      omega (arith, times.0)

  pub each_times : (keys ≤ each * count) × (each * count < keys + count)
  each_times = rw is_each (div_ceil_times keys count some)

  pub each_fits : each * threads < 262144 * writers + threads
  each_fits =
      let share : (each * count + 1) * threads ≤ (keys + count) * threads =
      mul-le-mul_right threads (omega (arith, each_times.1)) in
      less_each (each * threads) (262144 * writers + threads) count (omega (arith, share, all_fit, are.0.0))

  -- each has no more than one for every 200,000, while there may be another shard
  pub spread : (a b d wanted : ℕ) → wanted ≡ div_ceil (a * b) d → a ≡ keys → b ≡ threads → d ≡ 200000 * writers
      → (wanted ≤ count) ⊎ (count ≡ 16384) → (each * threads < 200000 * writers + threads) ⊎ (count ≡ 16384)
  spread a b d wanted is_wanted is_a is_b is_d (inr most) = inr most
  spread a b d wanted is_wanted is_a is_b is_d (inl enough) =
      let is : wanted ≡ div_ceil (keys * threads) (200000 * writers) = rw (is_wanted, is_a, is_b, is_d) refl in
      let times = (div_ceil_times (keys * threads) (200000 * writers) (omega (arith, are.1.0))).0 in
      let more : div_ceil (keys * threads) (200000 * writers) * (200000 * writers) ≤ count * (200000 * writers) =
      mul-le-mul_right (200000 * writers) (omega (arith, is, enough)) in
      let share : (each * count + 1) * threads ≤ (keys + count) * threads =
      mul-le-mul_right threads (omega (arith, each_times.1)) in
      inl (less_each (each * threads) (200000 * writers + threads) count
      (omega (arith, share, times, more, are.0.0)))

  pub few_keys : each ≤ 262208
  few_keys =
      let more : writers * each ≤ threads * each = mul-le-mul_right each are.1.1 in
      let less : each < 262209 = less_each each 262209 writers (omega (arith, each_fits, more, are.0.1, are.1.0)) in
      omega (arith, less)

  module _ (wide : ℕ) (is_wide : wide ≡ div_ceil (each * threads) writers) where
    wide_times : (each * threads ≤ wide * writers) × (wide * writers < each * threads + writers)
    wide_times = rw is_wide (div_ceil_times (each * threads) writers (omega (arith, are.1.0)))

    pub wide_fits : wide ≤ 262208
    wide_fits =
        let less : wide < 262209 = less_each wide 262209 writers (omega (arith, each_fits, wide_times.1, are.0.1, are.1.0)) in
        omega (arith, less)

    pub each_less : each ≤ wide
    each_less =
        let more : writers * each ≤ threads * each = mul-le-mul_right each are.1.1 in
        let less : each < wide + 1 = less_each each (wide + 1) writers (omega (arith, more, wide_times.0, are.1.0)) in
        omega (arith, less)

    module _ (chains rows : Shape) (are_chains : IsValid chains × (chains.passes ≡ threads) × HasRoomFor each chains) (are_rows : IsValid rows × (rows.passes ≡ threads) × HasRoomFor wide rows) where
      abbrev pub made : Shape
      made = record { buckets = chains.buckets; overflow = chains.overflow; passes = rows.passes; segments_each = rows.segments_each; rows = rows.rows; first_version = rows.first_version }

      two_rows : 2 * each ≤ writers * (rows.segments_each * rows.rows)
      two_rows =
          let room : 2 * wide ≤ threads * rows.segments_each * rows.rows = rw are_rows.1 at are_rows.2.rows in
          let times : (2 * wide) * writers ≤ (threads * rows.segments_each * rows.rows) * writers = mul-le-mul_right writers room in
          let less : 2 * each < writers * (rows.segments_each * rows.rows) + 1 =
          less_each (2 * each) (writers * (rows.segments_each * rows.rows) + 1) threads
          (omega (arith, times, wide_times.0, are.0.0)) in
          omega (arith, less)

      pub room : HasRoomForWriters each writers made
      room = record {
        words = are_chains.2.words;
        buckets = record {
          enough = are_chains.2.buckets.enough;
          no_more = are_chains.2.buckets.no_more;
          overflow = are_chains.2.buckets.overflow;
        };
        rows = two_rows;
        segments = are_rows.2.segments;
        wide = wide;
        least = rw are_rows.1 (omega (arith, wide_times.1));
        few = omega (arith, are_chains.2.few, are_rows.2.few, are_chains.1, are_rows.1);
      }

      pub valid : IsValid made
      valid =
          let chain = are_chains.0 in
          let row = are_rows.0 in
          let few = room.few in
          let passes = row.0.0.0.1 in
          ((((chain.0.0.0.0, passes), row.0.0.1), row.0.1), omega (arith, few, each_less, wide_fits, passes.1))
