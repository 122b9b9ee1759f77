-- A shape that is made for so many keys is valid, and has room for them.
use Rattle.std.proofs.Common.{◌≡◌, ℕ, zero, suc, ◌+◌, ◌*◌, ◌/◌, ◌^◌, ◌<◌, ◌≤◌, ◌⊎◌, min, max, arith, refl, inl, inr}
use Rattle.std.specs.Int.{IsInRange, IsPowerOfTwo, div_ceil}
use Rattle.std.proofs.lemmas.Bool.{cases_lt}
use Rattle.std.proofs.lemmas.Grind.{div_ceil_times}
use Rattle.std.proofs.Math.Nat.{mul-le-mul_left, mul-le-mul_right, pow-suc}
use Rattle.std.proofs.lemmas.Nat.{mul-le, pow_pos}
use Rattle.segword.specs.declared.row.TheConstants.{ROW_WORDS}
use Rattle.segword.specs.Shape.{HasBucketsFor, HasRoomFor, IsValid, word_count}
use Rattle.segword.specs.declared.shape.Shape.{Shape}

-- the lower one of a power of two and 65,536
power_min : (n : ℕ) → IsPowerOfTwo n → IsPowerOfTwo (min n 65536)
power_min n power = elim (cases_lt n 65536) [
  | inl low ↦ (power.0, omega (arith, power.1))
  | inr high ↦ (16, omega arith)
]

-- a power of two is one, or even
one_or_even : (n : ℕ) → IsPowerOfTwo n → (n ≡ 1) ⊎ ((half : ℕ) × (n ≡ 2 * half) × (1 ≤ half))
one_or_even n (zero, is) = inl (omega (arith, is))
one_or_even n (suc k, is) = inr (2 ^ k, omega (arith, is, pow-suc 2 k), pow_pos k)

module _ (keys passes near each segments rows : ℕ) (few : keys ≤ 425984) (fit : ROW_WORDS * (2 * keys + 13440) ≤ 64000000) (in_range : IsInRange 1 64 passes)
    (power : IsPowerOfTwo near) (over : div_ceil (5 * keys) 16 ≤ near) (under : near / 2 < max 1 (div_ceil (5 * keys) 16))
    (is_each : each ≡ max (div_ceil (2 * keys) passes) 1) (is_segments : segments ≡ max (div_ceil each 4096) 64) (is_rows : rows ≡ div_ceil each segments) where
  abbrev pub made : Shape
  made = record { buckets = min near 65536; overflow = min near 65536; passes = passes; segments_each = segments; rows = rows; first_version = 0 }

  abbrev share : ℕ
  share = div_ceil (2 * keys) passes

  share_times : (2 * keys ≤ share * passes) × (share * passes < 2 * keys + passes)
  share_times = div_ceil_times (2 * keys) passes (omega (arith, in_range.0))

  -- the rows of a pass are its share, rounded up, or one
  each_fits : (2 * keys ≤ each * passes) × (each * passes ≤ 2 * keys + passes) × (1 ≤ each) × (each ≤ 852096)
  each_fits = by (cases_lt share 1)
    where
      by : (share < 1) ⊎ (1 ≤ share) → (2 * keys ≤ each * passes) × (each * passes ≤ 2 * keys + passes) × (1 ≤ each) × (each ≤ 852096)
      by (inl none) =
          let one : each ≡ 1 = omega (arith, is_each) in
          let zero : share ≡ 0 = omega arith in
          let nothing : 2 * keys ≤ 0 * passes = rw zero at share_times.0 in
          let times : each * passes ≡ passes = rw one (omega arith) in
          (omega (arith, in_range.0), omega arith, omega arith, omega arith)
      by (inr some) =
          let same : each ≡ share = omega (arith, is_each) in
          let times : each * passes ≡ share * passes = rw same refl in
          let more : each * 1 ≤ each * passes = mul-le-mul_left each in_range.0 in
          (omega (arith, share_times.0), omega (arith, share_times.1), omega arith, omega (arith, share_times.1, in_range.1))

  segments_fit : (64 ≤ segments) × (segments ≤ 209) × (each ≤ segments * 4096)
  segments_fit =
      let times = div_ceil_times each 4096 (omega arith) in
      let few = each_fits.3 in
      (omega (arith, is_segments), omega (arith, is_segments, times.1), omega (arith, is_segments, times.0))

  rows_fit : (each ≤ rows * segments) × (rows * segments < each + segments) × (1 ≤ rows) × (rows ≤ 4096)
  rows_fit =
      let times = div_ceil_times each segments (omega (arith, segments_fit.0)) in
      let over : each ≤ rows * segments = rw is_rows times.0 in
      let under : rows * segments < each + segments = rw is_rows times.1 in
      (over, under, positive (cases_lt rows 1) over, small (cases_lt 4096 rows) under)
    where
      positive : (rows < 1) ⊎ (1 ≤ rows) → each ≤ rows * segments → 1 ≤ rows
      positive (inl none) over =
          let zero : rows ≡ 0 = omega arith in
          let nothing : each ≤ 0 * segments = rw zero at over in
          absurd (omega (arith, each_fits.2))
      positive (inr some) over = some

      small : (4096 < rows) ⊎ (rows ≤ 4096) → rows * segments < each + segments → rows ≤ 4096
      small (inl many) under =
          let more : 4097 * segments ≤ rows * segments = mul-le-mul_right segments (omega arith) in
          absurd (omega (arith, segments_fit.2))
      small (inr fits) under = fits

  -- each pass has a bounded part of the table
  part_fits : passes * segments * (1 + ROW_WORDS * rows) ≤ 66000000
  part_fits =
      let counts : passes * segments ≤ 64 * 209 = mul-le passes segments 64 209 in_range.1 segments_fit.1 in
      let table : passes * (rows * segments) ≤ passes * (each + segments) = mul-le-mul_left passes (omega (arith, rows_fit.1)) in
      let spread : passes * segments * (1 + ROW_WORDS * rows) ≡ passes * segments + ROW_WORDS * (passes * (rows * segments)) = omega arith in
      let apart : passes * (each + segments) ≡ each * passes + passes * segments = omega arith in
      let most : ROW_WORDS * (passes * (rows * segments)) ≤ ROW_WORDS * (2 * keys + 13440) = mul-le-mul_left ROW_WORDS (omega (arith, each_fits.1, in_range.1)) in
      omega (arith, fit)

  -- no more words than for twice the rows, and for the segments of each pass
  few_words : word_count made ≤ (2 * ROW_WORDS + 11) * keys + 66 * (ROW_WORDS + 1) * passes + 20
  few_words =
      let share = div_ceil_times (5 * keys) 16 (omega arith) in
      let chains : 16 * min near 65536 ≤ 10 * keys + 32 = omega (arith, under, share.1) in
      let times = div_ceil_times each 4096 (omega arith) in
      let thick : segments * 4096 ≤ each + 262144 = omega (arith, is_segments, times.1) in
      let most : passes * (segments * 4096) ≤ passes * (each + 262144) = mul-le-mul_left passes thick in
      let wide : passes * (segments * 4096) ≡ 4096 * (passes * segments) = omega arith in
      let long : passes * (each + 262144) ≡ each * passes + 262144 * passes = omega arith in
      let table : passes * (rows * segments) ≤ passes * (each + segments) = mul-le-mul_left passes (omega (arith, rows_fit.1)) in
      let spread : passes * segments * (1 + ROW_WORDS * rows) ≡ passes * segments + ROW_WORDS * (passes * (rows * segments)) = omega arith in
      let apart : passes * (each + segments) ≡ each * passes + passes * segments = omega arith in
      omega (arith, chains, most, wide, long, table, spread, apart, each_fits.1)

  pub is_valid : IsValid made
  is_valid = (
    (((((power_min near power, omega arith), omega arith), in_range), (omega (arith, segments_fit.0), omega (arith, segments_fit.1))), (rows_fit.2, rows_fit.3)),
    omega (arith, part_fits),
  )

  has_buckets : HasBucketsFor keys made
  has_buckets = record {
    enough = enough (cases_lt near 65536);
    no_more =
        no_more (one_or_even near power);
    overflow = refl;
  }
    where
      enough : (near < 65536) ⊎ (65536 ≤ near) → (5 * keys ≤ 16 * min near 65536) ⊎ (min near 65536 ≡ 65536)
      enough (inl low) = let times = div_ceil_times (5 * keys) 16 (omega arith) in inl
          (omega (arith, over, times.0, low))
      enough (inr high) = inr (omega (arith, high))

      no_more : (near ≡ 1) ⊎ ((half : ℕ) × (near ≡ 2 * half) × (1 ≤ half))
          → (8 * min near 65536 < 5 * keys) ⊎ (min near 65536 ≡ 1)
      no_more (inl one) = inr (omega (arith, one))
      no_more (inr (half, even, some)) =
          let share = div_ceil_times (5 * keys) 16 (omega arith) in
          let few : half < max 1 (div_ceil (5 * keys) 16) = omega (arith, under, even) in
          inl (omega (arith, few, share.1, even, some))

  pub has_room : HasRoomFor keys made
  has_room = record {
    words = words (cases_lt near 65536);
    buckets = has_buckets;
    rows =
        let table : passes * each ≤ passes * (rows * segments) = mul-le-mul_left passes rows_fit.0 in
        let one : passes * segments * rows ≡ passes * (rows * segments) = omega arith in
        let other : passes * each ≡ each * passes = omega arith in
        omega (arith, each_fits.0);
    segments = segments_fit.0;
    few = few_words;
  }
    where
      words : (near < 65536) ⊎ (65536 ≤ near) → 2 * keys ≤ 7 * min near 65536 + 6 * min near 65536
      words (inl low) = let times = div_ceil_times (5 * keys) 16 (omega arith) in omega (arith, over, times.0)
      words (inr high) = omega arith
