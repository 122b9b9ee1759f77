-- What can be in the way of a plan: a shard has few keys.
use Rattle.std.proofs.Common.{◌≡◌, ℕ, ◌+◌, ◌*◌, ◌<◌, ◌≤◌, ◌⊎◌, max, arith, refl, inl, inr}
use Rattle.std.specs.Int.{div_ceil}
use Rattle.std.proofs.lemmas.Bool.{cases_lt}
use Rattle.std.proofs.lemmas.Grind.{div_ceil_times}
use Rattle.std.proofs.Math.Nat.{mul-le-mul_right}
use Rattle.segword.specs.Shape.{IsFaultOfKeys}
use Rattle.segword.specs.declared.shape.ShapeFault.{ShapeFault}
use Rattle.segword.specs.declared.shape.ShapeFault.TheVariants.{BadBuckets, BadOverflow, BadPasses, BadSegments, BadRows, TooLarge}
use Rattle.segshards.specs.Plan.{IsFaultOfPlan}

-- each of so many shards has at most 262,144 keys
pub few_each : (keys count each : ℕ) (some : 1 ≤ count) (enough : div_ceil keys 262144 ≤ count) (is_each : each ≡ div_ceil keys count) → each ≤ 262144
few_each keys count each some enough is_each = small (cases_lt 262144 each)
  where
    all : keys ≤ div_ceil keys 262144 * 262144
    all = (div_ceil_times keys 262144 (omega arith)).0

    under : each * count < keys + count
    under = rw is_each (div_ceil_times keys count (omega (arith, some))).1

    small : (262144 < each) ⊎ (each ≤ 262144) → each ≤ 262144
    small (inl many) =
        let more : 262145 * count ≤ each * count = mul-le-mul_right count (omega (arith, many)) in
        absurd (omega (arith, enough, all, under, more))
    small (inr few) = few

-- and 200,000 of them, while there may be another shard
pub spread_each : (keys count each b wanted : ℕ) → 1 ≤ count → each ≡ div_ceil keys count
    → wanted ≡ b → b ≡ div_ceil keys 200000 → (wanted ≤ count) ⊎ (count ≡ 16384)
    → (each ≤ 200000) ⊎ (count ≡ 16384)
spread_each keys count each b wanted some is_each is_wanted is_b (inr most) = inr most
spread_each keys count each b wanted some is_each is_wanted is_b (inl enough) = inl (small (cases_lt 200000 each))
  where
    all : keys ≤ div_ceil keys 200000 * 200000
    all = (div_ceil_times keys 200000 (omega arith)).0

    under : each * count < keys + count
    under = rw is_each (div_ceil_times keys count (omega (arith, some))).1

    small : (200000 < each) ⊎ (each ≤ 200000) → each ≤ 200000
    small (inl many) =
        let more : 200001 * count ≤ each * count = mul-le-mul_right count (omega (arith, many)) in
        absurd (omega (arith, is_wanted, is_b, enough, all, under, more))
    small (inr few) = few

-- no more shards than are needed, from the steps that make their number
pub plan_needed : (keys count least a b wanted : ℕ) → least ≡ max a 1 → a ≡ div_ceil keys 262144
    → wanted ≡ b → b ≡ div_ceil keys 200000 → count ≤ max least wanted → count ≤ max 1 (div_ceil keys 200000)
plan_needed keys count least a b wanted is_least is_a is_wanted is_b few =
    let large = (div_ceil_times keys 262144 (omega arith)).1 in
    let small = (div_ceil_times keys 200000 (omega arith)).0 in
    omega (arith, is_least, is_a, is_wanted, is_b, few, large, small)

-- so only the number of threads is in the way of their shape
pub only_threads : (each threads : ℕ) (few : each ≤ 262144) (fault : ShapeFault) → IsFaultOfKeys each threads fault → IsFaultOfPlan threads fault
only_threads each threads few BadPasses is = record { is = refl; is_not = is }
only_threads each threads few TooLarge is = let many = is.1 in absurd (omega (arith, few, many))
only_threads each threads few BadBuckets is = absurd is
only_threads each threads few BadOverflow is = absurd is
only_threads each threads few BadSegments is = absurd is
only_threads each threads few BadRows is = absurd is
