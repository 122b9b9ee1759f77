-- A plan by a budget has as many shards as the budget needs.
use Rattle.std.proofs.Common.{◌≡◌, ℕ, ◌+◌, ◌*◌, ◌<◌, ◌≤◌, ◌⊎◌, Option, Result, Ok, Err, IfOk, IfSome, arith, inl, inr, subst, ◌∙◌}
use Rattle.std.specs.Int.{div_ceil}
use Rattle.std.specs.Result.{result_ok}
use Rattle.std.proofs.Math.Nat.{mul-le-mul_left}
use Rattle.std.proofs.lemmas.Grind.{div_ceil_times}
use Rattle.segword.specs.declared.row.TheConstants.{ROW_WORDS}
use Rattle.segword.specs.declared.shape.ShapeFault.{ShapeFault}
use Rattle.segword.specs.Shape.{IsValid, word_count}
use Rattle.segword.specs.Words.{Shape}
use Rattle.segshards.specs.Budget.{bytes_of, clients_bytes, IsPlanOf, IsPlanWithin, IsShapeFor, most_items, TakesOver}
use Rattle.segshards.specs.declared.plan.ShardPlan.{ShardPlan}

-- a shard with the most keys takes more than 2 ^ 25 bytes
large_words : (threads : ℕ) (shape : Shape) → IsShapeFor most_items threads shape → 4194304 ≤ word_count shape
large_words threads shape is =
    let rows = is.room.rows in
    let spread : shape.passes * shape.segments_each * (1 + ROW_WORDS * shape.rows)
    ≡ shape.passes * shape.segments_each + ROW_WORDS * (shape.passes * shape.segments_each * shape.rows) =
    omega arith in
    omega (arith, rows, spread)

large_bytes : (threads count : ℕ) (shape : Shape) → IsShapeFor most_items threads shape
    → (count + 1) * 33554432 ≤ bytes_of shape count
large_bytes threads count shape is =
    let words = large_words threads shape is in
    let more : (count + 1) * 33554432 ≤ (count + 1) * (8 * word_count shape) =
    mul-le-mul_left (count + 1) (omega (arith, words)) in
    omega (arith, more)

-- a bit for each row is no more than a byte
few_bits : (segments rows : ℕ) → 1 ≤ rows → segments * div_ceil rows 8 ≤ segments * rows
few_bits segments rows some =
    let times = div_ceil_times rows 8 (omega arith) in
    mul-le-mul_left segments (omega (arith, times.1, some))

-- one without a key takes few
small_words : (threads : ℕ) (shape : Shape) → IsShapeFor 0 threads shape → word_count shape ≤ 38036
small_words threads shape is =
    let few = is.room.few in
    let passes = is.valid.0.0.0.1 in
    omega (arith, few, passes.1)

small_clients : (threads : ℕ) (shape : Shape) → IsShapeFor 0 threads shape → clients_bytes shape ≤ 551099
small_clients threads shape is =
    let words = small_words threads shape is in
    let passes = is.valid.0.0.0.1 in
    let some = is.valid.0.1 in
    let spread : shape.passes * shape.segments_each * (1 + ROW_WORDS * shape.rows)
    ≡ shape.passes * shape.segments_each + ROW_WORDS * (shape.passes * shape.segments_each * shape.rows) =
    omega arith in
    let one : shape.passes * shape.segments_each * 1 ≤ shape.passes * shape.segments_each * shape.rows =
    mul-le-mul_left (shape.passes * shape.segments_each) some.0 in
    let bits = few_bits (shape.passes * shape.segments_each) shape.rows some.0 in
    let parts : clients_bytes shape ≡ 3 * (shape.passes * shape.segments_each * shape.rows)
    + shape.passes * shape.segments_each * div_ceil shape.rows 8
    + 64 * (shape.passes * shape.segments_each) + 4096 * shape.passes = omega arith in
    omega (arith, words, passes.1, spread, one, bits, parts)

-- clients keep less than a number of 31 bits says
pub clients_fit : (shape : Shape) → IsValid shape → clients_bytes shape ≤ 2147483647
clients_fit shape valid =
    let segments = shape.passes * shape.segments_each in
    let words = valid.1 in
    let some = valid.0.1 in
    let passes = valid.0.0.0.1 in
    let bits = few_bits segments shape.rows some.0 in
    let one : segments * 1 ≤ segments * shape.rows = mul-le-mul_left segments some.0 in
    let spread : segments * (1 + ROW_WORDS * shape.rows) ≡ segments + ROW_WORDS * (segments * shape.rows) =
    omega arith in
    let parts : clients_bytes shape ≡ 3 * (segments * shape.rows) + segments * div_ceil shape.rows 8
    + 64 * segments + 4096 * shape.passes = omega arith in
    omega (arith, words, passes.1, one, bits, spread, parts)

small_bytes : (threads count : ℕ) (shape : Shape) → IsShapeFor 0 threads shape
    → bytes_of shape count ≤ 855387 * count + 304288
small_bytes threads count shape is =
    let words = small_words threads shape is in
    let clients = small_clients threads shape is in
    let tables : (count + 1) * (8 * word_count shape) ≤ (count + 1) * 304288 =
    mul-le-mul_left (count + 1) (omega (arith, words)) in
    let kept : count * clients_bytes shape ≤ count * 551099 = mul-le-mul_left count clients in
    omega (arith, tables, kept)

module _ (bytes threads count : ℕ) (some : 1 ≤ count) (few : count ≤ 16384)
    (enough : (bytes ≤ 33554432 * count) ⊎ (count ≡ 16384)) where
  -- a plan of as many shards
  pub planned : (plan : ShardPlan) → IsPlanOf bytes threads count plan → IsPlanWithin bytes threads plan
  planned plan is = record {
    each = is.each;
    shape = is.shape;
    some = let same = is.is in omega (arith, same, some);
    few = let same = is.is in omega (arith, same, few);
    within = is.within;
    full = full is.full;
  }
    where
      full : (is.each ≡ most_items) ⊎ TakesOver bytes threads (is.each + 1) plan.count
          → ((is.each ≡ most_items) × (plan.count ≡ 16384)) ⊎ TakesOver bytes threads (is.each + 1) plan.count
      full (inr over) = inr over
      full (inl most) = inl (most, all enough)
        where
          all : (bytes ≤ 33554432 * count) ⊎ (count ≡ 16384) → plan.count ≡ 16384
          all (inr same) = is.is ∙ same
          all (inl fits) =
              let large = large_bytes threads plan.count plan.shape
              (subst (λ n. IsShapeFor n threads plan.shape) most is.shape) in
              let within = is.within in
              let same = is.is in
              absurd (omega (arith, large, within, same, fits))

  -- if so many take more than the bytes without a key, one shard has few
  pub alone : (needed : 33554432 * count < bytes + 33554432 * 9) (plan : ShardPlan)
      → TakesOver bytes threads 0 count → IsPlanOf bytes threads 1 plan → IsPlanWithin bytes threads plan
  alone needed plan (shape, small, over) is = record {
    each = is.each;
    shape = is.shape;
    some = let same = is.is in omega (arith, same);
    few = let same = is.is in omega (arith, same);
    within = is.within;
    full = full is.full;
  }
    where
      full : (is.each ≡ most_items) ⊎ TakesOver bytes threads (is.each + 1) plan.count
          → ((is.each ≡ most_items) × (plan.count ≡ 16384)) ⊎ TakesOver bytes threads (is.each + 1) plan.count
      full (inr more) = inr more
      full (inl most) =
          let large = large_bytes threads plan.count plan.shape
          (subst (λ n. IsShapeFor n threads plan.shape) most is.shape) in
          let within = is.within in
          let same = is.is in
          let less = small_bytes threads count shape small in
          absurd (omega (arith, large, within, same, less, over, needed))

  pub alone_or : (needed : 33554432 * count < bytes + 33554432 * 9) → TakesOver bytes threads 0 count
      → (found : Option ShardPlan) (result : Result ShardPlan ShapeFault) → found ≡ result_ok result
      → IfSome found (IsPlanOf bytes threads 1) → IfOk result (IsPlanWithin bytes threads)
  alone_or needed over found (Ok plan) same is =
      alone needed plan over (subst (λ o. IfSome o (IsPlanOf bytes threads 1)) same is)
  alone_or needed over found (Err fault) same is = tt
