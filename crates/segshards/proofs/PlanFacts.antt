-- Worked examples: how many shards a plan has and how much each is for, and which run of shards
-- has no step.
use Rattle.std.proofs.Common.{◌≡◌, ℕ, ◌*◌, ◌<◌, ◌≤◌, ap, ⊎_elim, arith}
use Rattle.segword.specs.Words.{Shape}
use Rattle.segcore.specs.Words.{IsSeenWorld, World}
use Rattle.segshards.specs.declared.plan.ShardPlan.{ShardPlan}
use Rattle.segshards.specs.Items.{IsPlanForItems}
use Rattle.segshards.specs.Locality.{IsRunOfShards}
use Rattle.segshards.specs.Plan.{IsPlanFor}
use Rattle.segshards.specs.Writers.{HasRoomForWriters, IsPlanForWriters}

-- ---- what two shards are for

-- in two shards there is twice as much as in each
twice : (each count : ℕ) → count ≡ 2 → each * count ≡ each * 2
twice each count two = ap (λ n. each * n) two

-- a plan of two shards for 300,000 keys is one of 150,000 keys each
keys_in_two : (threads : ℕ) (plan : ShardPlan) (is : IsPlanFor 300000 threads plan)
    → plan.count ≡ 2 → is.each ≡ 150000
keys_in_two threads plan is two =
    let both = twice is.each plan.count two in
    let enough = is.enough in let no_more = is.no_more in
    omega (arith, both, enough, no_more)

-- a plan of two shards for 300,000 items is one of 150,000 items each
items_in_two : (rows_each threads : ℕ) (plan : ShardPlan)
    (is : IsPlanForItems 300000 rows_each threads plan) → plan.count ≡ 2 → is.each ≡ 150000
items_in_two rows_each threads plan is two =
    let both = twice is.each plan.count two in
    let enough = is.enough in let no_more = is.no_more in
    omega (arith, both, enough, no_more)

-- a plan of two shards for 300,000 keys of some writers is one of 150,000 keys each
writers_in_two : (threads writers : ℕ) (plan : ShardPlan)
    (is : IsPlanForWriters 300000 threads writers plan) → plan.count ≡ 2 → is.each ≡ 150000
writers_in_two threads writers plan is two =
    let both = twice is.each plan.count two in
    let enough = is.enough in let no_more = is.no_more in
    omega (arith, both, enough, no_more)

-- ---- no more shards than are needed

-- a plan for 200,000 keys has one shard
keys_in_one : (threads : ℕ) (plan : ShardPlan) → IsPlanFor 200000 threads plan → plan.count ≡ 1
keys_in_one threads plan is =
    let some = is.some in let needed = is.needed in omega (arith, some, needed)

-- a plan for 50,000 items of four rows has one shard
items_in_one : (threads : ℕ) (plan : ShardPlan)
    → IsPlanForItems 50000 4 threads plan → plan.count ≡ 1
items_in_one threads plan is =
    let some = is.some in let needed = is.needed in omega (arith, some, needed)

-- a plan for 50,000 keys that one of four threads stores has one shard
writers_in_one : (plan : ShardPlan) → IsPlanForWriters 50000 4 1 plan → plan.count ≡ 1
writers_in_one plan is =
    let some = is.some in let needed = is.needed in omega (arith, some, needed)

-- ---- as many shards as are wanted, while there may be more

-- eight shards have at most 200,000 keys each
keys_in_eight : (keys threads : ℕ) (plan : ShardPlan) (is : IsPlanFor keys threads plan)
    → plan.count ≡ 8 → is.each ≤ 200000
keys_in_eight keys threads plan is eight = ⊎_elim
    (λ few. omega (arith, few))
    (λ (most : plan.count ≡ 16384). absurd (omega (arith, eight, most)))
    is.spread

-- eight shards for items of four rows have at most 50,000 items each
rows_in_eight : (items threads : ℕ) (plan : ShardPlan) (is : IsPlanForItems items 4 threads plan)
    → plan.count ≡ 8 → is.each ≤ 50000
rows_in_eight items threads plan is eight = ⊎_elim
    (λ few. omega (arith, few))
    (λ (most : plan.count ≡ 16384). absurd (omega (arith, eight, most)))
    is.spread

-- eight shards for keys that one of four threads stores have at most 50,000 keys each
shares_in_eight : (keys : ℕ) (plan : ShardPlan) (is : IsPlanForWriters keys 4 1 plan)
    → plan.count ≡ 8 → is.each ≤ 50000
shares_in_eight keys plan is eight = ⊎_elim
    (λ few. omega (arith, few))
    (λ (most : plan.count ≡ 16384). absurd (omega (arith, eight, most)))
    is.spread

-- ---- room of a shard

-- for 1,000 keys that two of four threads store there are rows as for at most 2,000 keys
rows_of_two : (shape : Shape) (room : HasRoomForWriters 1000 2 shape) → shape.passes ≡ 4
    → room.wide ≤ 2000
rows_of_two shape room four = let least = room.least in omega (arith, four, least)

-- ---- a run of all shards

-- a run of no step asks only that the worlds of the shards begin
no_step : (count : ℕ) (world : ℕ → ℕ → World)
    → ((shard : ℕ) → shard < count → IsSeenWorld (world shard 0)) → IsRunOfShards count world 0
no_step count world begin = record {
  begins = λ shard below. begin shard (omega (arith, below));
  taken = λ _. 0;
  each = λ moment before. absurd (omega (arith, before));
  apart = λ moment shard before other. absurd (omega (arith, before));
}
