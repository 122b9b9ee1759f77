-- Calls of all shards in one order. The law is proved as the contract of a function in src/laws.rt.
use Rattle.std.specs.Prelude.{◌≡◌, ◌≢◌, ℕ, suc, ◌<◌, ◌==◌, Bool, true, false, All, IsPermutation, List, [], ◌∷◌, map}
use Rattle.segword.specs.Words.{Shape}
use Rattle.segcore.specs.Words.{IsSeenStep, IsSeenWorld, World}
use Rattle.segindex.specs.Linearizable.{Call, IsCallOf, IsOrdered, Linearizable, Placed}

-- Steps of the passes of all shards come one after the other. A moment is how many steps came
-- before it, and `world shard moment` is the world of a shard then.
-- Each step is one of a pass of one shard, and leaves the worlds of the other shards.
-- Only what passes see of it is asked.
pub record IsRunOfShards (count : ℕ) (world : ℕ → ℕ → World) (steps : ℕ) : Type 0 where
  pub begins : (shard : ℕ) → shard < count → IsSeenWorld (world shard 0)
  -- the shard of the step at this moment
  pub taken : ℕ → ℕ
  pub each : (moment : ℕ)
      → moment < steps
      → (pass : ℕ)
      × IsSeenStep pass (world (taken moment) moment) (world (taken moment) (suc moment))
  pub apart : (moment shard : ℕ)
      → moment < steps
      → shard ≢ taken moment
      → world shard (suc moment) ≡ world shard moment

-- a call of a pass of a shard, which began and returned at moments of the run of all shards
pub record ShardCall : Type 0 where
  pub shard : ℕ
  pub call : Call

abbrev pub IsShardCallOf : Shape → ℕ → (ℕ → ℕ → World) → ℕ → ShardCall → Type 0
IsShardCallOf shape count world steps it =
    (it.shard < count) × IsCallOf shape (world it.shard) steps it.call

-- a call in the order, with its point
pub record ShardPlaced : Type 0 where
  pub shard : ℕ
  pub placed : Placed

abbrev pub call_of : ShardPlaced → ShardCall
call_of it = record { shard = it.shard; call = it.placed.call }

-- what is of one shard, in the order of the list
abbrev pub with_one : {A : Type 0} → Bool → A → List A → List A
with_one true one more = one ∷ more
with_one false one more = more

abbrev pub calls_in : ℕ → List ShardCall → List Call
calls_in shard [] = []
calls_in shard (it ∷ calls) = with_one (it.shard == shard) it.call (calls_in shard calls)

abbrev pub placed_in : ℕ → List ShardPlaced → List Placed
placed_in shard [] = []
placed_in shard (it ∷ order) = with_one (it.shard == shard) it.placed (placed_in shard order)

-- There is one order of all these calls of all shards.
-- None comes before one that had returned when it began, whatever their shards.
-- What is of one shard in this order is an order of the shard's calls by which they are
-- linearizable: each takes effect at a point of its own time, at which its answer is right
-- in the history of the shard.
pub record InOneOrder (shape : Shape) (world : ℕ → ℕ → World) (calls : List ShardCall)
    : Type 0 where
  pub order : List ShardPlaced
  pub all : IsPermutation calls (map call_of order)
  pub in_time : IsOrdered (map (λ it. it.placed) order)
  pub shards : (shard : ℕ)
      → (own : Linearizable shape (world shard) (calls_in shard calls))
      × (own.order ≡ placed_in shard order)

-- In each run of all shards, any calls of any passes stand in one order.
abbrev pub CallsAreInOneOrder : Type 0
CallsAreInOneOrder = (shape : Shape) (count : ℕ) (world : ℕ → ℕ → World) (steps : ℕ)
    (calls : List ShardCall)
    → IsRunOfShards count world steps
    → All (IsShardCallOf shape count world steps) calls
    → InOneOrder shape world calls
