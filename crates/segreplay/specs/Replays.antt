-- What a replay comes to.
use Rattle.std.specs.Prelude.{◌≡◌, ◌<◌, ℕ, ◌+◌, Bool, true, false, List, [], ◌∷◌, length, slice_index_or, Result, Err}
use Rattle.segreplay.specs.declared.cache.CacheConfig.{CacheConfig}
use Rattle.segreplay.specs.declared.fault.TraceFault.{TraceFault}
use Rattle.segreplay.specs.declared.fault.TraceFault.TheVariants as fault
use Rattle.segreplay.specs.declared.lives.Lives.{Lives}
use Rattle.segreplay.specs.declared.player.Assignment.{Assignment}
use Rattle.segreplay.specs.declared.player.Player.{Player}
use Rattle.segreplay.specs.declared.reading.Rules.{Rules}
use Rattle.segreplay.specs.declared.reading.TracePosition.{TracePosition}
use Rattle.segreplay.specs.declared.run.Replayed.{Replayed}
use Rattle.segreplay.specs.declared.run.ReplayPlan.{ReplayPlan}
use Rattle.segreplay.specs.declared.totals.CacheTotals.{CacheTotals}
use Rattle.segreplay.specs.Caches.{AreFresh, bytes_of, caches_of, counts_after}
use Rattle.segreplay.specs.Counting.{no_counts}
use Rattle.segreplay.specs.Lives.{lives_after, lives_of}
use Rattle.segreplay.specs.Playing.{CountsItems, Plays, value_of}
use Rattle.segreplay.specs.Traces.{EndsTrace, HandsOn}

-- Each player made its own of these turns, in their order.
pub record AllPlay (turns : List Assignment) (old new : List Player) : Type 0 where
  pub long : length new ≡ length old
  pub each : (n : ℕ) (p : Player) → n < length old
      → Plays turns (slice_index_or old n p) (slice_index_or new n p)

-- Each player counted its items.
pub record AllCount (old new : List Player) : Type 0 where
  pub long : length new ≡ length old
  pub each : (n : ℕ) (p : Player) → n < length old
      → CountsItems (slice_index_or old n p) (slice_index_or new n p)

-- The times to live of these turns were added.
abbrev pub AddsLives : List Assignment → Lives → Lives → Type 0
AddsLives turns old new = new.seen.items ≡ lives_after old.seen.items turns

-- Some turns were handed on and made, and their times to live added, or none were.
abbrev pub MakesSome : TracePosition → TracePosition → List Player → List Player → Lives → Lives
    → Type 0
MakesSome old new players players' lives lives' =
    (turns : List Assignment) × HandsOn turns old new × AllPlay turns players players'
    × AddsLives turns lives lives'

abbrev pub rules_of : ReplayPlan → Rules
rules_of plan = record { form = plan.form; clients = plan.shape.passes; warm = plan.warm }

-- the totals of these caches, the first of which has this number,
-- over a trace with so many times to live
abbrev pub totals_from : ℕ → ℕ → List Player → List CacheConfig → List CacheTotals
totals_from lives place players [] = []
totals_from lives place players (cache ∷ caches) =
    record {
      cache = cache;
      bytes = bytes_of cache;
      counts = counts_after no_counts place players;
      lives = lives;
    }
    ∷ totals_from lives (place + 1) players caches

-- the caches of a plan
abbrev pub planned : ReplayPlan → List CacheConfig
planned plan = caches_of plan.policies.now plan.shape plan.sizes

-- The bytes `seen` came. The commands of their lines were made by the plan's clients: one for each
-- pass of each of its caches. The totals are what these counted, with the rows of the items that
-- stood at the end, and how many times to live the gets and sets had: 64 stands for 64 or more.
pub record IsReplay (plan : ReplayPlan) (Ends : Type 0) (seen : List ℕ) (r : Replayed)
    : Type 0 where
  pub turns : List Assignment
  pub starts : List Player
  pub made : List Player
  pub ends : List Player
  pub ended : EndsTrace (rules_of plan) Ends seen turns r.end
  pub fresh : AreFresh 0 (value_of plan.value_bytes) (planned plan) starts
  pub plays : AllPlay turns starts made
  pub counts : AllCount made ends
  pub totals : r.totals.items ≡ totals_from (lives_of turns) 0 ends (planned plan)

abbrev pub is_read_end : Result (Unit {0}) TraceFault → Bool
is_read_end (Err fault.Read) = true
is_read_end _ = false

abbrev pub is_memory_end : Result (Unit {0}) TraceFault → Bool
is_memory_end (Err fault.OutOfMemory) = true
is_memory_end _ = false
