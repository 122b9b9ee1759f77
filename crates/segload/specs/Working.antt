-- What a pass does in a load.
use Rattle.std.specs.Prelude.{◌≡◌, ℕ, ◌<◌, Bool, false, true, List, length, slice_get, Some}
use Rattle.std.specs.Int.NonZero.{non_zero_u32_get}
use Rattle.segbase.specs.Words.{Board, IsNewPass, mine, number, number_of, Pass}
use Rattle.segstore.specs.Words.{IsQuiet}
use Rattle.segindex.specs.Words.{AnswersCommand, ReturnsStats}
use Rattle.segpolicy.specs.Words.{Draws, draws_of}
use Rattle.segload.specs.Lists.{AllAt}
use Rattle.segload.specs.declared.plan.LoadPlan.{LoadPlan}
use Rattle.segload.specs.declared.client.Caller.{Caller}
use Rattle.segload.specs.declared.totals.PassTotals.{PassTotals}
use Rattle.segload.specs.declared.worker.Worker.{Worker}
use Rattle.segload.specs.Gates.{IsToldOf, LetsThrough, Stops}
use Rattle.segload.specs.Counting.{all_of, CountsRecycled, IsFew}
use Rattle.segload.specs.Making.{ClientState, draws_after, start_of}
use Rattle.segload.specs.Calls.{MakesCalls}

-- what the next commands of a client depend on
abbrev pub course_of : Caller → ClientState
course_of client = record { segments = client.segments; version = client.version }

-- The client has counted the evictions and the refillings of its pass.
abbrev pub HasCounted : Caller → Type 0
HasCounted client = CountsRecycled client.recycled (mine client.pass)

-- The worker's pass made so many commands of a workload since it was this one,
-- by calls of the index. It is quiet.
pub record IsAtWork (b : Board) (draws : Draws) (first : Pass) (made : ℕ) (worker : Worker)
    : Type 0 where
  pub quiet : IsQuiet b worker.client.pass
  pub workload : worker.workload ≡ draws_after draws made
  pub calls : MakesCalls (AnswersCommand b) draws (start_of b.shape (number first)) first made
      worker.tallies (course_of worker.client) worker.client.pass
  pub all : all_of worker.tallies ≡ made
  pub counts : HasCounted worker.client
  pub few : IsFew made worker.client.recycled

-- The worker is that of the pass of this number. At the start the pass was this one.
-- If the gate didn't stop it, it made all its commands.
-- If the gate stopped it before one of them, it made those before that one.
-- Each command that was made is one that the gate may let through, and the gate was told of each.
pub record HasWorked (b : Board) (may_answer : ℕ → ℕ → Bool → Type 0) (told : ℕ → ℕ → Type 0)
    (draws : Draws) (first : Pass) (pass commands : ℕ) (worker : Worker) : Type 0 where
  pub quiet : IsQuiet b worker.client.pass
  pub is : number worker.client.pass ≡ pass
  pub at_work : worker.is_stopped ≡ false → IsAtWork b draws first commands worker
  pub let_through : worker.is_stopped ≡ false → LetsThrough may_answer commands pass
  pub told_of : worker.is_stopped ≡ false → IsToldOf told commands pass
  pub stopped : worker.is_stopped ≡ true
      → (stops : Stops may_answer told commands pass) × IsAtWork b draws first stops.call worker

-- The worker is that of the pass of this number, which is new.
pub record BeginsLoad (b : Board) (draws : Draws) (pass : ℕ) (worker : Worker) : Type 0 where
  pub new : IsNewPass b pass worker.client.pass
  pub at_work : IsAtWork b draws worker.client.pass 0 worker
  pub runs : worker.is_stopped ≡ false

-- the workload of a pass: the plan says with which seed it is drawn, and over how many keys
abbrev pub draws_for : LoadPlan → ℕ → Draws
draws_for plan pass = draws_of plan.seed pass (non_zero_u32_get plan.keys)

-- The worker begins what the plan says.
abbrev pub BeginsPlan : Board → LoadPlan → ℕ → Worker → Type 0
BeginsPlan b plan pass worker = BeginsLoad b (draws_for plan pass) pass worker

-- From a new pass on, the pass of this number did what the plan says, as far as the gate let it.
pub record HasMadePlan (b : Board) (may_answer : ℕ → ℕ → Bool → Type 0) (told : ℕ → ℕ → Type 0)
    (plan : LoadPlan) (pass : ℕ) (worker : Worker) : Type 0 where
  pub first : Pass
  pub new : IsNewPass b pass first
  pub worked : HasWorked b may_answer told (draws_for plan pass) first pass plan.commands worker

-- The worker ended: these are its totals, and its pass is this one now.
-- It was told of the table once, and added no entry.
pub record EndsWork (b : Board) (asked : ℕ) (worker : Worker) (totals : PassTotals) (pass : Pass)
    : Type 0 where
  pub commands : totals.commands ≡ asked
  pub tallies : totals.tallies ≡ worker.tallies
  pub recycled : totals.recycled ≡ worker.client.recycled
  pub table : ReturnsStats b totals.table worker.client.pass pass

-- Each worker ended, with the totals and the pass at its place.
pub record EndsAll (b : Board) (asked : ℕ) (workers : List Worker) (totals : List PassTotals)
    (passes : List Pass) : Type 0 where
  pub counted : length totals ≡ length workers
  pub all : length passes ≡ length workers
  pub each : (n : ℕ) (worker : Worker) (of : PassTotals) (pass : Pass)
      → slice_get workers n ≡ Some worker
      → slice_get totals n ≡ Some of
      → slice_get passes n ≡ Some pass
      → EndsWork b asked worker of pass

-- The passes of the workers are quiet.
abbrev pub AreQuiet : Board → List Worker → Type 0
AreQuiet b workers = AllAt (λ n worker. IsQuiet b worker.client.pass) workers

-- The gate stopped none of the workers.
abbrev pub NoneStopped : List Worker → Type 0
NoneStopped workers = AllAt (λ n worker. worker.is_stopped ≡ false) workers

-- The first of the workers that the gate stopped is the one of this pass.
pub record IsFirstStopped (workers : List Worker) (pass : ℕ) : Type 0 where
  pub place : ℕ
  pub worker : Worker
  pub there : slice_get workers place ≡ Some worker
  pub stopped : worker.is_stopped ≡ true
  pub of : pass ≡ number_of worker.client.pass
  pub first : (n : ℕ) (lower : Worker)
      → n < place
      → slice_get workers n ≡ Some lower
      → lower.is_stopped ≡ false
