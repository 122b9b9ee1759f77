-- Runs: worlds one step after the other, by what the pass of each step is told of it alone.
-- Nothing is asked of the body that takes the step.
use Rattle.std.specs.Prelude.{◌≡◌, ℕ, suc, ◌<◌, ◌≤◌, List, ◌∷◌, ◌++◌, length, slice_set}
use Rattle.segword.specs.Words.{Shape}
use Rattle.segcore.specs.declared.event.Event.{Event}
use Rattle.segcore.specs.declared.view.View.{View}
use Rattle.segcore.specs.Event.{NoneBy, seen}
use Rattle.segcore.specs.Kind.{Step}
use Rattle.segcore.specs.World.{IsLawfulWorld, IsTimed, Knows, Told, World}
use mathlib.Core.Option.{some}
use lib.ListN.{get_elem?}

-- The pass took a step from the one world to the other, of which it is told.
-- The views of all other passes are as they were, and the rule holds afterwards.
pub record IsStepOf (shape : Shape) (pass : ℕ) (before after : World) : Type 0 where
  pub old : View
  pub new : View
  pub there : get_elem? before.views pass ≡ some old
  pub apart : after.views ≡ slice_set before.views pass new
  pub step : Step
  pub found : ℕ
  pub told : Told shape step found old new
  pub lawful : IsLawfulWorld shape after

-- the world at each moment of a run of so many steps, where a moment is how many came before it
pub record IsRun (shape : Shape) (world : ℕ → World) (steps : ℕ) : Type 0 where
  pub begins : IsLawfulWorld shape (world 0)
  pub each : (moment : ℕ)
      → moment < steps
      → (pass : ℕ) × IsStepOf shape pass (world moment) (world (suc moment))

-- ---- what passes see of a run, whatever the words are, and whether or not the trace is lawful

-- Each pass has seen the trace up to some point, from which only others went on.
-- No event is of a pass that isn't there, and steps come one after the other.
pub record IsSeenWorld (world : World) : Type 0 where
  pub knows : (pass : ℕ) (view : View)
      → get_elem? world.views pass ≡ some view
      → Knows pass view world.trace
  pub later : (pass : ℕ) → length world.views ≤ pass → NoneBy pass world.trace
  pub timed : IsTimed world.views

-- The pass looked at what it had seen, with what others had done since. Then it saw more events,
-- which add one entry at most. The views of all other passes are as they were.
pub record IsSeenStep (pass : ℕ) (before after : World) : Type 0 where
  pub old : View
  pub new : View
  pub there : get_elem? before.views pass ≡ some old
  pub apart : after.views ≡ slice_set before.views pass new
  pub more : List Event
  pub others : NoneBy pass more
  pub looked : new.looks ≡ (more ++ old.trace) ∷ old.looks
  pub own : List Event
  pub now : new.trace ≡ own ++ (more ++ old.trace)
  pub few : length (seen new.trace) ≤ suc (length (seen (more ++ old.trace)))
  pub still : IsSeenWorld after

-- the worlds of a run of so many steps, as its passes see them
pub record IsSeenRun (world : ℕ → World) (steps : ℕ) : Type 0 where
  pub begins : IsSeenWorld (world 0)
  pub each : (moment : ℕ)
      → moment < steps
      → (pass : ℕ) × IsSeenStep pass (world moment) (world (suc moment))
