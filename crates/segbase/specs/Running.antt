-- The running table: its states, as the table's rule has them, are worlds, and its steps are those
-- of a run. The laws are proved as contracts of functions in src/running.rt.
use Rattle.std.specs.Prelude.{◌≡◌, ◌↔◌, ℕ, true, slice_set}
use Rattle.atomic_table.specs.Table.{State}
use Rattle.segcore.specs.Words.{IsStepOf, Step, View, World}
use Rattle.segbase.specs.declared.law.Constants.{Constants}
use Rattle.segbase.specs.declared.law.Sight.{Sight}
use Rattle.segbase.specs.Ruled.{IsHeld, Learns, Rule}
use mathlib.Core.Option.{some}
use lib.ListN.{get_elem?}

-- the world that the rule knows a state of the table as
abbrev pub world_of : {constants : Constants} {state : State (Unit {0}) Sight} → Rule constants state
    → World
world_of {constants} {state} rule =
    record { words = state.words; views = rule.views; trace = rule.trace }

-- The table takes a step of a pass: it changes what the seat of that pass knows, and no other.
-- If the rule holds before and after, and the seat learns of the step as the contracts of all steps
-- say, then the step is one of a run.
abbrev pub RunningStepIsOfARun : Type 0
RunningStepIsOfARun = (constants : Constants) (step : Step) (found : ℕ)
    (before after : State (Unit {0}) Sight) (id : ℕ) (old new : Sight)
    (was : Rule constants before) (is : Rule constants after)
    → get_elem? before.views id ≡ some old → old.is_pass ≡ true
    → after.views ≡ slice_set before.views id new
    → Learns constants step found old new
    → IsStepOf constants.shape old.view.number (world_of was) (world_of is)

-- Between steps seats are split, joined and given up. If no word changes, and seats have the views
-- that seats had, then the world is as it was.
abbrev pub SeatsLeaveTheWorld : Type 0
SeatsLeaveTheWorld = (constants : Constants) (before after : State (Unit {0}) Sight)
    (was : Rule constants before) (is : Rule constants after)
    → after.words ≡ before.words
    → ((view : View) → IsHeld before.views view ↔ IsHeld after.views view)
    → world_of is ≡ world_of was
