-- With one pass, a load is what the model makes of it.
use Rattle.std.specs.Prelude.{◌≡◌, ℕ, slice_get, Some}
use Rattle.segword.specs.Words.{Shape}
use Rattle.segmodel.specs.declared.answer.Command.{Command}
use Rattle.segmodel.specs.Words.{Answer, fresh, Serves, State}
use Rattle.segpolicy.specs.Words.{draws_of}
use Rattle.segload.specs.declared.totals.PassTotals.{PassTotals}
use Rattle.segload.specs.declared.totals.Totals.{Totals}
use Rattle.segload.specs.Making.{ClientState, start_of}
use Rattle.segload.specs.Calls.{MakesCalls}
use Rattle.segload.specs.Loads.{IsLoad, keys_of}

-- The model serves the command, whatever the draw.
-- Each hit raises a frequency there, if it may. No command of a load depends on a frequency.
abbrev pub ServedByModel : Shape → Command → ℕ → Answer → State → State → Type 0
ServedByModel shape command draw given old new = Serves shape old command given new

-- The model, from its start on, serves the commands of a load with one pass, with these tallies.
-- At the end as many keys stand there.
abbrev pub OnePassIsModelled : Type 0
OnePassIsModelled = (shape : Shape) (seed keys commands : ℕ) (totals : Totals) (only : PassTotals)
    → IsLoad shape seed keys commands totals
    → shape.passes ≡ 1
    → slice_get totals.passes.items 0 ≡ Some only
    → (course : ClientState) × (state : State)
    × MakesCalls (ServedByModel shape) (draws_of seed 0 keys) (start_of shape 0) (fresh shape)
    commands only.tallies course state
    × (totals.keys ≡ keys_of state.cache)
