-- A pass that stores into another segment is quiet as before.
use Rattle.std.proofs.Common.{◌≡◌, ℕ, [], Some, refl}
use Rattle.segmodel.specs.declared.answer.SegState.TheVariants.{InUse}
use Rattle.segbase.specs.Words.{AddsEvents, Board, Pass, state_of}
use Rattle.segbase.proofs.Moves.{moved_inside, stays}
use Rattle.segbase.proofs.Owned.{moved_still}
use Rattle.segstore.specs.Words.{CostsNothing, GoesOn, IsQuiet}
use Rattle.segstore.proofs.Bits.{bit_before}
use Rattle.segstore.proofs.Costs.{idle_costs_nothing}
use Rattle.segstore.proofs.Keeping.{keeps_current}
use Rattle.segstore.proofs.Quiet.{goes_on, quiet_again}
use Rattle.segindex.specs.Currents.{storing_into}

module _ (b : Board) (segment : ℕ) (p : Pass) (quiet : IsQuiet b p) where
  unmoved : AddsEvents b [] p (storing_into segment p)
  unmoved = moved_still b [] p p (storing_into segment p).plain (stays b p quiet.pass) refl

  quiet_there : state_of p segment ≡ Some InUse → IsQuiet b (storing_into segment p)
  quiet_there used = quiet_again b [] p (storing_into segment p) quiet (record {
    moved = unmoved;
    memo = refl;
    locked_of = refl;
    holding = refl;
    segments = keeps_current b p segment used quiet.segments;
    bits = λ bucket. bit_before b [] p (storing_into segment p) bucket unmoved tt;
    untouched = λ lock is. tt;
    readings = λ t. moved_inside b [] p (storing_into segment p) t unmoved;
    stays = λ t there. there;
  })

  pub current_goes_on : state_of p segment ≡ Some InUse → GoesOn b p (storing_into segment p)
  current_goes_on used = goes_on b [] p (storing_into segment p) unmoved (quiet_there used)

  pub current_costs_nothing : CostsNothing p (storing_into segment p)
  current_costs_nothing = idle_costs_nothing b p (storing_into segment p) unmoved
