-- What a call costs is one value: where nothing of it happened the parts are the same, and so is the whole.
use Rattle.std.proofs.Common.{[], refl}
use Rattle.segbase.specs.Words.{AddsEvents, Board, Pass}
use Rattle.segstore.specs.Calls.{TakesNoBit, DrawsNothing, ReadsNothing, CostsNothing}
use Rattle.segstore.proofs.Draws.{moved_undrawn}
use Rattle.segstore.proofs.Idling.{took_none}
use Rattle.segstore.proofs.Still.{no_reader}

pub costs_nothing : (p q : Pass) → TakesNoBit p q → DrawsNothing p q → ReadsNothing p q → CostsNothing p q
costs_nothing p q takes draws reads = λ i. ((takes.taken i, (λ bucket. takes.bounced bucket i), λ bucket. draws bucket i), reads i)

pub takes_no_bit : (p q : Pass) → CostsNothing p q → TakesNoBit p q
takes_no_bit p q nothing = record { taken = λ i. (nothing i).0.0; bounced = λ bucket i. (nothing i).0.1 bucket }

pub draws_nothing : (p q : Pass) → CostsNothing p q → DrawsNothing p q
draws_nothing p q nothing = λ bucket i. (nothing i).0.2 bucket

pub reads_nothing : (p q : Pass) → CostsNothing p q → ReadsNothing p q
reads_nothing p q nothing = λ i. (nothing i).1

-- a pass that did nothing by itself
pub idle_costs_nothing : (b : Board) (p q : Pass) → AddsEvents b [] p q → CostsNothing p q
idle_costs_nothing b p q m = costs_nothing p q (took_none b [] p q m refl (λ bucket. refl)) (moved_undrawn b [] p q m tt) (no_reader b [] p q m tt)
