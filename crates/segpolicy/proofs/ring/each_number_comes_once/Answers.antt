use Rattle.std.proofs.Common.{◌<◌, subst}
use Rattle.segpolicy.specs.Cycle.{Cycle}
use Rattle.segpolicy.proofs.CycleLemmas.{slice_index-answers, times-round}
use Rattle.segpolicy.proofs.ring.each_number_comes_once.Goals as goal

pub returns-clause-in_order : goal.returns-clause-in_order
returns-clause-in_order c =
    let P : Cycle → Type 0 = λ cycle. cycle.given < cycle.count in
    λ n i. slice_index-answers n i _ (subst P c.ring.view_is c.ring.invariant.0)

pub returns-clause-once : goal.returns-clause-once
returns-clause-once c =
    let P : Cycle → Type 0 = λ cycle. cycle.given < cycle.count in
    λ number. times-round _ number (subst P c.ring.view_is c.ring.invariant.0)
