use Rattle.std.proofs.Common.{ap, sym, subst}
use Rattle.seghandles.specs.Places.{AreItsPlaces}
use Rattle.seghandles.proofs.Placed.{all_quiet}
use Rattle.seghandles.proofs.home.Home.end.Goals as goal

pub close_all-requires : goal.close_all-requires
close_all-requires c =
    let home = c.args.self in
    let index = c.in-Ok-try_unwrap.index in
    all_quiet index home.places.items c.passes_of.result.items c.passes_of.ensures
    (subst (λ i. AreItsPlaces i home.places.items) (sym c.in-Ok-try_unwrap.ensures.ok) home.places_are)

pub invariant_of-result : goal.invariant_of-result
invariant_of-result c =
    let home = c.args.self in
    record { places_are = subst (λ i. AreItsPlaces i home.places.items) (sym (ap (λ arc. arc.value) c.in-Err.ensures.err)) home.places_are }
