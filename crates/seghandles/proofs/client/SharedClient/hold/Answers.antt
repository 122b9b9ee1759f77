use Rattle.std.proofs.Common.{◌≡◌, false, rules, refl, sym, ap, is_some, ◌∙◌}
use Rattle.seghandles.specs.declared.status.Status.TheVariants as status
use Rattle.seghandles.specs.Holding.{holds_after}
use Rattle.seghandles.proofs.Held.{none_held, not_held, takes_hold}
use Rattle.seghandles.proofs.client.SharedClient.hold.Goals as goal

pub returns-then-eq : goal.returns-then-eq
returns-then-eq c =
    let none : is_some c.args.self.now.holds ≡ false = search rules in
    let ok : c.hold-status.result ≡ status.Ok = search rules in
    takes_hold c.args.key.now c.args.now c.hold-status.result c.args.self.now _ c.place_of-place.result c.index_mut-guest.result.now c.hold-status.new.self none
    (c.place_of-place.ensures.shard, c.place_of-place.ensures.within) c.index_mut-guest.ensures.value c.hold-status.ensures refl (ap (λ t. holds_after t c.place_of-place.result) (sym ok)) refl

pub returns-else-eq : goal.returns-else-eq
returns-else-eq c =
    let none : is_some c.args.self.now.holds ≡ false = search rules in
    let other : ¬ (c.hold-status.result ≡ status.Ok) = search rules in
    takes_hold c.args.key.now c.args.now c.hold-status.result c.args.self.now _ c.place_of-place.result c.index_mut-guest.result.now c.hold-status.new.self none
    (c.place_of-place.ensures.shard, c.place_of-place.ensures.within) c.index_mut-guest.ensures.value c.hold-status.ensures refl
    (none_held c.args.self.now.holds none ∙ not_held c.hold-status.result c.place_of-place.result other) refl
