use Rattle.std.proofs.Common.{◌<◌, ◌∙◌, List, ◌++◌, ◌∷◌, [], append_assoc, length, refl, sym, ap, subst, arith}
use Rattle.std.specs.Vec.Iter.{into_iter_items}
use Rattle.std.proofs.lemmas.List.{append-nil, length-set, nil_from_length}
use Rattle.segclient.proofs.Places.{zip_long}
use Rattle.segshards.specs.Each.{AllThree}
use Rattle.segshards.proofs.Each.{same_rest, three_next, three_none}
use Rattle.seghandles.specs.declared.guest.Guest.{Guest}
use Rattle.seghandles.specs.Home.{HasPlaceFor, TakesBack}
use Rattle.seghandles.specs.Sharing.{ShareIndex}
use Rattle.seghandles.proofs.Along.{longer, there, within}
use Rattle.seghandles.proofs.Dealt.{all_three}
use Rattle.seghandles.proofs.cache.Cache.take_back.Goals as goal

pub loop-guest-init : goal.loop-guest-init
loop-guest-init c = record {
  can = tt;
  finite = tt;
  all = sym c.into_iter-guest-iterator.ensures.into_iter_gives.0;
  at = refl;
  long = refl;
  rest = refl;
  made = three_none TakesBack;
}

pub index_mut-requires : goal.index_mut-requires
index_mut-requires c =
    let was = c.loop-guest.invariant in
    let new = c.loop-guest.self.homes in
    let have = new.ok.0 in
    let split = was.all ∙ ap (λ l. c.loop-guest.yielded ++ l) c.in-Some.ensures.steps.0 in
    let below = within ShareIndex c.args.self.now.homes.items new.items c.args.client.guests.items
    c.loop-guest.yielded c.in-Some.guest (into_iter_items c.next.new.self) c.loop-guest.place was.at was.long
    split c.requires.same in
    omega (arith, below, have)

pub take_back-requires-clause-same : goal.take_back-requires-clause-same
take_back-requires-clause-same c =
    let was = c.loop-guest.invariant in
    let split = was.all ∙ ap (λ l. c.loop-guest.yielded ++ l) c.in-Some.ensures.steps.0 in
    there ShareIndex c.args.self.now.homes.items c.loop-guest.self.homes.items c.args.client.guests.items
    c.loop-guest.yielded c.in-Some.guest (into_iter_items c.next.new.self) c.loop-guest.place
    c.index_mut.result.now was.at was.rest split c.requires.same c.index_mut.ensures.value

pub take_back-requires-clause-place : goal.take_back-requires-clause-place
take_back-requires-clause-place c =
    let was = c.loop-guest.invariant in
    let split = was.all ∙ ap (λ l. c.loop-guest.yielded ++ l) c.in-Some.ensures.steps.0 in
    there HasPlaceFor c.args.self.now.homes.items c.loop-guest.self.homes.items c.args.client.guests.items
    c.loop-guest.yielded c.in-Some.guest (into_iter_items c.next.new.self) c.loop-guest.place
    c.index_mut.result.now was.at was.rest split c.requires.places c.index_mut.ensures.value

pub loop-guest-preserved : goal.loop-guest-preserved
loop-guest-preserved c =
    let was = c.loop-guest.invariant in
    let old = c.args.self.now.homes.items in
    let new = c.loop-guest.self.homes.items in
    let place = c.loop-guest.place in
    let yielded = c.loop-guest.yielded in
    let guest = c.in-Some.guest in
    let rest = into_iter_items c.next.new.self in
    let split = was.all ∙ ap (λ l. yielded ++ l) c.in-Some.ensures.steps.0 in
    let long = was.long in
    let in_new = within ShareIndex old new c.args.client.guests.items yielded guest rest place was.at was.long split c.requires.same in
    let below : place < length old = omega (arith, in_new, long) in
    record {
      can = tt;
      finite = tt;
      all = split ∙ sym (append_assoc yielded (guest ∷ []) rest);
      at = longer yielded guest place was.at;
      long = length-set new place c.take_back.new.self ∙ was.long;
      rest = same_rest old new place c.take_back.new.self was.rest;
      made = three_next TakesBack yielded old new place guest c.index_mut.result.now c.take_back.new.self below was.long was.rest c.index_mut.ensures.value was.made c.take_back.ensures;
    }

pub returns : goal.returns
returns c =
    let was = c.loop-guest.invariant in
    let old = c.args.self.now.homes.items in
    let new = c.loop-guest.self.homes.items in
    let yielded = c.loop-guest.yielded in
    let rest = c.loop-guest.guest-iterator.rest in
    let none = nil_from_length rest.items (sym rest.ok.0 ∙ c.in-None.ensures.steps.0) in
    let all = was.all ∙ ap (λ l. yielded ++ l) none ∙ append-nil yielded in
    let end = was.at ∙ ap length (sym all) ∙ zip_long ShareIndex old c.args.client.guests.items c.requires.same in
    subst (λ (l : List Guest). AllThree TakesBack l old new) (sym all) (all_three TakesBack yielded old new c.loop-guest.place end was.long was.made)
