use Rattle.std.proofs.Common.{◌≡◌, ◌<◌, ◌∙◌, ◌++◌, ◌∷◌, [], append_assoc, length, refl, sym, ap, arith}
use Rattle.std.specs.Global.{Vec}
use Rattle.std.specs.Vec.Iter.{into_iter_items}
use Rattle.std.proofs.lemmas.List.{length-set}
use Rattle.segshards.proofs.Each.{same_rest, three_next, three_none}
use Rattle.seghandles.specs.declared.guest.Guest.{Guest}
use Rattle.seghandles.proofs.Along.{below_all, longer}
use Rattle.seghandles.proofs.making.deal.Goals as goal

abbrev Dealt : Guest → Vec Guest → Vec Guest → Type 0
Dealt guest was is = is.items ≡ was.items ++ guest ∷ []

pub loop-guest-init : goal.loop-guest-init
loop-guest-init c = record {
  can = tt;
  finite = tt;
  all = sym c.into_iter-guest-iterator.ensures.into_iter_gives.0;
  at = refl;
  long = refl;
  rest = refl;
  made = three_none Dealt;
}

pub loop-guest-preserved : goal.loop-guest-preserved
loop-guest-preserved c =
    let was = c.loop-guest.invariant in
    let old = c.args.rows.now.items in
    let new = c.loop-guest.rows.items in
    let place = c.loop-guest.place in
    let yielded = c.loop-guest.yielded in
    let guest = c.in-Some.guest in
    let rest = into_iter_items c.next.new.self in
    let row = c.push.new.self in
    let split = was.all ∙ ap (λ l. yielded ++ l) c.in-Some.ensures.steps.0 in
    let within = below_all c.args.guests.items yielded guest rest place was.at split in
    let same = c.requires.long in
    let below : place < length old = omega (arith, within, same) in
    record {
      can = tt;
      finite = tt;
      all = split ∙ sym (append_assoc yielded (guest ∷ []) rest);
      at = longer yielded guest place was.at;
      long = length-set new place row ∙ was.long;
      rest = same_rest old new place row was.rest;
      made = three_next Dealt yielded old new place guest c.index_mut.result.now row below was.long was.rest c.index_mut.ensures.value was.made c.in_ok-push.ensures.items;
    }
