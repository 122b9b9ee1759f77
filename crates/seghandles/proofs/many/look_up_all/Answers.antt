use Rattle.std.proofs.Common.{◌∙◌, ◌<◌, length, refl, arith}
use Rattle.std.proofs.lemmas.List.{length-set}
use Rattle.seghandles.specs.Many.{LooksUp}
use Rattle.seghandles.proofs.InTurn.{next_looked_up, next_rest, none_looked_up}
use Rattle.seghandles.proofs.many.look_up_all.Goals as goal

pub loop-place-init : goal.loop-place-init
loop-place-init c = record {
  long = refl;
  rest = refl;
  made = none_looked_up (LooksUp c.args.versioned c.args.keys.now c.args.now) c.args.client.now;
}

pub loop-place-preserved : goal.loop-place-preserved
loop-place-preserved c =
    let so = c.loop-place.invariant in
    let before = c.args.lookups.now in
    let now = c.loop-place.lookups in
    let place = c.loop-place.place in
    let is = c.look_up.new.lookup in
    let in_before : place < length before = c.loop-place-test.true in
    let in_now : place < length now = let long = so.long in omega arith in
    record {
      long = length-set now place is ∙ so.long;
      rest = next_rest before now place is so.rest;
      made = next_looked_up (LooksUp c.args.versioned c.args.keys.now c.args.now) before now place _ is c.args.client.now c.loop-place.client c.look_ahead_from.new.client c.look_up.new.client
          in_before in_now so.rest so.made c.look_ahead_from.ensures c.look_up.ensures;
    }
