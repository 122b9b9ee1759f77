use Rattle.std.proofs.Common.{◌≡◌, ◌<◌, ◌∙◌, ◌&&◌, Bool, [], ◌∷◌, ◌++◌, ap, length, refl, rules, sym, true, arith}
use Rattle.std.proofs.lemmas.List.{length-set}
use Rattle.std.proofs.lemmas.List.Sums.{fold_push}
use Rattle.segclient.specs.Puts.{MakesRoomFor}
use Rattle.segshards.proofs.Each.{same_rest, three_next, three_none}
use Rattle.seghandles.specs.Guest as of_guest
use Rattle.seghandles.proofs.Dealt.{all_three}
use Rattle.seghandles.proofs.client.SharedClient.make_room_in_all.Goals as goal

pub loop-place-init : goal.loop-place-init
loop-place-init c = (
  [],
  record {
    long = refl;
    rest = refl;
    made = three_none (λ a was is. of_guest.MakesCall (of_guest.At c.args.now (MakesRoomFor a)) was is);
    all = refl;
    wants = refl;
    holds = refl;
  },
)

pub loop-place-preserved : goal.loop-place-preserved
loop-place-preserved c =
    let each = c.loop-place.invariant.0 in
    let was = c.loop-place.invariant.1 in
    let old = c.args.self.now.guests.items in
    let new = c.loop-place.self.guests.items in
    let place = c.loop-place.place in
    let end : c.len-place-end.result ≡ length old = search rules in
    let test = c.loop-place-test.true in
    let below : place < length old = omega (arith, test, end) in
    let made = c.make_room-made.result in
    let is = c.make_room-made.new.self in (
      each ++ made ∷ [],
      record {
        long = length-set new place is ∙ was.long;
        rest = same_rest old new place is was.rest;
        made = three_next (λ a was is. of_guest.MakesCall (of_guest.At c.args.now (MakesRoomFor a)) was is) each old
            new place made c.index_mut.result.now is below was.long was.rest c.index_mut.ensures.value was.made
            c.make_room-made.ensures;
        all = ap (λ (b : Bool). b && made) was.all ∙ sym (fold_push (λ (b one : Bool). b && one) true each made);
        wants = was.wants;
        holds = was.holds;
      },
    )

pub returns : goal.returns
returns c =
    let each = c.loop-place.invariant.0 in
    let was = c.loop-place.invariant.1 in
    let old = c.args.self.now.guests.items in
    let new = c.loop-place.self.guests.items in
    let place = c.loop-place.place in
    let end : c.len-place-end.result ≡ length old = search rules in
    let over = c.loop-place-test.false in
    let within = c.loop-place.auto.place-end in
    record {
      each = each;
      calls = (
        all_three (λ a was is. of_guest.MakesCall (of_guest.At c.args.now (MakesRoomFor a)) was is) each old
            new place (omega (arith, end, over, within)) was.long was.made,
        record { wants = was.wants; holds = was.holds },
      );
      all = was.all;
    }
