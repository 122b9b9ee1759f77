use Rattle.std.proofs.Common.{◌≡◌, ◌+◌, ◌<◌, ◌∙◌, List, [], length, slice_set, take, refl, rules, sym, subst, arith}
use Rattle.std.proofs.lemmas.List.{length-set}
use Rattle.segindex.specs.Words.{Note}
use Rattle.segclient.specs.Made.{Notes}
use Rattle.segshards.specs.Each.{AllThree}
use Rattle.segshards.proofs.Each.{same_rest, three_next, three_none}
use Rattle.seghandles.specs.Guest as of_guest
use Rattle.seghandles.proofs.client.SharedClient.note.Goals as goal

pub loop-place-init : goal.loop-place-init
loop-place-init c =
    let made = c.in_ok-notes.ensures in
    let have = c.args.self.now.guests.ok.0 in
    let end : c.len.result ≡ length c.args.self.now.guests.items = search rules in
    let len = made.len in
    let room = made.capacity in
    record {
      len = len;
      room = omega (arith, room, end);
      long = refl;
      rest = refl;
      made = subst (λ (l : List Note). AllThree (λ a was is. of_guest.MakesCall (Notes a) was is) l [] [])
          (sym {A = List Note} made.items) (three_none (λ a was is. of_guest.MakesCall (Notes a) was is));
      wants = refl;
      holds = refl;
    }

pub loop-place-preserved : goal.loop-place-preserved
loop-place-preserved c =
    let was = c.loop-place.invariant in
    let old = c.args.self.now.guests.items in
    let new = c.loop-place.self.guests.items in
    let place = c.loop-place.place in
    let end : c.len-place-end.result ≡ length old = search rules in
    let test = c.loop-place-test.true in
    let below : place < length old = omega (arith, test, end) in
    let note = c.note.result in
    let is = c.note.new.self in
    let pushed = c.push_reserved.ensures in
    let len = was.len in
    let room = was.room in
    record {
      len = omega (arith, pushed.len, len);
      room = omega (arith, pushed.capacity, room);
      long = length-set new place is ∙ was.long;
      rest = same_rest old new place is was.rest;
      made = subst (λ (l : List Note). AllThree (λ a was is. of_guest.MakesCall (Notes a) was is) l
          (take (place + 1) old) (take (place + 1) (slice_set new place is))) (sym {A = List Note} pushed.items)
          (three_next (λ a was is. of_guest.MakesCall (Notes a) was is) c.loop-place.notes.items old new place note
          c.index_mut.result.now is below was.long was.rest c.index_mut.ensures.value was.made c.note.ensures);
      wants = was.wants;
      holds = was.holds;
    }
