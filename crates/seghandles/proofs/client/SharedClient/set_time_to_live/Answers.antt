use Rattle.std.proofs.Common.{◌≡◌, ◌<◌, ◌∙◌, length, rules, arith}
use Rattle.std.proofs.lemmas.List.{length-set}
use Rattle.seghandles.specs.Guest as of_guest
use Rattle.segclient.specs.Member.{SetsTimeToLive}
use Rattle.segshards.proofs.Each.{all_zipped, same_rest, zip_next}
use Rattle.seghandles.proofs.client.SharedClient.set_time_to_live.Goals as goal

pub loop-place-preserved : goal.loop-place-preserved
loop-place-preserved c =
    let was = c.loop-place.invariant in
    let old = c.args.self.now.guests.items in
    let new = c.loop-place.self.guests.items in
    let place = c.loop-place.place in
    let end : c.len-place-end.result ≡ length old = search rules in
    let test = c.loop-place-test.true in
    let below : place < length old = omega (arith, test, end) in
    let is = c.set_time_to_live.new.self in
    record {
      long = length-set new place is ∙ was.long;
      rest = same_rest old new place is was.rest;
      made = zip_next (of_guest.MakesCall (λ board. SetsTimeToLive c.args.seconds)) old new place
          c.index_mut.result.now is below was.long was.rest c.index_mut.ensures.value was.made
          c.set_time_to_live.ensures;
      wants = was.wants;
      holds = was.holds;
    }

pub returns : goal.returns
returns c =
    let was = c.loop-place.invariant in
    let old = c.args.self.now.guests.items in
    let new = c.loop-place.self.guests.items in
    let place = c.loop-place.place in
    let end : c.len-place-end.result ≡ length old = search rules in
    let over = c.loop-place-test.false in
    let within = c.loop-place.auto.place-end in
    (all_zipped (of_guest.MakesCall (λ board. SetsTimeToLive c.args.seconds)) old new place (omega (arith, end, over, within)) was.long was.made, record { wants = was.wants; holds = was.holds })
