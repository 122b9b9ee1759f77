use Rattle.std.proofs.Common.{◌≡◌, ◌<◌, ◌∙◌, length, refl, rules, sym, arith}
use Rattle.std.proofs.lemmas.List.{length-set}
use Rattle.segclient.proofs.Places.{zip_long}
use Rattle.segshards.proofs.Each.{same_rest, same_there}
use Rattle.segshards.proofs.Noted.{all_meet, meet_next, none_meet, of_same}
use Rattle.segshards.proofs.Places.{zip_there}
use Rattle.segshards.proofs.Same.{meet_same}
use Rattle.segshards.proofs.client.Client.meet.Goals as goal

pub loop-place-init : goal.loop-place-init
loop-place-init c = record {
  long = refl;
  rest = refl;
  its_long = refl;
  its_rest = refl;
  met = none_meet;
  clock = refl;
  holds = refl;
  its_clock = refl;
  its_holds = refl;
}

pub index_mut-requires-in-loop-place : goal.index_mut-requires-in-loop-place
index_mut-requires-in-loop-place c =
    let was = c.loop-place.invariant in
    let end : c.len-place-end.result ≡ length c.args.self.now.shards.items = search rules in
    let test = c.loop-place-test.true in
    let same = zip_long of_same c.args.self.now.shards.items c.args.other.now.shards.items c.requires.same in
    let its_long = was.its_long in
    let below : c.loop-place.place < length c.loop-place.other.shards.items = omega (arith, test, end, same, its_long) in
    search (rules, below)

pub meet-requires : goal.meet-requires
meet-requires c =
    let was = c.loop-place.invariant in
    let old = c.args.self.now.shards.items in
    let other = c.args.other.now.shards.items in
    let place = c.loop-place.place in
    let end : c.len-place-end.result ≡ length old = search rules in
    let test = c.loop-place-test.true in
    let same = zip_long of_same old other c.requires.same in
    let below : place < length old = omega (arith, test, end) in
    let one = c.index_mut.result.now in
    let its = c.index_mut-in-loop-place.result.now in
    record {
      same = zip_there of_same old other place one its c.requires.same below
          (c.index_mut.ensures.value ∙ same_there old c.loop-place.self.shards.items place one below was.long was.rest)
          (c.index_mut-in-loop-place.ensures.value ∙ same_there other c.loop-place.other.shards.items place its (omega (arith, below, same)) was.its_long was.its_rest);
    }

pub loop-place-preserved : goal.loop-place-preserved
loop-place-preserved c =
    let was = c.loop-place.invariant in
    let old = c.args.self.now.shards.items in
    let other = c.args.other.now.shards.items in
    let new = c.loop-place.self.shards.items in
    let next = c.loop-place.other.shards.items in
    let place = c.loop-place.place in
    let end : c.len-place-end.result ≡ length old = search rules in
    let test = c.loop-place-test.true in
    let same = zip_long of_same old other c.requires.same in
    let below : place < length old = omega (arith, test, end) in
    let its_below : place < length other = omega (arith, below, same) in
    let is = c.meet.new.self in
    let its = c.meet.new.other in
    record {
      long = length-set new place is ∙ was.long;
      rest = same_rest old new place is was.rest;
      its_long = length-set next place its ∙ was.its_long;
      its_rest = same_rest other next place its was.its_rest;
      met = meet_next old other new next place c.index_mut.result.now c.index_mut-in-loop-place.result.now is its
          (below, was.long, was.rest, c.index_mut.ensures.value) (its_below, was.its_long, was.its_rest, c.index_mut-in-loop-place.ensures.value) was.met
          (record { same = c.meet.ensures.same.0; other_same = c.meet.ensures.same.1; meets = c.meet.ensures.meets });
      clock = was.clock;
      holds = was.holds;
      its_clock = was.its_clock;
      its_holds = was.its_holds;
    }

pub returns-clause-meets : goal.returns-clause-meets
returns-clause-meets c =
    let was = c.loop-place.invariant in
    let old = c.args.self.now.shards.items in
    let other = c.args.other.now.shards.items in
    let new = c.loop-place.self.shards.items in
    let next = c.loop-place.other.shards.items in
    let place = c.loop-place.place in
    let end : c.len-place-end.result ≡ length old = search rules in
    let over = c.loop-place-test.false in
    let within = c.loop-place.auto.place-end in
    let same = zip_long of_same old other c.requires.same in
    let is : place ≡ length old = omega (arith, end, over, within) in
    let its : place ≡ length other = is ∙ sym same in (
      all_meet old other new next place is its (is ∙ sym was.long) (its ∙ sym was.its_long) was.met,
      record { clock = was.clock; holds = was.holds },
      record { clock = was.its_clock; holds = was.its_holds },
    )

pub returns-clause-same : goal.returns-clause-same
returns-clause-same c =
    meet_same c.args.self.now.shards.items c.args.other.now.shards.items c.loop-place.self.shards.items c.loop-place.other.shards.items (returns-clause-meets c).0
