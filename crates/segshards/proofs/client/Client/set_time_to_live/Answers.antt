use Rattle.std.proofs.Common.{◌≡◌, ◌<◌, ◌∙◌, ap, length, rules, arith}
use Rattle.std.proofs.lemmas.List.{length-set}
use Rattle.segbase.specs.Words.{number}
use Rattle.segclient.specs.Client as of_one
use Rattle.segclient.specs.Member.{SetsTimeToLive}
use Rattle.segshards.proofs.Each.{all_zipped, same_rest, zip_next}
use Rattle.segshards.proofs.Same.{each_same}
use Rattle.segshards.proofs.client.Client.set_time_to_live.Goals as goal

pub loop-place-preserved : goal.loop-place-preserved
loop-place-preserved c =
    let was = c.loop-place.invariant in
    let old = c.args.self.now.shards.items in
    let new = c.loop-place.self.shards.items in
    let place = c.loop-place.place in
    let end : c.len-place-end.result ≡ length old = search rules in
    let test = c.loop-place-test.true in
    let below : place < length old = omega (arith, test, end) in
    let is = c.set_time_to_live.new.self in
    record {
      long = length-set new place is ∙ was.long;
      rest = same_rest old new place is was.rest;
      made = zip_next (of_one.MakesCall (λ board. SetsTimeToLive c.args.time_to_live)) old new place
          c.index_mut.result.now is below was.long was.rest c.index_mut.ensures.value was.made
          c.set_time_to_live.ensures.sets;
      clock = was.clock;
      holds = was.holds;
    }

pub returns-clause-sets : goal.returns-clause-sets
returns-clause-sets c =
    let was = c.loop-place.invariant in
    let old = c.args.self.now.shards.items in
    let new = c.loop-place.self.shards.items in
    let place = c.loop-place.place in
    let end : c.len-place-end.result ≡ length old = search rules in
    let over = c.loop-place-test.false in
    let within = c.loop-place.auto.place-end in
    (all_zipped (of_one.MakesCall (λ board. SetsTimeToLive c.args.time_to_live)) old new place (omega (arith, end, over, within)) was.long was.made, record { clock = was.clock; holds = was.holds })

pub returns-clause-same : goal.returns-clause-same
returns-clause-same c =
    each_same (λ board. SetsTimeToLive c.args.time_to_live) c.args.self.now.shards.items c.loop-place.self.shards.items (λ b old new made. ap number made.rest.pass) (returns-clause-sets c).0
