use Rattle.std.proofs.Common.{◌≡◌, ◌<◌, false, length, rules, sym, ◌∙◌, arith}
use Rattle.std.proofs.lemmas.Bool.{false≢true}
use Rattle.segclient.proofs.Places.{zip_long}
use Rattle.seghandles.specs.Home.{HasPlaceFor}
use Rattle.seghandles.proofs.Along.{at_place, more}
use Rattle.seghandles.proofs.cache.Cache.has_place_for.Goals as goal

pub returns-then-len : goal.returns-then-len
returns-then-len c =
    let homes = c.args.self.now.homes.items in
    let guests = c.args.client.now.guests.items in
    let differ : ¬ (length homes ≡ length guests) = search rules in
    (λ e. absurd (false≢true e), λ zip. absurd (differ (sym (zip_long HasPlaceFor homes guests zip))))

pub returns-then-not-has_place_for : goal.returns-then-not-has_place_for
returns-then-not-has_place_for c =
    let homes = c.args.self.now.homes.items in
    let guests = c.args.client.now.guests.items in
    let place = c.loop-place.place in
    let end : c.len-place-end.result ≡ length homes = search rules in
    let test = c.loop-place-test.true in
    let below : place < length homes = omega (arith, test, end) in
    let out : c.has_place_for.result ≡ false = search rules in (
      λ e. absurd (false≢true e),
      λ zip. absurd (false≢true (sym out ∙ c.has_place_for.ensures.1
          (at_place HasPlaceFor homes guests place c.index.result.now c.index-in-loop-place.result.now below
          c.index.ensures c.index-in-loop-place.ensures zip))),
    )

pub loop-place-preserved : goal.loop-place-preserved
loop-place-preserved c =
    let homes = c.args.self.now.homes.items in
    let guests = c.args.client.now.guests.items in
    let place = c.loop-place.place in
    let end : c.len-place-end.result ≡ length homes = search rules in
    let same : length homes ≡ length guests = search rules in
    let test = c.loop-place-test.true in
    let in_homes : place < length homes = omega (arith, test, end) in
    let in_guests : place < length guests = omega (arith, in_homes, same) in
    more HasPlaceFor homes guests place c.index.result.now c.index-in-loop-place.result.now in_homes in_guests c.index.ensures c.index-in-loop-place.ensures c.loop-place.invariant
    (c.has_place_for.ensures.0 (search rules))
