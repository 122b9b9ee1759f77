use Rattle.std.proofs.Common.{◌≡◌, ◌<◌, ◌∙◌, [], ◌∷◌, ◌++◌, ap, length, refl, rules, sym, arith}
use Rattle.std.proofs.lemmas.List.{length-set}
use Rattle.seghandles.specs.Guest as of_guest
use Rattle.segclient.specs.Made.{ReturnsTable}
use Rattle.segshards.specs.Sums.{table_sum}
use Rattle.segshards.proofs.Each.{same_rest, table_more, three_next, three_none}
use Rattle.seghandles.proofs.client.SharedClient.index_stats.Goals as goal

pub loop-place-init : goal.loop-place-init
loop-place-init c = (
  [],
  record {
    long = refl;
    rest = refl;
    made = three_none (λ a was is. of_guest.MakesCall (ReturnsTable a) was is);
    sums = refl;
    wants = refl;
    holds = refl;
  },
)

pub loop-place-preserved : goal.loop-place-preserved
loop-place-preserved c =
    let each = c.loop-place.invariant.0 in
    let was = c.loop-place.invariant.1 in
    let old = c.args.self.now.guests.items in
    let new = c.loop-place.self.guests.items in
    let place = c.loop-place.place in
    let end : c.len-place-end.result ≡ length old = search rules in
    let test = c.loop-place-test.true in
    let below : place < length old = omega (arith, test, end) in
    let told = c.index_stats-stats.result in
    let is = c.index_stats-stats.new.self in (
      each ++ told ∷ [],
      record {
        long = length-set new place is ∙ was.long;
        rest = same_rest old new place is was.rest;
        made = three_next (λ a was is. of_guest.MakesCall (ReturnsTable a) was is) each old new place told
            c.index_mut.result.now is below was.long was.rest c.index_mut.ensures.value was.made
            c.index_stats-stats.ensures;
        sums = c.table_sum-sum.ensures ∙ ap (λ s. table_sum s told) was.sums ∙ sym (table_more each told);
        wants = was.wants;
        holds = was.holds;
      },
    )
