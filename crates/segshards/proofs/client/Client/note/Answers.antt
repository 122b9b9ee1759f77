use Rattle.std.proofs.Common.{◌≡◌, ◌+◌, ◌<◌, ◌∙◌, List, length, refl, rules, set, subst, sym, take, arith}
use Rattle.std.proofs.lemmas.List.{length-set}
use Rattle.segindex.specs.Words.{Note}
use Rattle.segclient.specs.Client as of_one
use Rattle.segclient.specs.Made as made
use Rattle.segshards.specs.Each.{AllThree}
use Rattle.segshards.proofs.Each.{all_three, same_rest, three_next, three_none}
use Rattle.segshards.proofs.Same.{answers_same}
use Rattle.segshards.proofs.client.Client.note.Goals as goal

pub loop-place-init : goal.loop-place-init
loop-place-init c = record {
  long = refl;
  rest = refl;
  count = search rules;
  room = search rules;
  noted = subst (λ (l : List Note). AllThree (λ a was is. of_one.MakesCall (made.Notes a) was is) l _ _) (search rules) (three_none (λ a was is. of_one.MakesCall (made.Notes a) was is));
  clock = refl;
  holds = refl;
}

pub loop-place-preserved : goal.loop-place-preserved
loop-place-preserved c =
    let was = c.loop-place.invariant in
    let old = c.args.self.now.shards.items in
    let new = c.loop-place.self.shards.items in
    let place = c.loop-place.place in
    let each = c.loop-place.each.items in
    let end : c.len-place-end.result ≡ length old = search rules in
    let test = c.loop-place-test.true in
    let below : place < length old = omega (arith, test, end) in
    let is = c.note.new.self in
    let pushed = c.push_reserved.ensures in
    let count = was.count in
    let room = was.room in
    record {
      long = length-set new place is ∙ was.long;
      rest = same_rest old new place is was.rest;
      count = omega (arith, pushed.len, count);
      room = omega (arith, pushed.capacity, room);
      noted = subst (λ (l : List Note). AllThree (λ a was is. of_one.MakesCall (made.Notes a) was is) l (take (place + 1) old) (take (place + 1) (set new place is))) (sym {A = List Note} pushed.items)
          (three_next (λ a was is. of_one.MakesCall (made.Notes a) was is) each old new place c.note.result
          c.index_mut.result.now is below was.long was.rest c.index_mut.ensures.value was.noted
          c.note.ensures.notes);
      clock = was.clock;
      holds = was.holds;
    }

pub returns-clause-notes : goal.returns-clause-notes
returns-clause-notes c =
    let was = c.loop-place.invariant in
    let old = c.args.self.now.shards.items in
    let new = c.loop-place.self.shards.items in
    let place = c.loop-place.place in
    let end : c.len-place-end.result ≡ length old = search rules in
    let over = c.loop-place-test.false in
    let within = c.loop-place.auto.place-end in (
      all_three (λ a was is. of_one.MakesCall (made.Notes a) was is) c.loop-place.each.items old new place (omega (arith, end, over, within)) was.long was.noted,
      record { clock = was.clock; holds = was.holds },
    )

pub returns-clause-same : goal.returns-clause-same
returns-clause-same c =
    answers_same made.Notes c.loop-place.each.items c.args.self.now.shards.items c.loop-place.self.shards.items (λ a b old new noted. noted.counts.keeps.settings.number) (returns-clause-notes c).0
