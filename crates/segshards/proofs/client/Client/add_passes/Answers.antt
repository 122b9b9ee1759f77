use Rattle.std.proofs.Common.{◌≡◌, ◌+◌, ◌<◌, ◌≤◌, ◌∙◌, ◌∷◌, ◌++◌, [], List, ap, append_assoc, length, refl, rules, subst, sym, arith}
use Rattle.std.specs.Vec.Iter.{into_iter_items}
use Rattle.std.proofs.lemmas.List.{append-nil, length-append, length-set, nil_from_length}
use Rattle.segclient.specs.declared.client.Client as one
use Rattle.segshards.specs.Closing.{AreAdded}
use Rattle.segshards.proofs.Each.{all_three, same_rest, three_next, three_none}
use Rattle.segshards.proofs.Ended.{is_added}
use Rattle.segshards.proofs.Places.{gone_through}
use Rattle.segshards.proofs.client.Client.add_passes.Goals as goal

pub loop-shard-init : goal.loop-shard-init
loop-shard-init c = record {
  can = tt;
  finite = tt;
  all = search rules;
  at = refl;
  long = refl;
  rest = refl;
  added = three_none is_added;
}

pub index_mut-requires : goal.index_mut-requires
index_mut-requires c =
    let was = c.loop-shard.invariant in
    let yielded = c.loop-shard.yielded in
    let steps = c.in-Some.ensures.steps in
    let through = gone_through c.args.self.shards.items yielded (into_iter_items c.next.new.self) c.in-Some.shard (was.all ∙ ap (λ l. yielded ++ l) steps.0) in
    let below = through.0 in
    let at = was.at in
    let long = was.long in
    let same = c.requires.long in
    let here : c.loop-shard.place < length c.loop-shard.lists.items = omega (arith, below, at, long, same) in
    search (rules, here)

pub overflow_add-place : goal.overflow_add-place
overflow_add-place c =
    let was = c.loop-shard.invariant in
    let yielded = c.loop-shard.yielded in
    let steps = c.in-Some.ensures.steps in
    let through = gone_through c.args.self.shards.items yielded (into_iter_items c.next.new.self) c.in-Some.shard (was.all ∙ ap (λ l. yielded ++ l) steps.0) in
    let below = through.0 in
    let at = was.at in
    let few = c.args.self.few in
    let have = c.args.self.shards.ok.0 in
    let small : c.loop-shard.place + 1 ≤ 16384 = omega (arith, below, at, few, have) in
    search (rules, small)

pub loop-shard-preserved : goal.loop-shard-preserved
loop-shard-preserved c =
    let was = c.loop-shard.invariant in
    let old = c.args.lists.now.items in
    let new = c.loop-shard.lists.items in
    let place = c.loop-shard.place in
    let yielded = c.loop-shard.yielded in
    let shard = c.in-Some.shard in
    let steps = c.in-Some.ensures.steps in
    let through = gone_through c.args.self.shards.items yielded (into_iter_items c.next.new.self) shard (was.all ∙ ap (λ l. yielded ++ l) steps.0) in
    let below = through.0 in
    let at = was.at in
    let same = c.requires.long in
    let here : place < length old = omega (arith, below, at, same) in
    let one = c.index_mut.result.now in
    let is = c.push.new.self in
    let parts = length-append yielded (shard ∷ []) in
    record {
      can = tt;
      finite = tt;
      all = was.all ∙ ap (λ l. yielded ++ l) steps.0 ∙ sym (append_assoc yielded (shard ∷ []) (into_iter_items c.next.new.self));
      at = omega (arith, at, parts);
      long = length-set new place is ∙ was.long;
      rest = same_rest old new place is was.rest;
      added = three_next is_added yielded old new place shard one is here was.long was.rest
          c.index_mut.ensures.value was.added (c.in_ok-push.ensures.items
          ∙ ap (λ p. one.items ++ p ∷ []) c.into_pass.ensures);
    }

pub returns : goal.returns
returns c =
    let was = c.loop-shard.invariant in
    let old = c.args.lists.now.items in
    let new = c.loop-shard.lists.items in
    let yielded = c.loop-shard.yielded in
    let rest = c.loop-shard.shard-iterator.rest in
    let none = nil_from_length rest.items (sym rest.ok.0 ∙ c.in-None.ensures.steps.0) in
    let all : c.args.self.shards.items ≡ yielded = was.all ∙ ap (λ l. yielded ++ l) none ∙ append-nil yielded in
    let same = ap length all in
    let at = was.at in
    let long = c.requires.long in
    record {
      added = subst (λ (l : List one.Client). AreAdded l old new) (sym {A = List one.Client} all)
          (all_three is_added yielded old new c.loop-shard.place (omega (arith, same, at, long)) was.long
          was.added);
    }
