use Rattle.std.proofs.Common.{◌∙◌, ◌∷◌, List, sym, subst, arith}
use Rattle.std.specs.Global.{Vec}
use Rattle.std.specs.Vec.Iter.{into_iter_items}
use Rattle.std.proofs.lemmas.List.{nil_from_length}
use Rattle.segbase.specs.Words.{Pass}
use Rattle.segindex.specs.Words.{Index}
use Rattle.segshards.specs.Shards.{AreAllOfShards}
use Rattle.segshards.proofs.Ended.{all_came, index_in, lists_left, no_lists, one_came, passes_in}
use Rattle.segshards.proofs.cache.Cache.into_whole_shards.Goals as goal

pub unreachable-requires : goal.unreachable-requires
unreachable-requires c =
    let was = c.loop-index.invariant in
    let lists = c.loop-index.lists.rest in
    let steps = c.in-Some.ensures.steps in
    lists_left c.in-Some.index (into_iter_items c.next.new.self) (into_iter_items c.loop-index.lists)
    (subst (λ (l : List Index). AreAllOfShards l (into_iter_items c.loop-index.lists)) steps.0 was.all)
    (nil_from_length lists.items (sym lists.ok.0 ∙ c.in_default.ensures.cases.0))

pub new-requires : goal.new-requires
new-requires c =
    let was = c.loop-index.invariant in
    let steps = c.in-Some.ensures.steps in
    let left = subst (λ (l : List Index). AreAllOfShards l (into_iter_items c.loop-index.lists)) steps.0 was.all in
    let both = subst (λ (l : List (Vec Pass)). AreAllOfShards (c.in-Some.index ∷ into_iter_items c.next.new.self) l) c.in-Some-next.ensures.items left in
    record { all = both.0 }

pub loop-index-preserved : goal.loop-index-preserved
loop-index-preserved c =
    let was = c.loop-index.invariant in
    let steps = c.in-Some.ensures.steps in
    let pushed = c.push_reserved.ensures in
    let room = was.room in
    let left = subst (λ (l : List Index). AreAllOfShards l (into_iter_items c.loop-index.lists)) steps.0 was.all in
    let both = subst (λ (l : List (Vec Pass)). AreAllOfShards (c.in-Some.index ∷ into_iter_items c.next.new.self) l) c.in-Some-next.ensures.items left in
    record {
      can = tt;
      finite = tt;
      room = omega (arith, steps.1, pushed.len, pushed.capacity);
      shards = one_came index_in c.loop-index.whole.items c.push_reserved.new.self.items c.new.result
          c.in-Some.index (into_iter_items c.loop-index.index-iterator) (into_iter_items c.next.new.self)
          c.args.self.shards.items pushed.items c.new.ensures.index steps.0 was.shards;
      passes = one_came passes_in c.loop-index.whole.items c.push_reserved.new.self.items c.new.result
          c.in-Some-next.passes (into_iter_items c.loop-index.lists) (into_iter_items c.next-in-loop-index.new.self)
          c.args.lists.items pushed.items c.new.ensures.passes c.in-Some-next.ensures.items was.passes;
      all = both.1;
    }

pub returns-clause-shards : goal.returns-clause-shards
returns-clause-shards c =
    let was = c.loop-index.invariant in
    let rest = c.loop-index.index-iterator.rest in
    let none = nil_from_length rest.items (sym rest.ok.0 ∙ c.in-None.ensures.steps.0) in
    all_came index_in c.loop-index.whole.items (into_iter_items c.loop-index.index-iterator) c.args.self.shards.items none was.shards

pub returns-clause-passes : goal.returns-clause-passes
returns-clause-passes c =
    let was = c.loop-index.invariant in
    let rest = c.loop-index.index-iterator.rest in
    let none = nil_from_length rest.items (sym rest.ok.0 ∙ c.in-None.ensures.steps.0) in
    all_came passes_in c.loop-index.whole.items (into_iter_items c.loop-index.lists) c.args.lists.items
    (no_lists (into_iter_items c.loop-index.lists) (subst (λ (l : List Index). AreAllOfShards l (into_iter_items c.loop-index.lists)) none was.all))
    was.passes
