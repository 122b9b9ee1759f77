use Rattle.std.proofs.Common.{◌≡◌, ◌∙◌, ◌∷◌, ◌++◌, [], List, All, ap, append_assoc, length, rules, subst, sym, arith}
use Rattle.std.specs.Global.{Vec}
use Rattle.std.specs.Vec.Iter.{into_iter_items}
use Rattle.std.proofs.lemmas.List.{append-nil, nil_from_length}
use Rattle.std.proofs.lemmas.List.Elements.{All-push, All-same, All-weaker}
use Rattle.segbase.specs.Words.{Pass}
use Rattle.segclient.proofs.Places.{zip_long}
use Rattle.segshards.specs.declared.client.Client.{Client}
use Rattle.segshards.proofs.Ended.{added_quiet, all_of_shards, empty_lists, have_passes, is_of, now_have, still_have}
use Rattle.segshards.proofs.Opened.{as_long}
use Rattle.segshards.proofs.Places.{gone_through}
use Rattle.segshards.proofs.cache.Cache.into_passes.Goals as goal

pub loop-preserved : goal.loop-preserved
loop-preserved c =
    let was = c.loop.invariant in
    let pushed = c.push_reserved.ensures in
    let long = was.long in
    let room = was.room in
    let made = c.in_ok-with_capacity.field-0 in
    record {
      long = omega (arith, pushed.len, long);
      room = omega (arith, pushed.capacity, room);
      empty = All-same (λ (l : Vec Pass). l.items ≡ []) _ _ pushed.items (All-push (λ (l : Vec Pass). l.items ≡ []) c.loop.lists.items made was.empty c.in_ok-with_capacity.ensures.items);
    }

pub loop-client-init : goal.loop-client-init
loop-client-init c =
    let was = c.loop.invariant in
    let long = was.long in
    let have = c.loop.lists.ok.0 in
    let shards = c.args.self.now.shards.ok.0 in
    let end = c.len-end.ensures in
    let over = c.loop-test.false in
    let within = c.loop.auto.counter-end in
    record {
      can = tt;
      finite = tt;
      all = search rules;
      quiet = empty_lists c.args.self.now.shards.items c.loop.lists.items (omega (arith, long, have, shards, end, over, within)) was.empty;
      have = λ k d lt. absurd (omega (arith, lt));
    }

pub add_passes-requires : goal.add_passes-requires
add_passes-requires c =
    let was = c.loop-client.invariant in
    let yielded = c.loop-client.yielded in
    let client = c.in-Some.client in
    let shards = c.args.self.now.shards.items in
    let steps = c.in-Some.ensures.steps in
    let through = gone_through c.args.clients.items yielded (into_iter_items c.next.new.self) client (was.all ∙ ap (λ l. yielded ++ l) steps.0) in
    record { long = as_long shards c.loop-client.lists.items was.quiet ∙ sym (zip_long is_of shards client.shards.items (c.requires.all.of (length yielded) client through.1)) }

pub loop-client-preserved : goal.loop-client-preserved
loop-client-preserved c =
    let was = c.loop-client.invariant in
    let yielded = c.loop-client.yielded in
    let client = c.in-Some.client in
    let shards = c.args.self.now.shards.items in
    let old = c.loop-client.lists.items in
    let new = c.add_passes.new.lists.items in
    let steps = c.in-Some.ensures.steps in
    let through = gone_through c.args.clients.items yielded (into_iter_items c.next.new.self) client (was.all ∙ ap (λ l. yielded ++ l) steps.0) in
    let added = c.in_ok-add_passes.ensures.added in
    record {
      can = tt;
      finite = tt;
      all = was.all ∙ ap (λ l. yielded ++ l) steps.0 ∙ sym (append_assoc yielded (client ∷ []) (into_iter_items c.next.new.self));
      quiet = added_quiet shards client.shards.items old new (c.requires.all.of (length yielded) client through.1) was.quiet added;
      have = All-push (have_passes new) yielded client
          (All-weaker (have_passes old) (have_passes new) (λ its had. still_have its.shards.items client.shards.items old new had added) yielded was.have)
          (now_have client.shards.items old new added);
    }

pub returns : goal.returns
returns c =
    let was = c.loop-client.invariant in
    let yielded = c.loop-client.yielded in
    let rest = c.loop-client.client-iterator.rest in
    let none = nil_from_length rest.items (sym rest.ok.0 ∙ c.in-None.ensures.steps.0) in
    let all : c.args.clients.items ≡ yielded = was.all ∙ ap (λ l. yielded ++ l) none ∙ append-nil yielded in
    record {
      all = all_of_shards c.args.self.now.shards.items c.args.clients.items c.loop-client.lists.items c.requires.all was.quiet
          (subst (λ (l : List Client). All (have_passes c.loop-client.lists.items) l) (sym {A = List Client} all) was.have);
    }
