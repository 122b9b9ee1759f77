use Rattle.std.specs.Global.{Vec}
use Rattle.std.specs.Prelude.{Any, IfNone}
use Rattle.segbase.specs.Words.{Pass}
use Rattle.std.proofs.Common.{rules, ◌≡◌, ◌<◌, ◌+◌, ◌∷◌, [], IfSome, List, length, subst, sym, arith}
use Rattle.std.proofs.lemmas.List.Elements.{All-append, All-cons, All-nil, All-same}
use Rattle.segshards.specs.declared.client.Client.{Client}
use Rattle.segshards.specs.Client.{IsNewClient}
use Rattle.segshards.specs.Closing.{AreTaken}
use Rattle.segshards.proofs.Dealt.{all_dealt, AreDealt, new_long, none_dealt, none_left, one_dealt}
use Rattle.segshards.proofs.Opened.{as_long}
use Rattle.segshards.proofs.cache.Cache.clients.Goals as goal
use Rattle.segshards.proofs.cache.Cache.clients.Goals.{else-loop-test, then-loop-test+in_ok-client+in_default}

pub index-requires : goal.index-requires
index-requires c =
    let long = as_long c.args.self.now.shards.items c.args.lists.items c.requires.passes in
    let some = c.args.self.now.some in
    let have = c.args.self.now.shards.ok.0 in
    let below : 0 < length c.args.lists.items = omega (arith, long, some, have) in
    search (rules, below)

pub loop-init : goal.loop-init
loop-init c =
    let New = IsNewClient c.args.self.now.shards.items in
    let made = c.in_ok-clients.ensures in
    let lists = c.args.lists.items in
    let first = c.index.result.now in
    let long = as_long c.args.self.now.shards.items lists c.requires.passes in
    let some = c.args.self.now.some in
    let have = c.args.self.now.shards.ok.0 in
    let its = first.ok.0 in
    let threads = c.len-threads.ensures in
    record {
      long = search rules;
      room = search rules;
      are = c.requires.passes;
      new = All-same New _ _ made.items (All-nil New);
      dealt = λ shape are_new.
          let all = subst (λ (l : Vec Pass). length l.items ≡ shape.passes) (sym c.index.ensures)
          (new_long shape c.args.self.now.shards.items lists are_new 0 first (omega (arith, long, some, have)))
          in (
            subst (λ (l : List Client). AreDealt shape c.args.self.now.shards.items lists l 0) (sym {A = List Client} made.items) (none_dealt shape c.args.self.now.shards.items lists are_new),
            omega (arith, all, its, threads),
          );
    }

pub returns-clause-all : goal.returns-clause-all
returns-clause-all c = λ shape are_new.
    let was = c.loop.invariant in
    let dealt = was.dealt shape are_new in
    let threads = dealt.1 in
    let shards = c.args.self.now.shards.items in
    let within = c.loop.auto.counter-end in
    all_dealt shape shards c.loop.lists.items c.loop.clients.items c.loop.counter dealt.0 (elim c.loop-test.branch [
      | else-loop-test w ↦ let over = w.loop-test in omega (arith, over, within, threads)
      | then-loop-test+in_ok-client+in_default w ↦ none_left shape shards c.loop.lists.items c.loop.clients.items
          c.loop.counter dealt.0 (subst (λ f. IfNone f (Any (λ (l : Vec Pass). l.items ≡ []) c.loop.lists.items))
          w.in_default.is w.in_ok-client.ensures.none)
    ]) was.new

pub loop-preserved : goal.loop-preserved
loop-preserved c =
    let was = c.loop.invariant in
    let long = was.long in
    let room = was.room in
    let pushed = c.push_reserved.ensures in
    let New = IsNewClient c.args.self.now.shards.items in
    let is_new = subst (λ f. IfSome f New) c.in-Some.is c.in_ok-client.ensures.client in
    record {
      long = omega (arith, pushed.len, long);
      room = omega (arith, pushed.capacity, room);
      are = c.client.ensures.passes;
      new = All-same New _ _ pushed.items (All-append New c.loop.clients.items (c.in-Some.client ∷ []) was.new (All-cons New c.in-Some.client [] is_new (All-nil New)));
      dealt = λ shape are_new.
          let dealt = was.dealt shape are_new in (
            subst (λ (l : List Client). AreDealt shape c.args.self.now.shards.items c.client.new.lists.items l (c.loop.counter + 1)) (sym {A = List Client} pushed.items)
                (one_dealt shape c.args.self.now.shards.items c.loop.lists.items c.client.new.lists.items c.loop.clients.items c.in-Some.client c.loop.counter dealt.0
                (subst (λ f. IfSome f (λ k. AreTaken k.shards.items c.loop.lists.items c.client.new.lists.items)) c.in-Some.is c.in_ok-client.ensures.taken)),
            dealt.1,
          );
    }
