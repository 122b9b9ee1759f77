use Rattle.std.proofs.Common.{rules, ◌≡◌, ◌<◌, ◌+◌, ◌∙◌, ◌∷◌, ◌++◌, [], List, length, set, take, refl, sym, subst, arith}
use Rattle.std.proofs.lemmas.List.{length-set}
use Rattle.segshards.proofs.Dealt.{is_taken}
use Rattle.segshards.proofs.Each.{all_three, same_rest, same_there, three_next, three_none}
use Rattle.segshards.proofs.Opened.{all_clients, as_long, one_client, quiet_at, set_at}
use Rattle.segclient.specs.declared.client.Client.{Client}
use Rattle.segshards.specs.Client.{AreNewClients}
use Rattle.segshards.specs.Closing.{AreTaken}
use Rattle.segshards.proofs.cache.Cache.client.Goals as goal

pub index_mut-requires : goal.index_mut-requires
index_mut-requires c =
    let lists = c.loop-place.lists.items in
    let shards = c.args.self.now.shards.items in
    let end : c.len-place-end.result ≡ length shards = search rules in
    let test = c.loop-place-test.true in
    let long = as_long shards lists c.loop-place.invariant.are in
    let below : c.loop-place.place < length lists = omega (arith, test, end, long) in
    search (rules, below)

pub keep_back-requires : goal.keep_back-requires
keep_back-requires c =
    let lists = c.loop-place.lists.items in
    let shards = c.args.self.now.shards.items in
    let end : c.len-place-end.result ≡ length shards = search rules in
    let test = c.loop-place-test.true in
    record {
      quiet = quiet_at shards lists c.loop-place.place c.index-index.result.now c.index_mut.result.now
          c.loop-place.invariant.are (omega (arith, test, end)) c.index-index.ensures c.index_mut.ensures.value;
    }

pub returns-in_default-clause-passes : goal.returns-in_default-clause-passes
returns-in_default-clause-passes c =
    let shards = c.args.self.now.shards.items in
    let end : c.len-place-end.result ≡ length shards = search rules in
    let test = c.loop-place-test.true in
    set_at shards c.loop-place.lists.items c.loop-place.place c.index-index.result.now c.keep_back.new.passes
    c.loop-place.invariant.are (omega (arith, test, end)) c.index-index.ensures c.keep_back.ensures.others

pub returns-in_err-shard-clause-passes : goal.returns-in_err-shard-clause-passes
returns-in_err-shard-clause-passes c =
    let shards = c.args.self.now.shards.items in
    let end : c.len-place-end.result ≡ length shards = search rules in
    let test = c.loop-place-test.true in
    set_at shards c.loop-place.lists.items c.loop-place.place c.index-index.result.now c.keep_back.new.passes
    c.loop-place.invariant.are (omega (arith, test, end)) c.index-index.ensures c.keep_back.ensures.others

pub loop-place-init : goal.loop-place-init
loop-place-init c =
    let made = c.in_ok-shards.ensures in
    record {
      long = search rules;
      room = search rules;
      are = c.requires.passes;
      made = subst (λ (l : List Client). AreNewClients [] l) (sym {A = List Client} made.items) tt;
      still = refl;
      rest = refl;
      taken = subst (λ (l : List Client). AreTaken l [] []) (sym {A = List Client} made.items) (three_none is_taken);
    }

pub loop-place-preserved : goal.loop-place-preserved
loop-place-preserved c =
    let shards = c.args.self.now.shards.items in
    let end : c.len-place-end.result ≡ length shards = search rules in
    let test = c.loop-place-test.true in
    let was = c.loop-place.invariant in
    let pushed = c.push_reserved.ensures in
    let long = was.long in
    let room = was.room in
    let lists = c.loop-place.lists.items in
    let first = c.args.lists.now.items in
    let given = as_long shards first c.requires.passes in
    let is = c.keep_back.new.passes in
    record {
      long = omega (arith, pushed.len, long);
      room = omega (arith, pushed.capacity, room);
      are = set_at shards c.loop-place.lists.items c.loop-place.place c.index-index.result.now
          c.keep_back.new.passes was.are (omega (arith, test, end)) c.index-index.ensures
          c.keep_back.ensures.others;
      made = subst (λ (l : List Client). AreNewClients (take (c.loop-place.place + 1) shards) l) (sym {A = List Client} pushed.items)
          (one_client shards c.loop-place.shards.items c.loop-place.place c.index-index.result.now c.in-Some.pass
          c.in_ok-shard.shard (omega (arith, test, end)) c.index-index.ensures was.made
          c.in_ok-shard.ensures.starts);
      still = length-set lists c.loop-place.place is ∙ was.still;
      rest = same_rest first lists c.loop-place.place is was.rest;
      taken = subst (λ (l : List Client). AreTaken l (take (c.loop-place.place + 1) first) (take (c.loop-place.place + 1) (set lists c.loop-place.place is))) (sym {A = List Client} pushed.items)
          (three_next is_taken c.loop-place.shards.items first lists c.loop-place.place c.in_ok-shard.shard
          c.index_mut.result.now is (omega (arith, test, end, given)) was.still was.rest
          c.index_mut.ensures.value was.taken
          (subst (λ p. c.index_mut.result.now.items ≡ is.items ++ p ∷ []) (sym c.in_ok-shard.ensures.starts.member.pass) c.in-Some.ensures.taken));
    }

pub returns-in_default-clause-none : goal.returns-in_default-clause-none
returns-in_default-clause-none c =
    let shards = c.args.self.now.shards.items in
    let lists = c.loop-place.lists.items in
    let first = c.args.lists.now.items in
    let place = c.loop-place.place in
    let was = c.loop-place.invariant in
    let end : c.len-place-end.result ≡ length shards = search rules in
    let test = c.loop-place-test.true in
    let given = as_long shards first c.requires.passes in
    let below : place < length first = omega (arith, test, end, given) in
    let one = c.index_mut.result.now in
    (place, one, below, sym (c.index_mut.ensures.value ∙ same_there first lists place one below was.still was.rest), c.in_default.ensures.taken)

pub returns-clause-taken : goal.returns-clause-taken
returns-clause-taken c =
    let shards = c.args.self.now.shards.items in
    let first = c.args.lists.now.items in
    let was = c.loop-place.invariant in
    let end : c.len-place-end.result ≡ length shards = search rules in
    let over = c.loop-place-test.false in
    let within = c.loop-place.auto.place-end in
    let given = as_long shards first c.requires.passes in
    all_three is_taken c.loop-place.shards.items first c.loop-place.lists.items c.loop-place.place (omega (arith, end, over, within, given)) was.still was.taken

pub returns-clause-client : goal.returns-clause-client
returns-clause-client c =
    let shards = c.args.self.now.shards.items in
    let end : c.len-place-end.result ≡ length shards = search rules in
    let over = c.loop-place-test.false in
    let within = c.loop-place.auto.place-end in
    record {
      shards = all_clients shards c.loop-place.shards.items c.loop-place.place (omega (arith, end, over, within)) c.loop-place.invariant.made;
      clock = refl;
      holds = refl;
    }
