use Rattle.std.proofs.Common.{◌≡◌, ◌∷◌, ◌++◌, ◌∙◌, [], All, ap, append_assoc, append-nil, subst, sym}
use Rattle.std.specs.List.{AllZip}
use Rattle.std.specs.Vec.Iter.{into_iter_items}
use Rattle.std.proofs.lemmas.List.{nil_from_length}
use Rattle.std.proofs.lemmas.List.Elements.{All-head, All-rest}
use Rattle.segclient.proofs.Places.{zip_push}
use Rattle.segindex.specs.Words.{board_of}
use Rattle.segstore.specs.Words.{IsQuiet}
use Rattle.segreplay.specs.Caches.{IsFresh, SetsPolicy}
use Rattle.segreplay.proofs.cache.add_players.Goals as goal

pub loop-pass-preserved : goal.loop-pass-preserved
loop-pass-preserved c =
    let was = c.loop-pass.invariant in
    let steps = c.in-Some.ensures.steps in
    let start = c.args.start in
    let pass = c.in-Some.pass in
    let quiet = All-rest (IsQuiet (board_of c.args.index.now)) pass _ _ steps.0 was.quiet in
    let fresh : IsFresh start.place start.value.now start.policy c.args.index.now pass c.new.result = record {
      cache = c.new.ensures.cache;
      number = c.new.ensures.number ∙ (c.number-number.ensures
          ∙ (All-head (IsQuiet (board_of c.args.index.now)) pass _
          (subst (All (IsQuiet (board_of c.args.index.now))) steps.0 was.quiet)).pass.numbered);
      puts = c.new.ensures.value ∙ c.copy.ensures.value;
      none = c.new.ensures.counts;
      first = c.in_ok-client.client;
      starts = c.in_ok-client.ensures.starts;
      keeps = subst (SetsPolicy start.policy c.in_ok-client.client) (sym c.new.ensures.client) c.set_policy.ensures;
    } in
    record {
      can = tt;
      finite = tt;
      quiet = quiet;
      all = was.all ∙ ap (λ l. c.loop-pass.yielded ++ l) steps.0 ∙ sym (append_assoc c.loop-pass.yielded (pass ∷ []) (into_iter_items c.next.new.self));
      fresh = (
        was.fresh.0 ++ c.new.result ∷ [],
        c.in_ok-push.ensures.items ∙ ap (λ l. l ++ c.new.result ∷ []) was.fresh.1 ∙ append_assoc c.args.players.now.items was.fresh.0 (c.new.result ∷ []),
        zip_push (IsFresh start.place start.value.now start.policy c.args.index.now) c.loop-pass.yielded was.fresh.0 pass c.new.result was.fresh.2 fresh,
      );
    }

pub returns : goal.returns
returns c =
    let was = c.loop-pass.invariant in
    let yielded = c.loop-pass.yielded in
    let rest = c.loop-pass.pass-iterator.rest in
    let none = nil_from_length rest.items (sym rest.ok.0 ∙ c.in-None.ensures.steps.0) in
    let all : c.args.passes.items ≡ yielded = was.all ∙ ap (λ l. yielded ++ l) none ∙ append-nil yielded in
    (was.fresh.0, was.fresh.1, subst (λ passes. AllZip (IsFresh c.args.start.place c.args.start.value.now c.args.start.policy c.args.index.now) passes was.fresh.0) (sym all) was.fresh.2)
