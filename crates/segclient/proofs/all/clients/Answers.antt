use Rattle.std.proofs.Common.{◌≡◌, List, [], ◌∷◌, ◌++◌, Some, sym, ap, ◌∙◌, subst, append_assoc, arith}
use Rattle.std.specs.List.{AllZip}
use Rattle.std.specs.Vec.Iter.{into_iter_items}
use Rattle.std.proofs.lemmas.List.{append-nil, nil_from_length}
use Rattle.std.proofs.lemmas.List.Elements.{All-rest}
use Rattle.segindex.specs.Words.{board_of, IsNew}
use Rattle.segstore.specs.Words.{IsQuiet}
use Rattle.segclient.specs.declared.client.Client.{Client}
use Rattle.segclient.specs.Client.{Starts}
use Rattle.segclient.proofs.Places.{zip_push}
use Rattle.segclient.proofs.Together.{all_clients}
use Rattle.segclient.proofs.all.clients.Goals as goal

pub loop-pass-preserved : goal.loop-pass-preserved
loop-pass-preserved c =
    let was = c.loop-pass.invariant in
    let steps = c.in-Some.ensures.steps in
    let pushed = c.push_reserved.ensures in
    let room = was.room in
    let pass = c.in-Some.pass in
    let yielded = c.loop-pass.yielded in
    let rest = into_iter_items c.next.new.self in
    record {
      can = tt;
      finite = tt;
      room = omega (arith, steps.1, pushed.len, pushed.capacity);
      quiet = All-rest (IsQuiet (board_of c.args.index.now)) pass _ _ steps.0 was.quiet;
      all = was.all ∙ ap (λ l. yielded ++ l) steps.0 ∙ sym (append_assoc yielded (pass ∷ []) rest);
      exact = pushed.capacity ∙ was.exact;
      made = subst (AllZip (Starts c.args.index.now (Some 0)) (yielded ++ pass ∷ [])) (sym {A = List Client} pushed.items)
          (zip_push (Starts c.args.index.now (Some 0)) yielded c.loop-pass.clients.items pass c.in_ok-with_queues.field-0 was.made c.in_ok-with_queues.ensures.starts);
    }

pub returns-clause-all : goal.returns-clause-all
returns-clause-all c = λ shape new.
    let was = c.loop-pass.invariant in
    let yielded = c.loop-pass.yielded in
    let rest = c.loop-pass.pass-iterator.rest in
    let none = nil_from_length rest.items (sym rest.ok.0 ∙ c.in-None.ensures.steps.0) in
    let all : c.args.passes.items ≡ yielded = was.all ∙ ap (λ l. yielded ++ l) none ∙ append-nil yielded in
    all_clients shape c.args.index.now yielded c.loop-pass.clients.items (subst (IsNew shape c.args.index.now) all new) was.made
