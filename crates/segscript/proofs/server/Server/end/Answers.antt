use Rattle.std.proofs.Common.{◌≡◌, ◌∷◌, ◌++◌, ◌+◌, ◌≤◌, ℕ, [], length, set, slice_get, slice_index_or, Option, Some, Vec, Global, refl, sym, ap, subst, ◌∙◌, arith}
use Rattle.std.proofs.lemmas.List.{length-set, length_push}
use Rattle.std.proofs.lemmas.Option.{slice_get_read, slice_get_within}
use Rattle.segbase.specs.Words.{Board, Pass}
use Rattle.segread.specs.Words.{Hold}
use Rattle.segscript.specs.Passes.{IsIdle, AreInOrder}
use Rattle.segscript.proofs.Leaving.{all_left, all_quiet_then, LeftFrom, none_left, one_left}
use Rattle.segscript.proofs.Servers.{NoneKeepsFrom, last_idle, rest_in_order, one_more_left}
use Rattle.segscript.proofs.server.Server.end.Goals as goal

there : (passes : Vec Pass Global) (holds rest : Vec (Option Hold) Global) (hold : Option Hold) (p : Pass) (n : ℕ) → length holds.items ≤ length passes.items
    → holds.items ≡ rest.items ++ hold ∷ [] → n ≡ rest.len → p ≡ slice_index_or passes.items n p → slice_get passes.items (length rest.items) ≡ Some p
there passes holds rest hold p n few items len value =
    let more : length holds.items ≡ length rest.items + 1 = ap length items ∙ length_push rest.items hold in
    let here : n ≡ length rest.items = len ∙ rest.ok.0 in
    ap (slice_get passes.items) (sym here) ∙ slice_get_read passes.items (length passes.items) n p refl (omega arith) value

idle : (b : Board) (passes : Vec Pass Global) (holds rest : Vec (Option Hold) Global) (hold : Option Hold)
    (p : Pass) (n : ℕ) → AreInOrder b passes.items holds.items → length holds.items ≤ length passes.items
    → holds.items ≡ rest.items ++ hold ∷ [] → n ≡ rest.len → p ≡ slice_index_or passes.items n p → IsIdle b hold p
idle b passes holds rest hold p n in_order few items len value =
    last_idle b passes.items rest.items hold p (subst (AreInOrder b passes.items) items in_order)
    (there passes holds rest hold p n few items len value)

pub loop-hold-init : goal.loop-hold-init
loop-hold-init c =
    let ready = c.requires.ready in
    record {
      all = ready.all;
      few = let all = ready.all in let holds = ready.holds in omega arith;
      in_order = ready.in_order;
      left = λ n p le at. let within = slice_get_within c.args.self.passes.items n p at in let all = ready.all in let holds = ready.holds in absurd (omega arith);
      leave = none_left c.args.self.index.now.board (length c.args.self.holds.items) c.args.self.passes.items (let all = ready.all in let holds = ready.holds in omega arith);
    }

pub index_mut-requires : goal.index_mut-requires
index_mut-requires c =
    let rest = c.pop.new.self in
    let more : length c.loop-hold.holds.items ≡ length rest.items + 1 = ap length c.in-Some.ensures.items ∙ length_push rest.items c.in-Some.hold in
    let here : c.len.result ≡ length rest.items = c.len.ensures ∙ rest.ok.0 in
    let few = c.loop-hold.invariant.few in
    let long : c.loop-hold.passes.len ≡ length c.loop-hold.passes.items = c.loop-hold.passes.ok.0 in
    omega arith

pub leave-requires-clause-quiet : goal.leave-requires-clause-quiet
leave-requires-clause-quiet c = (idle c.args.self.index.now.board c.loop-hold.passes c.loop-hold.holds
    c.pop.new.self c.in-Some.hold c.index_mut.result.now c.len.result c.loop-hold.invariant.in_order
    c.loop-hold.invariant.few c.in-Some.ensures.items c.len.ensures c.index_mut.ensures.value).quiet

pub leave-requires-clause-hold : goal.leave-requires-clause-hold
leave-requires-clause-hold c = (idle c.args.self.index.now.board c.loop-hold.passes c.loop-hold.holds c.pop.new.self
    c.in-Some.hold c.index_mut.result.now c.len.result c.loop-hold.invariant.in_order c.loop-hold.invariant.few
    c.in-Some.ensures.items c.len.ensures c.index_mut.ensures.value).hold

pub loop-hold-preserved : goal.loop-hold-preserved
loop-hold-preserved c =
    let b = c.args.self.index.now.board in
    let passes = c.loop-hold.passes.items in
    let rest = c.pop.new.self in
    let q = c.leave.new.pass in
    let before = c.loop-hold.invariant in
    let old = c.args.self.passes.items in
    let p = c.index_mut.result.now in
    let at = there c.loop-hold.passes c.loop-hold.holds rest c.in-Some.hold p c.len.result before.few c.in-Some.ensures.items c.len.ensures c.index_mut.ensures.value in
    let here : c.len.result ≡ length rest.items = c.len.ensures ∙ rest.ok.0 in
    let more : length c.loop-hold.holds.items ≡ length rest.items + 1 = ap length c.in-Some.ensures.items ∙ length_push rest.items c.in-Some.hold in
    record {
      all = length-set passes c.len.result q ∙ before.all;
      few = let few = before.few in let same = length-set passes c.len.result q in omega arith;
      in_order = subst (λ n. AreInOrder b (set passes n q) rest.items) (sym here)
          (rest_in_order b passes rest.items c.in-Some.hold q
          (subst (AreInOrder b passes) c.in-Some.ensures.items before.in_order));
      left = subst (λ n. NoneKeepsFrom (length rest.items) (set passes n q)) (sym here)
          (one_more_left passes (length rest.items) q c.leave.ensures.left
          (subst (λ n. NoneKeepsFrom n passes) more before.left));
      leave = subst (λ n. LeftFrom b (length rest.items) old (set passes n q)) (sym here)
          (one_left b (length rest.items) old passes p q (subst (λ n. LeftFrom b n old passes) more before.leave) at
          c.leave.ensures.leaves);
    }

pub returns-clause-all : goal.returns-clause-all
returns-clause-all c = c.loop-hold.invariant.all

pub returns-clause-left : goal.returns-clause-left
returns-clause-left c =
    let none : c.loop-hold.holds.len ≡ 0 = c.in_default.ensures.cases.0 in
    let long : c.loop-hold.holds.len ≡ length c.loop-hold.holds.items = c.loop-hold.holds.ok.0 in
    λ n p at. c.loop-hold.invariant.left n p (omega arith) at

pub returns-clause-leave : goal.returns-clause-leave
returns-clause-leave c =
    let b = c.args.self.index.now.board in
    let none : c.loop-hold.holds.len ≡ 0 = c.in_default.ensures.cases.0 in
    let long : c.loop-hold.holds.len ≡ length c.loop-hold.holds.items = c.loop-hold.holds.ok.0 in
    let old = c.args.self.passes.items in
    let new = c.loop-hold.passes.items in
    all_left b old new (c.loop-hold.invariant.all ∙ sym c.requires.ready.all) (subst (λ n. LeftFrom b n old new) (sym long ∙ none) c.loop-hold.invariant.leave)

pub returns-clause-quiet : goal.returns-clause-quiet
returns-clause-quiet c = all_quiet_then c.args.self c.loop-hold.passes.items c.requires.ready (returns-clause-leave c)
