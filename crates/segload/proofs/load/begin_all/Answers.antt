use Rattle.std.proofs.Common.{◌≡◌, suc, length, slice_get, sym, ap, subst, ◌∙◌, arith}
use Rattle.segbase.specs.Words.{IsNewPass, number}
use Rattle.segindex.specs.Words.{shape_of}
use Rattle.segindex.proofs.Made.{each_new}
use Rattle.segload.specs.Working.{BeginsPlan}
use Rattle.segload.specs.Lists.{AllAt}
use Rattle.segload.proofs.Lists.{all_pushed, all_none}
use Rattle.segload.proofs.load.begin_all.Goals as goal

pub loop-pass-init : goal.loop-pass-init
loop-pass-init c =
    let into = c.into_iter-pass-iterator.ensures.into_iter_gives in
    let made = c.in_ok-workers.ensures in
    let new = c.requires.new in
    record {
      can = tt;
      finite = tt;
      room = let len = c.len.ensures in let capacity = made.capacity in omega (arith, into.1, made.len);
      all = omega (arith, into.1, made.len);
      rest = λ n pass at.
          let is = each_new (shape_of c.args.index.now) c.args.index.now c.args.passes.items new n pass (ap (λ l. slice_get l n) (sym into.0) ∙ at) in
          (subst (λ m. IsNewPass c.args.index.now.board m pass) (omega (arith, made.len)) is.0, is.1);
      begun = λ n worker at. all_none n worker (ap (λ l. slice_get l n) (sym made.items) ∙ at);
    }

pub new-requires-clause-quiet : goal.new-requires-clause-quiet
new-requires-clause-quiet c = (c.loop-pass.invariant.rest 0 c.in-Some.pass (ap (λ l. slice_get l 0) c.in-Some.ensures.steps.0)).1

pub new-requires-clause-new : goal.new-requires-clause-new
new-requires-clause-new c =
    let new = (c.loop-pass.invariant.rest 0 c.in-Some.pass (ap (λ l. slice_get l 0) c.in-Some.ensures.steps.0)).0 in
    subst (λ n. IsNewPass c.args.index.now.board n c.in-Some.pass) (sym new.number) new

pub loop-pass-preserved : goal.loop-pass-preserved
loop-pass-preserved c =
    let b = c.args.index.now.board in
    let was = c.loop-pass.invariant in
    let steps = c.in-Some.ensures.steps in
    let pushed = c.push_reserved.ensures in
    let room = was.room in
    let all = was.all in
    let workers = c.loop-pass.workers in
    let new = (was.rest 0 c.in-Some.pass (ap (λ l. slice_get l 0) steps.0)).0 in
    let here : number c.in-Some.pass ≡ length workers.items = new.number ∙ omega (arith, workers.ok.0) in
    record {
      can = tt;
      finite = tt;
      room = omega (arith, steps.1, pushed.len, pushed.capacity);
      all = omega (arith, steps.1, pushed.len);
      rest = λ n pass at.
          let is = was.rest (suc n) pass (ap (λ l. slice_get l (suc n)) steps.0 ∙ at) in
          (subst (λ m. IsNewPass b m pass) (omega (arith, pushed.len)) is.0, is.1);
      begun = subst (AllAt (BeginsPlan b c.args.plan)) (sym pushed.items)
          (all_pushed (BeginsPlan b c.args.plan) workers.items c.new.result was.begun (subst (λ m. BeginsPlan b c.args.plan m c.new.result) here c.new.ensures));
    }
