use Rattle.std.proofs.Common.{◌≡◌, ◌++◌, ◌∷◌, [], suc, length, slice_get, Some, sym, ap, subst, ◌∙◌, arith}
use Rattle.segload.proofs.Ending.{AreEnds, one_more_ended}
use Rattle.segload.proofs.Lists.{all_none}
use Rattle.segload.proofs.load.end_all.Goals as goal

pub loop-worker-init : goal.loop-worker-init
loop-worker-init c =
    let into = c.into_iter-worker-iterator.ensures.into_iter_gives in
    let totals = c.in_ok-totals.ensures in
    let passes = c.in_ok-passes.ensures in
    record {
      can = tt;
      finite = tt;
      room = let len = c.len.ensures in let capacity = totals.capacity in omega (arith, into.1, totals.len);
      space = let len = c.len-2.ensures in let capacity = passes.capacity in omega (arith, into.1, passes.len);
      long = passes.len ∙ sym totals.len;
      all = omega (arith, into.1, totals.len);
      rest = λ n worker at. subst (λ m. slice_get c.args.workers.items m ≡ Some worker) (omega (arith, totals.len)) (ap (λ l. slice_get l n) (sym into.0) ∙ at);
      ends = λ n worker of pass at counted there. all_none n of (ap (λ l. slice_get l n) (sym totals.items) ∙ counted);
    }

pub end-ended-requires : goal.end-ended-requires
end-ended-requires c = record { quiet = c.requires.quiet _ c.in-Some.worker (c.loop-worker.invariant.rest 0 c.in-Some.worker (ap (λ l. slice_get l 0) c.in-Some.ensures.steps.0)) }

pub loop-worker-preserved : goal.loop-worker-preserved
loop-worker-preserved c =
    let b = c.args.index.now.board in
    let was = c.loop-worker.invariant in
    let steps = c.in-Some.ensures.steps in
    let counted = c.push_reserved.ensures in
    let kept = c.push_reserved-in-loop-worker.ensures in
    let room = was.room in
    let space = was.space in
    let long = was.long in
    let all = was.all in
    let totals = c.loop-worker.totals in
    let passes = c.loop-worker.passes in
    let workers = c.args.workers.items in
    let commands = c.args.commands in
    let ended = c.end-ended.result in
    let here : slice_get workers (length totals.items) ≡ Some c.in-Some.worker =
    subst (λ m. slice_get workers m ≡ Some c.in-Some.worker) (omega (arith, totals.ok.0))
    (was.rest 0 c.in-Some.worker (ap (λ l. slice_get l 0) steps.0)) in
    let same : length passes.items ≡ length totals.items = omega (arith, totals.ok.0, passes.ok.0, long) in
    let ends = one_more_ended b commands workers totals.items passes.items c.in-Some.worker ended.totals ended.pass same here c.end-ended.ensures was.ends in
    record {
      can = tt;
      finite = tt;
      room = omega (arith, steps.1, counted.len, counted.capacity);
      space = omega (arith, steps.1, kept.len, kept.capacity);
      long = omega (arith, counted.len, kept.len);
      all = omega (arith, steps.1, counted.len);
      rest = λ n worker at. subst (λ m. slice_get workers m ≡ Some worker) (omega (arith, counted.len)) (was.rest (suc n) worker (ap (λ l. slice_get l (suc n)) steps.0 ∙ at));
      ends = subst (λ ts. AreEnds b commands workers ts c.push_reserved-in-loop-worker.new.self.items) (sym counted.items)
          (subst (λ ps. AreEnds b commands workers (totals.items ++ ended.totals ∷ []) ps) (sym kept.items) ends);
    }
