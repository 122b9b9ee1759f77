use Rattle.std.proofs.Common.{◌≡◌, false, length, slice_get, Some, refl, sym, ap, subst, ◌∙◌, arith, below_more}
use Rattle.std.proofs.lemmas.Option.{slice_get_read, slice_get_within, same_Some}
use Rattle.segload.specs.Words.{Worker}
use Rattle.segload.proofs.load.first_stopped.Goals as goal

pub returns-then-worker-clause-some : goal.returns-then-worker-clause-some
returns-then-worker-clause-some c =
    let items = c.deref-worker-items in
    let i = c.loop-worker.worker-index in
    let at = slice_get_read items.result.now (length items.result.now) i c.worker-item.result refl c.loop-worker-test.true c.worker-item.is in record {
      place = i;
      worker = c.worker-item.result;
      there = ap (λ l. slice_get l i) (sym items.ensures.value) ∙ at;
      stopped = c.if-worker.true;
      of = c.number.ensures;
      first = λ n lower below there. c.loop-worker.invariant n lower there below;
    }

pub loop-worker-preserved : goal.loop-worker-preserved
loop-worker-preserved c n worker at below =
    let items = c.deref-worker-items in
    let i = c.loop-worker.worker-index in
    let here = slice_get_read items.result.now (length items.result.now) i c.worker-item.result refl c.loop-worker-test.true c.worker-item.is in
    let there = ap (λ l. slice_get l i) (sym items.ensures.value) ∙ here in
    below_more (λ k. (w : Worker) → slice_get c.args.workers.now.items k ≡ Some w → w.is_stopped ≡ false) i
    (λ k lt w there. c.loop-worker.invariant k w there lt)
    (λ w other. subst (λ (x : Worker). x.is_stopped ≡ false) (same_Some c.worker-item.result w (sym there ∙ other)) c.if-worker.false) n below worker at

pub returns-clause-none : goal.returns-clause-none
returns-clause-none c none n worker at =
    let within = slice_get_within c.args.workers.now.items n worker at in
    c.loop-worker.invariant n worker at (omega (arith, ap length c.deref-worker-items.ensures.value, c.loop-worker-test.false))
