use Rattle.std.proofs.Common.{◌*◌, arith, subst, sym}
use Rattle.std.proofs.lemmas.Result.{IfOk-weaker}
use Rattle.segshards.specs.Items.{IsPlanForItems, rows_of_mean}
use Rattle.seghandles.specs.Opening.{IsPlanToOpenItems, IsSmall}
use Rattle.seghandles.proofs.opening.plan_for_items.Goals as goal
use Rattle.seghandles.proofs.opening.plan_for_items.Goals.{else-threads-ge2-via-then-threads-ge2+else-rows-threads, else-threads-ge2-via-else-threads-ge2}

-- a cache of more rows isn't small, since a sum that was cut off is larger yet
pub returns-else-threads-ge2-clause-plan : goal.returns-else-threads-ge2-clause-plan
returns-else-threads-ge2-clause-plan c =
    let items = c.args.items in
    let threads = c.args.threads in
    let rows = rows_of_mean c.args.mean_bytes in
    let large : IsSmall (items * c.rows_of_mean.result) threads → ⊥ = λ small. elim c.else-threads-ge2.branch [
      | else-threads-ge2-via-then-threads-ge2+else-rows-threads w ↦
          let over = w.if-rows-threads in let cut = c.saturating_mul-rows.ensures in let fits = small.1 in
          omega (arith, over, cut, fits)
      | else-threads-ge2-via-else-threads-ge2 w ↦
          let one = w.if-threads-ge2 in let two = small.0 in omega (arith, one, two)
    ] in
    IfOk-weaker c.for_items.result (IsPlanForItems items rows threads) (IsPlanToOpenItems items rows threads) (λ plan is. record {
      small = λ small. absurd (large (subst (λ r. IsSmall (items * r) threads) (sym c.rows_of_mean.ensures.rows) small));
      large = λ not_small. is;
      some = is.some;
      few = is.few;
    }) c.for_items.ensures.plan
