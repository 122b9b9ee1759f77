use Rattle.std.proofs.Common.{◌∙◌, ◌++◌, List, ℕ, ap, codes}
use Rattle.segcli.specs.Stats.{counted_line, evictions}
use Rattle.segcli.proofs.TotalsText.{put_bytes, if_ok}
use Rattle.segcli.proofs.stats.put_recycled.Goals as goal

pub returns : goal.returns
returns c =
    let old : List ℕ = c.args.text.now.items in
    let totals = c.args.totals.now in
    let evicted : ℕ → List ℕ = λ n. counted_line (codes "evictions: ") n in
    let refilled : ℕ → List ℕ = λ n. counted_line (codes "refillings: ") n in
    let first = evicted c.evictions.result in
    let second = refilled c.refillings.result in
    record {
      text = if_ok c.put_line-2.result (λ _ more. put_bytes old first second c.in_ok-put_line.ensures.text more
          ∙ (ap (λ n. old ++ (evicted n ++ second)) c.evictions.ensures
          ∙ ap (λ n. old ++ (evicted (evictions totals) ++ refilled n)) c.refillings.ensures)) c.put_line-2.ensures.text;
    }
