use Rattle.std.proofs.Common.{◌∙◌, ◌++◌, List, ℕ, ap, codes}
use Rattle.segcli.specs.Stats.{counted_line, overflow_buckets, used_rows}
use Rattle.segcli.proofs.TotalsText.{put_bytes, if_ok}
use Rattle.segcli.proofs.stats.put_table.Goals as goal

pub returns : goal.returns
returns c =
    let old : List ℕ = c.args.text.now.items in
    let totals = c.args.totals.now in
    let overflow : ℕ → List ℕ = λ n. counted_line (codes "overflow buckets: ") n in
    let used : ℕ → List ℕ = λ n. counted_line (codes "used rows: ") n in
    let named : ℕ → List ℕ = λ n. counted_line (codes "rows that items name: ") n in
    let first = overflow c.overflow_buckets.result in
    let second = used c.used_rows.result in
    let third = named c.from.result in
    record {
      text = if_ok c.put_line-3.result (λ _ more. put_bytes old (first ++ second) third (put_bytes old first second c.in_ok-put_line.ensures.text c.in_ok-put_line-2.ensures.text) more
          ∙ (ap (λ n. old ++ (overflow n ++ second ++ third)) c.overflow_buckets.ensures
          ∙ (ap (λ n. old ++ (overflow (overflow_buckets totals) ++ used n ++ third)) c.used_rows.ensures
          ∙ ap (λ n. old ++ (overflow (overflow_buckets totals) ++ used (used_rows totals) ++ named n)) c.from.ensures))) c.put_line-3.ensures.text;
    }
