use Rattle.std.proofs.Common.{◌∙◌, ◌++◌, List, ℕ, ap, codes}
use Rattle.segcli.specs.Stats.{advice}
use Rattle.segcli.proofs.TotalsText.{if_ok}
use Rattle.segcli.proofs.stats.put_full.Goals as goal

pub returns : goal.returns
returns c = let old : List ℕ = c.args.text.now.items in record {
  text = if_ok c.put_advice.result (λ _ more. more
      ∙ ap (λ n. old ++ advice (codes "bucketfull: ") n (codes ", raise --buckets or --overflow\n")) c.full_buckets.ensures) c.put_advice.ensures.text;
}
