use Rattle.std.proofs.Common.{◌∙◌, ◌++◌, List, ℕ, ap, refl, sym, codes, decimal}
use Rattle.segcli.specs.Stats.{pace_text}
use Rattle.segcli.proofs.TotalsText.{put_more, put_bytes, if_ok}
use Rattle.segcli.proofs.stats.put_pace.Goals as goal

pub returns : goal.returns
returns c = let old : List ℕ = c.args.text.now.items in let pace = c.in-Some.pace in record {
  text = if_ok c.put-2.result (λ _ more. put_bytes old _ (codes " a second\n") (put_more old _ (codes " ms, ") (decimal pace.each_second)
      (put_bytes old (codes " commands in ") (decimal pace.milliseconds) refl c.in_ok-put_count.ensures.text) c.in_ok-put_count-2.ensures.text) more
      ∙ ap (λ p. old ++ pace_text p) (sym c.in-Some.is)) c.put-2.ensures.text;
}
