use Rattle.std.proofs.Common.{List, ℕ, refl, codes, decimal}
use Rattle.segcli.specs.Totals.{tallies_text}
use Rattle.segcli.proofs.TotalsText.{put_more, put_bytes, if_ok}
use Rattle.segcli.proofs.totals.put_pass.Goals as goal

pub returns : goal.returns
returns c = let old : List ℕ = c.args.text.now.items in record {
  text = if_ok c.put.result (λ _ more. put_bytes old _ (codes "\n") (put_bytes old _ (tallies_text c.args.pass.now.tallies)
      (put_more old _ (codes " commands=") (decimal c.args.pass.now.commands)
      (put_bytes old (codes "p") (decimal c.args.number) refl c.in_ok-put_count.ensures.text) c.in_ok-put_count-2.ensures.text)
      c.in_ok-put_tallies.ensures.text) more) c.put.ensures.text;
}
