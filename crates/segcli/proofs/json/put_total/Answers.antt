use Rattle.std.proofs.Common.{List, ℕ, refl, codes, decimal}
use Rattle.segcli.proofs.TotalsText.{put_more, put_bytes, if_ok}
use Rattle.segcli.proofs.json.put_total.Goals as goal

pub returns : goal.returns
returns c = let old : List ℕ = c.args.text.now.items in record {
  text = if_ok c.put.result (λ _ more. put_bytes old _ (codes "}}\n") (put_more old _ (codes ",\"keys\":") (decimal c.args.keys)
      (put_bytes old (codes "],\"total\":{\"commands\":") (decimal c.args.commands) refl c.in_ok-put_count.ensures.text) c.in_ok-put_count-2.ensures.text) more) c.put.ensures.text;
}
