use Rattle.std.proofs.Common.{◌++◌, List, ℕ, refl, codes, decimal}
use Rattle.segcli.proofs.TotalsText.{put_bytes, if_ok}
use Rattle.segcli.proofs.stats.put_line.Goals as goal

pub returns : goal.returns
returns c = let old : List ℕ = c.args.text.now.items in let name = c.args.name.now in let digits = decimal c.args.count in record {
  text = if_ok c.put.result (λ _ more. put_bytes old (name ++ digits) (codes "\n") (put_bytes old name digits refl c.in_ok-put_count.ensures.text) more) c.put.ensures.text;
}
