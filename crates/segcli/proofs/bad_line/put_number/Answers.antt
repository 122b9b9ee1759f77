use Rattle.std.proofs.Common.{List, ℕ, refl, decimal}
use Rattle.segcli.proofs.TotalsText.{put_bytes, if_ok}
use Rattle.segcli.proofs.bad_line.put_number.Goals as goal

pub returns : goal.returns
returns c = let old : List ℕ = c.args.text.now.items in record {
  text = if_ok c.put.result (λ _ more. put_bytes old _ c.args.rest.now
      (put_bytes old c.args.name.now (decimal c.args.number) refl c.in_ok-put_count.ensures.text) more) c.put.ensures.text;
}
