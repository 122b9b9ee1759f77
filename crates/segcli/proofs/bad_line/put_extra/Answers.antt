use Rattle.std.proofs.Common.{List, ℕ, codes}
use Rattle.segcli.specs.BadLines.{place_text}
use Rattle.segcli.proofs.TotalsText.{put_bytes, if_ok}
use Rattle.segcli.proofs.bad_line.put_extra.Goals as goal

pub returns : goal.returns
returns c = let old : List ℕ = c.args.text.now.items in record {
  text = if_ok c.put.result (λ _ more. put_bytes old (place_text c.args.place) (codes "no word stands here") c.in_ok-put_place.ensures.text more) c.put.ensures.text;
}
