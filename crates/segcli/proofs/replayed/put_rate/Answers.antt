use Rattle.std.proofs.Common.{◌++◌, ◌∙◌, ◌/◌, ◌%◌, List, ℕ, ap, refl, decimal}
use Rattle.segcli.proofs.TotalsText.{put_more, put_bytes, if_ok}
use Rattle.segcli.proofs.replayed.put_rate.Goals as goal

pub returns : goal.returns
returns c =
    let rate = c.args.rate in
    let name = c.args.name.now in
    let old : List ℕ = c.args.text.now.items in
    let one = put_bytes old name (decimal (rate / 100)) refl c.in_ok-put_count.ensures.text in
    record {
      text = if_ok c.put_count-2.result (λ _ more. put_more old _ c.point.result.now (decimal (rate % 100)) one more
          ∙ ap (λ p. old ++ (name ++ decimal (rate / 100) ++ p ++ decimal (rate % 100))) c.point.ensures) c.put_count-2.ensures.text;
    }
