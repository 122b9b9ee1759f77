use Rattle.std.proofs.Common.{◌∙◌, ◌++◌, [], ap, codes, decimal}
use Rattle.segcli.specs.Progress.{rate_text}
use Rattle.segcli.proofs.TotalsText.{put_more, put_bytes}
use Rattle.segcli.proofs.progress.progress_line.Goals as goal

pub returns : goal.returns
returns c = let made = c.args.made in let of = c.args.of in let rate = c.args.each_second in
    let one = c.in_ok-put_count.ensures.text ∙ ap (λ l. l ++ codes "" ++ decimal made) c.new-text.ensures.items in
    let two = put_more [] (decimal made) (codes " of ") (decimal of) one c.in_ok-put_count-2.ensures.text in
    let three = put_more [] _ (codes ", ") (decimal c.percent.result) two c.in_ok-put_count-3.ensures.text in
    let four = put_bytes [] _ (codes " %") three c.in_ok-put.ensures.text in
    let five = put_bytes [] _ (rate_text rate) four c.in_ok-put_rate.ensures.text in
    let six = put_bytes [] _ (codes "\n") five c.in_ok-put-2.ensures.text in
    record {
      text = six ∙ ap (λ share. decimal made ++ codes " of " ++ decimal of ++ codes ", " ++ decimal share ++ codes " %" ++ rate_text rate ++ codes "\n") c.percent.ensures;
    }
