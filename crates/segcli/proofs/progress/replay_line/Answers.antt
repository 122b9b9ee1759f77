use Rattle.std.proofs.Common.{◌∙◌, ◌++◌, [], ap, codes, decimal}
use Rattle.segcli.specs.Progress.{rate_text}
use Rattle.segcli.proofs.TotalsText.{put_bytes}
use Rattle.segcli.proofs.progress.replay_line.Goals as goal

pub returns : goal.returns
returns c =
    let made = c.args.made in
    let rate = c.args.each_second in
    let one = c.in_ok-put_count.ensures.text ∙ ap (λ l. l ++ codes "" ++ decimal made) c.new-text.ensures.items in
    let two = put_bytes [] (decimal made) (rate_text rate) one c.in_ok-put_rate.ensures.text in
    record { text = put_bytes [] _ (codes "\n") two c.in_ok-put.ensures.text }
