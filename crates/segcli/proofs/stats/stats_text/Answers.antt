use Rattle.std.proofs.Common.{◌∙◌, ◌++◌, [], ap, codes, decimal}
use Rattle.segcli.specs.Stats.{full_advice, pace_text, recycled_text, room_advice, table_text}
use Rattle.segcli.proofs.TotalsText.{put_bytes}
use Rattle.segcli.proofs.stats.stats_text.Goals as goal

pub returns : goal.returns
returns c = let totals = c.args.totals.now in let pace = c.args.pace in
    let one = c.in_ok-put_count.ensures.text ∙ ap (λ l. l ++ codes "" ++ decimal c.commands.result) c.new-text.ensures.items in
    let two = put_bytes [] (decimal c.commands.result) (pace_text pace) one c.in_ok-put_pace.ensures.text in
    let three = put_bytes [] _ (table_text totals) two c.in_ok-put_table.ensures.text in
    let four = put_bytes [] _ (recycled_text totals) three c.in_ok-put_recycled.ensures.text in
    let five = put_bytes [] _ (full_advice totals) four c.in_ok-put_full.ensures.text in
    let six = put_bytes [] _ (room_advice totals) five c.in_ok-put_without_room.ensures.text in
    record {
      text = six ∙ ap (λ commands. decimal commands ++ pace_text pace ++ table_text totals ++ recycled_text totals ++ full_advice totals ++ room_advice totals) c.commands.ensures;
    }
