use Rattle.std.proofs.Common.{◌∙◌, ◌++◌, [], ap, codes, decimal}
use Rattle.segcli.specs.BadLines.{fault_text}
use Rattle.segcli.proofs.TotalsText.{put_bytes}
use Rattle.segcli.proofs.bad_line.bad_line_text.Goals as goal

pub returns : goal.returns
returns c =
    let one = c.in_ok-put_count.ensures.text ∙ ap (λ l. l ++ codes "line " ++ decimal c.args.bad.number) c.new-text.ensures.items in
    let two = put_bytes [] _ (fault_text c.args.bad.fault) one c.in_ok-put_fault.ensures.text in
    record { text = put_bytes [] _ (codes "\n") two c.in_ok-put.ensures.text }
