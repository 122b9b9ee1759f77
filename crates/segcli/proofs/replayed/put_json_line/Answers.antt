use Rattle.std.proofs.Common.{codes}
use Rattle.segcli.specs.Replayed.{replay_json}
use Rattle.segcli.proofs.TotalsText.{put_bytes, if_ok}
use Rattle.segcli.proofs.replayed.put_json_line.Goals as goal

pub returns : goal.returns
returns c = record {
  text = if_ok c.put.result (λ _ more. put_bytes c.args.text.now.items (replay_json c.args.totals.now) (codes "\n") c.in_ok-put_json.ensures.text more) c.put.ensures.text;
}
