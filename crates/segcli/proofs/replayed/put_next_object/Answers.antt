use Rattle.std.proofs.Common.{codes}
use Rattle.segcli.specs.Replayed.{cache_object}
use Rattle.segcli.proofs.TotalsText.{put_bytes, if_ok}
use Rattle.segcli.proofs.replayed.put_next_object.Goals as goal

pub returns : goal.returns
returns c = record {
  text = if_ok c.put_object.result (λ _ more. put_bytes c.args.text.now.items (codes ",") (cache_object c.args.totals.now) c.in_ok-put.ensures.text more) c.put_object.ensures.text;
}
