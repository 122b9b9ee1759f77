use Rattle.std.proofs.Common.{List, ℕ}
use Rattle.segcli.specs.BadLines.{place_text, word_fault_text}
use Rattle.segcli.proofs.TotalsText.{put_bytes, if_ok}
use Rattle.segcli.proofs.bad_line.put_bad_word.Goals as goal

pub returns : goal.returns
returns c = let old : List ℕ = c.args.text.now.items in record {
  text = if_ok c.put_word_fault.result (λ _ more. put_bytes old (place_text c.args.place) (word_fault_text c.args.why) c.in_ok-put_place.ensures.text more) c.put_word_fault.ensures.text;
}
