use Rattle.std.proofs.Common.{◌∙◌, ◌++◌, List, ℕ, ap, codes}
use Rattle.segcli.specs.BadLines.{part_text, place_text}
use Rattle.segcli.proofs.TotalsText.{put_bytes, if_ok}
use Rattle.segcli.proofs.bad_line.put_missing.Goals as goal

pub returns : goal.returns
returns c = let old : List ℕ = c.args.text.now.items in
    let named = c.in_ok-put.ensures.text ∙ ap (λ l. c.put_place.new.text.items ++ l) c.part_text.ensures in
    record {
      text = if_ok c.put-2.result (λ _ more. put_bytes old _ (codes " is missing")
          (put_bytes old (place_text c.args.place) (part_text c.args.part) c.in_ok-put_place.ensures.text named) more) c.put-2.ensures.text;
    }
