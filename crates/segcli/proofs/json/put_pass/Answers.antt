use Rattle.std.proofs.Common.{◌++◌, ◌∙◌, List, ℕ, ap, refl, codes, decimal}
use Rattle.segcli.specs.Totals.{json_start, json_tallies}
use Rattle.segcli.proofs.TotalsText.{put_more, put_bytes, if_ok}
use Rattle.segcli.proofs.json.put_pass.Goals as goal

pub returns : goal.returns
returns c = let old : List ℕ = c.args.text.now.items in let n = c.args.number in
    let first = c.in_ok-put_count.ensures.text ∙ ap (λ before. old ++ before ++ decimal n) c.start.ensures in
    record {
      text = if_ok c.put.result (λ _ more. put_bytes old _ (codes "}") (put_bytes old _ (json_tallies c.args.pass.now.tallies)
          (put_more old _ (codes ",\"commands\":") (decimal c.args.pass.now.commands)
          (put_bytes old (json_start n) (decimal n) refl first) c.in_ok-put_count-2.ensures.text)
          c.in_ok-put_tallies.ensures.text) more) c.put.ensures.text;
    }
