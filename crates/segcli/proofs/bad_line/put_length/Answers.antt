use Rattle.std.proofs.Common.{◌≡◌, ◌++◌, ◌∙◌, List, ℕ, ap, codes, decimal, sym}
use Rattle.std.proofs.lemmas.List.{append_assoc}
use Rattle.segcli.proofs.TotalsText.{put_bytes, if_ok}
use Rattle.segcli.proofs.bad_line.put_length.Goals as goal

regrouped : (name length of most end : List ℕ) → name ++ length ++ of ++ (most ++ end) ≡ name ++ (length ++ of ++ most ++ end)
regrouped name length of most end =
    sym (append_assoc (name ++ length ++ of) most end) ∙ (ap (λ l. l ++ most ++ end) (append_assoc name length of)
    ∙ (ap (λ l. l ++ end) (append_assoc name (length ++ of) most) ∙ append_assoc name (length ++ of ++ most) end))

pub returns : goal.returns
returns c =
    let old : List ℕ = c.args.text.now.items in
    let name : List ℕ = c.args.name.now in
    let length : List ℕ = decimal c.args.length in
    let most : List ℕ = decimal c.args.most in
    record {
      text = if_ok c.put_number-2.result (λ _ more. put_bytes old (name ++ length ++ codes " bytes, of ") (most ++ codes " at most") c.in_ok-put_number.ensures.text more
          ∙ ap (λ l. old ++ l) (regrouped name length (codes " bytes, of ") most (codes " at most"))) c.put_number-2.ensures.text;
    }
