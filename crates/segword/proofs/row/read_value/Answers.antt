use Rattle.std.proofs.Common.{◌≡◌, List, ℕ, take, ap, subst, ◌∙◌}
use Rattle.std.specs.Prelude.{IfSome, Option}
use Rattle.std.proofs.lemmas.Nat.{and_mask}
use Rattle.segword.specs.declared.value.TheConstants.{VALUE_BYTES}
use Rattle.segword.specs.Row.{bytes_of}
use Rattle.segword.proofs.RowLemmas.{take_most, value_of_row}
use Rattle.segword.proofs.row.read_value.Goals as goal

pub returns-clause-value : goal.returns-clause-value
returns-clause-value c =
    let words = c.args.words.now in
    let cut : List ℕ = take c.min-length.result c.bytes_of-bytes.result in
    subst (λ (made : Option (List ℕ)). IfSome made (λ value. value ≡ cut)) c.unwrap.ensures c.new.ensures.some
    ∙ ap (take c.min-length.result) c.bytes_of-bytes.ensures
    ∙ ap (λ (n : ℕ). take n (bytes_of words VALUE_BYTES)) c.min-length.ensures
    ∙ take_most _ words
    ∙ ap (λ (n : ℕ). take n (bytes_of words VALUE_BYTES)) (and_mask _ 16)

pub returns-clause-packed : goal.returns-clause-packed
returns-clause-packed c = λ key value k v h e.
    returns-clause-value c ∙ value_of_row key value c.args.words.now c.args.header k v h e
