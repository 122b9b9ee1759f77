use Rattle.std.proofs.Common.{sym, ◌∙◌, arith}
use Rattle.std.proofs.lemmas.Grind.{same_number_lists}
use Rattle.segword.specs.Row.{row_of}
use Rattle.segword.proofs.RowLemmas.{length-row_of}
use Rattle.segword.proofs.row.row_words.Goals as goal

pub returns : goal.returns
returns c =
    let key = c.new-key.result in
    let value = c.of-value.result in
    same_number_lists c.loop-place.word-items (row_of key value)
    (c.loop-place.invariant.len ∙ sym (length-row_of key value))
    (λ k h. c.loop-place.invariant.made k (omega arith))
    ∙ (λ i. row_of (c.new-key.ensures.value i) (c.of-value.ensures.value i))
