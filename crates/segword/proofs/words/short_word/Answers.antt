use Rattle.std.proofs.Common.{◌-◌, length, ap, ◌∙◌, rules, arith}
use Rattle.std.proofs.lemmas.List.{length-take-le, length-drop}
use Rattle.segword.specs.Row.{word_of}
use Rattle.segword.proofs.WordLemmas.{AreBytes, read_4, joined_4}
use Rattle.segword.proofs.words.short_word.Goals as goal

pub returns-then-len-ge4 : goal.returns-then-len-ge4
returns-then-len-ge4 c =
    let bytes = c.args.bytes.now in
    let are_bytes : AreBytes bytes = record { at = λ i. search (rules, c.type_inv.bytes i) } in
    let first = c.ends.ensures.first in
    let last = c.ends.ensures.last in
    joined_4 bytes _ _ are_bytes (omega arith) c.requires
    (c.from-then-len-ge4.ensures ∙ c.from_le_bytes-then-len-ge4.ensures ∙ read_4 _ (ap length first ∙ length-take-le 4 bytes (omega arith)) ∙ ap word_of first)
    (c.from.ensures ∙ c.from_le_bytes.ensures ∙ read_4 _ (omega (arith, ap length last, length-drop (length bytes - 4) bytes)) ∙ ap word_of last)
