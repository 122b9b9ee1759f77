use Rattle.std.proofs.Common.{◌∙◌, ap, sym, None, if◌then◌else◌, ◌^◌}
use Rattle.std.proofs.lemmas.List.Elements.{recursion_from_All}
use Rattle.segtext.specs.Digits.{number_below}
use Rattle.segtraces.specs.Words.{whole_named}
use Rattle.segtraces.proofs.Wholes.{whole_alone, whole_with_part}
use Rattle.segtraces.proofs.word.whole_of.Goals as goal

pub returns-in-None : goal.returns-in-None
returns-in-None c = c.number_below.ensures.number ∙ whole_alone c.args.text.now (recursion_from_All _ c.args.text.now c.in-None.ensures)

pub returns-then-are_digits : goal.returns-then-are_digits
returns-then-are_digits c =
    let whole = c.in-Some.whole.now in
    c.number_below-then-are_digits.ensures.number
    ∙ sym (ap (λ b. if b then number_below (2 ^ 60) whole else None) (sym c.are_digits.ensures ∙ c.if-are_digits.true))
    ∙ whole_with_part whole c.in-Some.part.now (recursion_from_All _ whole c.in-Some.ensures.1)
    ∙ sym (ap whole_named c.in-Some.ensures.0)

pub returns-else-are_digits : goal.returns-else-are_digits
returns-else-are_digits c =
    let whole = c.in-Some.whole.now in
    sym (ap (λ b. if b then number_below (2 ^ 60) whole else None) (sym c.are_digits.ensures ∙ c.if-are_digits.false))
    ∙ whole_with_part whole c.in-Some.part.now (recursion_from_All _ whole c.in-Some.ensures.1)
    ∙ sym (ap whole_named c.in-Some.ensures.0)
