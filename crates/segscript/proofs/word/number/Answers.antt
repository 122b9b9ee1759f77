use Rattle.std.proofs.Common.{sym, ◌∙◌}
use Rattle.segscript.proofs.Numbers.{none-decimal, none-plain, some-decimal}
use Rattle.segscript.proofs.word.number.Goals as goal

pub returns-then-has_leading_zero : goal.returns-then-has_leading_zero
returns-then-has_leading_zero c = none-plain c.args.word.now (sym c.has_leading_zero.ensures ∙ c.if-has_leading_zero.true)

pub returns-in_err-number : goal.returns-in_err-number
returns-in_err-number c = rw c.from_residual.ensures (none-decimal c.args.word.now (sym c.in_err-number.ensures.number))

pub returns : goal.returns
returns c =
    let small = c.in_ok-number.ensures.below in
    (small, some-decimal c.args.word.now c.in_ok-number.number (sym c.has_leading_zero.ensures ∙ c.if-has_leading_zero.false) (sym c.in_ok-number.ensures.number) small)
