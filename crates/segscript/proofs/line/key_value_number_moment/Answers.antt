use Rattle.std.proofs.Common.{◌∙◌, arith}
use Rattle.std.proofs.lemmas.List.{get_or-map, length-map}
use Rattle.segscript.proofs.WordLemmas.{four_are, none-fourth, none-number}
use Rattle.segscript.proofs.line.key_value_number_moment.Goals as goal

pub returns-in_err-now-in-len4 : goal.returns-in_err-now-in-len4
returns-in_err-now-in-len4 c =
    rw c.from_residual-in_err-now-in-len4.ensures
    (none-fourth _ _ (get_or-map (λ word. word.now) c.args.words.now 3 _ _ (omega (arith, c.in-len4.len_at_least))) c.in_err-now-in-len4.ensures)

pub returns-in_err-number-in-len4 : goal.returns-in_err-number-in-len4
returns-in_err-number-in-len4 c =
    rw c.from_residual-in_err-number-in-len4.ensures
    (none-number _ _ (get_or-map (λ word. word.now) c.args.words.now 2 _ _ (omega (arith, c.in-len4.len_at_least))) c.in_err-number-in-len4.ensures)

pub returns-in_ok-now-in-len4 : goal.returns-in_ok-now-in-len4
returns-in_ok-now-in-len4 c = (
  (c.in_ok-key-in-len4.ensures.0, c.in_ok-value-in-len4.ensures.0, c.in_ok-number-in-len4.ensures.0, c.in_ok-now-in-len4.ensures.0),
  four_are _ (omega (arith, length-map c.args.words.now (λ word. word.now), c.in-len4.len_at_least, c.in-len4.len_below))
      (get_or-map (λ word. word.now) c.args.words.now 0 _ _ (omega (arith, c.in-len4.len_at_least)) ∙ c.in_ok-key-in-len4.ensures.1)
      (get_or-map (λ word. word.now) c.args.words.now 1 _ _ (omega (arith, c.in-len4.len_at_least)) ∙ c.in_ok-value-in-len4.ensures.1)
      (get_or-map (λ word. word.now) c.args.words.now 2 _ _ (omega (arith, c.in-len4.len_at_least)) ∙ c.in_ok-number-in-len4.ensures.1)
      (get_or-map (λ word. word.now) c.args.words.now 3 _ _ (omega (arith, c.in-len4.len_at_least)) ∙ c.in_ok-now-in-len4.ensures.1),
)
