use Rattle.std.proofs.Common.{arith}
use Rattle.std.proofs.lemmas.List.{get_or-map}
use Rattle.segscript.proofs.WordLemmas.{none-third}
use Rattle.segscript.proofs.line.key_value_moment.Goals as goal

pub returns-in_err-now-in-len3 : goal.returns-in_err-now-in-len3
returns-in_err-now-in-len3 c =
    rw c.from_residual-in_err-now-in-len3.ensures
    (none-third _ _ (get_or-map (λ word. word.now) c.args.words.now 2 _ _ (omega (arith, c.in-len3.len_at_least))) c.in_err-now-in-len3.ensures)
