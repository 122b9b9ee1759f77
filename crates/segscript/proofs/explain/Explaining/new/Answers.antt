use Rattle.std.proofs.Common.{List, ℕ, None, [], sym, subst}
use Rattle.segscript.specs.Explaining.{LooksOn, look_at}
use Rattle.segscript.proofs.Looking.{looked_none}
use Rattle.segscript.proofs.explain.Explaining.new.Goals as goal

pub returns-clause-looked : goal.returns-clause-looked
returns-clause-looked g c = subst (λ (line : List ℕ). LooksOn (look_at c.args.passes line 1 None) []) (sym c.new.ensures) (looked_none c.args.passes)
