use Rattle.std.proofs.Common.{subst, sym}
use Rattle.segscript.proofs.Looking.{finds_found, finds_own, none_there}
use Rattle.segscript.specs.Explaining.{HasLookedFor, look_at}
use Rattle.segscript.proofs.explain.Explaining.bad_line.Goals as goal

pub returns-then-is_some : goal.returns-then-is_some
returns-then-is_some g c = λ seen looked. let own = c.args.self.now in finds_found own.passes own.line own.number own.bad seen (sym c.if-is_some.ensures) looked

pub returns : goal.returns
returns g c = λ seen looked.
    let own = c.args.self.now in
    finds_own own.passes own.line own.number c.fault_of_line.result seen c.fault_of_line.ensures
    (subst (λ bad. HasLookedFor (look_at own.passes own.line own.number bad) bad seen) (none_there own.bad (sym c.if-is_some.ensures)) looked)
