use Rattle.std.proofs.Common.{ap, sym, ◌∙◌}
use Rattle.segbase.proofs.Known.{changes}
use Rattle.segbase.proofs.Owned.{used_there}
use Rattle.segbase.proofs.pass.Pass.set_used.Goals as goal

pub returns : goal.returns
returns c = ap (λ x. record c.args.self.now { plain = x })
    (changes c.args.self.now.plain c.args.segment (λ own. record own { used = c.args.used }) c.index_mut.result.now
    (sym (used_there _) ∙ c.requires.own) c.index_mut.ensures.value)
