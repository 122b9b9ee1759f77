use Rattle.std.proofs.Common.{ap, ◌∙◌}
use Rattle.segbase.specs.Words.{holding}
use Rattle.seghandles.proofs.Released.{free_pass}
use Rattle.seghandles.proofs.guest.Guest.into_pass.Goals as goal

pub returns-clause-pass : goal.returns-clause-pass
returns-clause-pass c =
    let next = c.release.new.self in
    record {
      next = next;
      ends = c.release.ensures.ends;
      pass = c.into_pass.ensures;
      free = ap holding c.into_pass.ensures ∙ free_pass c.args.self next c.release.ensures.ends;
    }
