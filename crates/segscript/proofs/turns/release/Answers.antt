use Rattle.std.proofs.Common.{subst}
use Rattle.segscript.specs.Passes.{IsHoldKept}
use Rattle.segscript.proofs.Turning.{release_turn}
use Rattle.segscript.proofs.turns.release.Goals as goal

pub returns-in-Some-clause-turn : goal.returns-in-Some-clause-turn
returns-in-Some-clause-turn c = let b = c.args.index.now.board in let p = c.args.pass.now in
    let kept = subst (λ kept. IsHoldKept b.shape kept p) c.in-Some.is c.requires.hold in
    release_turn b p c.release.new.pass c.in-Some.hold kept c.release.ensures.releases
