use Rattle.std.proofs.Common.{subst}
use Rattle.segscript.specs.Passes.{IsHoldKept}
use Rattle.segscript.proofs.Turning.{held_turn}
use Rattle.segscript.proofs.turns.read_held.Goals as goal

pub returns-in-Some-clause-turn : goal.returns-in-Some-clause-turn
returns-in-Some-clause-turn c = let b = c.args.index.now.board in let p = c.args.pass.now in
    let kept = subst (λ kept. IsHoldKept b.shape kept p) c.in-Some.is c.requires.hold in
    held_turn b p c.held_value.new.pass c.in-Some.hold c.held_value.result kept c.held_value.ensures.reads
