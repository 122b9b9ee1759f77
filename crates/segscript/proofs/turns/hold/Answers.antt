use Rattle.segread.specs.declared.held.HoldAnswer.TheVariants as answer
use Rattle.segscript.proofs.Turning.{hold_turn}
use Rattle.segscript.proofs.turns.hold.Goals as goal

pub returns-in-None-clause-turn : goal.returns-in-None-clause-turn
returns-in-None-clause-turn c = hold_turn c.args.index.now.board c.args.pass.now c.hold.new.pass c.args.key.now c.args.now (answer.Holding c.in-Holding.hold) c.in-Holding.ensures.holds

pub returns-in-Miss-clause-turn : goal.returns-in-Miss-clause-turn
returns-in-Miss-clause-turn c = hold_turn c.args.index.now.board c.args.pass.now c.hold.new.pass c.args.key.now c.args.now answer.Miss c.in-Miss.ensures.holds

pub returns-in-Busy-clause-turn : goal.returns-in-Busy-clause-turn
returns-in-Busy-clause-turn c = hold_turn c.args.index.now.board c.args.pass.now c.hold.new.pass c.args.key.now c.args.now answer.Busy c.in-Busy.ensures.holds

pub returns-in-AlreadyHolding-clause-turn : goal.returns-in-AlreadyHolding-clause-turn
returns-in-AlreadyHolding-clause-turn c = hold_turn c.args.index.now.board c.args.pass.now c.hold.new.pass c.args.key.now c.args.now answer.AlreadyHolding c.in-AlreadyHolding.ensures.holds
