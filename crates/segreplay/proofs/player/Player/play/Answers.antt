use Rattle.std.proofs.lemmas.List.{take_all}
use Rattle.segreplay.proofs.Steps.{plays_next}
use Rattle.segreplay.proofs.player.Player.play.Goals as goal

pub loop-turn-preserved : goal.loop-turn-preserved
loop-turn-preserved c =
    plays_next c.args.turns.now c.loop-turn.turn-index c.turn-item.result c.args.self.now c.loop-turn.self c.take_own.new.self
    c.loop-turn-test.true c.turn-item.is c.loop-turn.invariant c.take_own.ensures

pub returns : goal.returns
returns c = rw (take_all c.loop-turn.turn-index c.args.turns.now c.loop-turn-test.false) at c.loop-turn.invariant
