use Rattle.std.proofs.Common.{take}
use Rattle.segreplay.specs.Playing.{Plays}
use Rattle.segreplay.proofs.player.Player.play.Given as goal

abbrev pub invariant-loop-turn : goal.invariant-loop-turn
invariant-loop-turn l = Plays (take l.turn-index l.turns) l.fn.self l.self
