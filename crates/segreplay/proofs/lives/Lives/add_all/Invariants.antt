use Rattle.std.proofs.Common.{◌≡◌, drop}
use Rattle.segreplay.specs.Lives.{lives_after}
use Rattle.segreplay.proofs.lives.Lives.add_all.Given as goal

abbrev pub invariant-loop-turn : goal.invariant-loop-turn
invariant-loop-turn l = lives_after l.fn.self.seen.items l.turns ≡ lives_after l.self.seen.items (drop l.turn-index l.turns)
