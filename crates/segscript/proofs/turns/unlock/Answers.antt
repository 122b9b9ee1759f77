use Rattle.std.proofs.Common.{true, false}
use Rattle.segscript.proofs.Turning.{unlock_turn}
use Rattle.segscript.proofs.turns.unlock.Goals as goal

pub returns-then-unlock_bucket-clause-turn : goal.returns-then-unlock_bucket-clause-turn
returns-then-unlock_bucket-clause-turn c = unlock_turn c.args.index.now.board c.args.pass.now c.unlock_bucket.new.pass true c.if-unlock_bucket.ensures.unlocks

pub returns-else-unlock_bucket-clause-turn : goal.returns-else-unlock_bucket-clause-turn
returns-else-unlock_bucket-clause-turn c = unlock_turn c.args.index.now.board c.args.pass.now c.unlock_bucket.new.pass false c.if-unlock_bucket.ensures.unlocks
