use Rattle.segstore.specs.declared.bucket.LockAnswer.TheVariants as answer
use Rattle.segscript.proofs.Turning.{lock_turn}
use Rattle.segscript.proofs.turns.lock.Goals as goal

pub returns-in-Locked-clause-turn : goal.returns-in-Locked-clause-turn
returns-in-Locked-clause-turn c = lock_turn c.args.index.now.board c.args.pass.now c.lock_bucket.new.pass c.args.key.now answer.Locked c.in-Locked.ensures.locks

pub returns-in-Busy-clause-turn : goal.returns-in-Busy-clause-turn
returns-in-Busy-clause-turn c = lock_turn c.args.index.now.board c.args.pass.now c.lock_bucket.new.pass c.args.key.now answer.Busy c.in-Busy.ensures.locks

pub returns-in-AlreadyLocked-clause-turn : goal.returns-in-AlreadyLocked-clause-turn
returns-in-AlreadyLocked-clause-turn c = lock_turn c.args.index.now.board c.args.pass.now c.lock_bucket.new.pass c.args.key.now answer.AlreadyLocked c.in-AlreadyLocked.ensures.locks
