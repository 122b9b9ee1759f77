use Rattle.segstore.proofs.Locking.{minds_now, sets_now}
use Rattle.segstore.proofs.bucket.set_lock.Goals as goal

pub remember-requires : goal.remember-requires
remember-requires c = minds_now c.args.board.now c.args.pass.now c.set_locked.new.self c.args.bucket c.requires.pass c.requires.bit c.set_locked.ensures

pub returns-clause-sets : goal.returns-clause-sets
returns-clause-sets c = let r = c.remember.ensures in
    sets_now c.args.pass.now c.set_locked.new.self c.remember.new.pass c.args.bucket c.set_locked.ensures r.same.0 r.same.1 r.memo
