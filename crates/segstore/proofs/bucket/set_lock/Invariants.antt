use Rattle.segstore.proofs.Locking.{minding_lock}
use Rattle.segstore.proofs.bucket.set_lock.Given as goal

abbrev pub ghost-remember : goal.ghost-remember
ghost-remember a = minding_lock a.pass.now
