use Rattle.std.proofs.Common.{◌≡◌, ◌<◌, false}
use Rattle.segload.specs.Lists.{AllAt}
use Rattle.segload.proofs.load.first_stopped.Given as goal

abbrev pub invariant-loop-worker : goal.invariant-loop-worker
invariant-loop-worker l = AllAt (λ n worker. n < l.worker-index → worker.is_stopped ≡ false) l.workers.items
