use Rattle.segshards.specs.Clients.{IsSame}
use Rattle.segtests_clients.proofs.several_shards.put_numbers.Given as goal

abbrev pub invariant-loop-number : goal.invariant-loop-number
invariant-loop-number g l = IsSame l.fn.client l.client
