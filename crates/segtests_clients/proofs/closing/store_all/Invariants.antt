use Rattle.segclient.specs.Client.{IsSame}
use Rattle.segtests_clients.proofs.closing.store_all.Given as goal

abbrev pub invariant-loop : goal.invariant-loop
invariant-loop l = IsSame l.fn.client l.client
