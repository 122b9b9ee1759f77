use Rattle.segclient.specs.Client.{IsSame}
use Rattle.segtests_clients.proofs.client_caller.serve_all.Given as goal

abbrev pub invariant-loop-key : goal.invariant-loop-key
invariant-loop-key l = IsSame l.fn.client l.client
