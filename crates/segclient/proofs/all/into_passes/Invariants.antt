use Rattle.std.proofs.Common.{◌≡◌, ◌+◌, ◌≤◌, ◌++◌, map}
use Rattle.std.specs.Vec.{vec_capacity, vec_len}
use Rattle.std.specs.Vec.Iter.{into_iter_items, into_iter_len}
use Rattle.segclient.proofs.Together.{pass_of}
use Rattle.segclient.proofs.all.into_passes.Given as goal

abbrev pub invariant-loop-client : goal.invariant-loop-client
invariant-loop-client l = record {
  can : goal.iterator-loop-client.can_next l.client-iterator;
  finite : goal.iterator-loop-client.is_finite l.client-iterator;
  room : vec_len l.passes + into_iter_len l.client-iterator ≤ vec_capacity l.passes;
  exact : vec_capacity l.passes ≡ vec_len l.fn.clients;
  all : l.passes.items ++ map pass_of (into_iter_items l.client-iterator) ≡ map pass_of l.fn.clients.items;
}
