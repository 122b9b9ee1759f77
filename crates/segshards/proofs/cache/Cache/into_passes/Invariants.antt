use Rattle.std.proofs.Common.{◌≡◌, ◌≤◌, ◌++◌, [], All}
use Rattle.std.specs.Vec.{vec_capacity, vec_len}
use Rattle.std.specs.Vec.Iter.{into_iter_items}
use Rattle.segshards.specs.Shards.{AreOfShards}
use Rattle.segshards.proofs.Ended.{have_passes}
use Rattle.segshards.proofs.cache.Cache.into_passes.Given as goal

abbrev pub invariant-loop : goal.invariant-loop
invariant-loop l = record {
  long : vec_len l.lists ≡ l.counter;
  room : vec_len l.self.shards ≤ vec_capacity l.lists;
  empty : All (λ passes. passes.items ≡ []) l.lists.items;
}

abbrev pub invariant-loop-client : goal.invariant-loop-client
invariant-loop-client l = record {
  can : goal.iterator-loop-client.can_next l.client-iterator;
  finite : goal.iterator-loop-client.is_finite l.client-iterator;
  all : l.fn.clients.items ≡ l.yielded ++ into_iter_items l.client-iterator;
  quiet : AreOfShards l.self.shards.items l.lists.items;
  have : All (have_passes l.lists.items) l.yielded;
}
