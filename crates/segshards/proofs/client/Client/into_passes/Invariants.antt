use Rattle.std.proofs.Common.{◌≡◌, ◌+◌, ◌≤◌, ◌++◌, map}
use Rattle.std.specs.Vec.{vec_capacity, vec_len}
use Rattle.std.specs.Vec.Iter.{into_iter_items, into_iter_len}
use Rattle.segclient.proofs.Together.{pass_of}
use Rattle.segshards.proofs.client.Client.into_passes.Given as goal

abbrev pub invariant-loop-shard : goal.invariant-loop-shard
invariant-loop-shard l = record {
  can : goal.iterator-loop-shard.can_next l.shard-iterator;
  finite : goal.iterator-loop-shard.is_finite l.shard-iterator;
  room : vec_len l.passes + into_iter_len l.shard-iterator ≤ vec_capacity l.passes;
  all : l.passes.items ++ map pass_of (into_iter_items l.shard-iterator) ≡ map pass_of l.fn.self.shards.items;
}
