use Rattle.std.proofs.Common.{◌≡◌, ◌+◌, ◌≤◌, ◌++◌, map}
use Rattle.std.specs.Vec.{vec_capacity, vec_len}
use Rattle.std.specs.Vec.Iter.{into_iter_items, into_iter_len}
use Rattle.segshards.specs.Shards.{AreAllOfShards}
use Rattle.segshards.proofs.Ended.{index_in, passes_in}
use Rattle.segshards.proofs.cache.Cache.into_whole_shards.Given as goal

abbrev pub invariant-loop-index : goal.invariant-loop-index
invariant-loop-index l = record {
  can : goal.iterator-loop-index.can_next l.index-iterator;
  finite : goal.iterator-loop-index.is_finite l.index-iterator;
  room : vec_len l.whole + into_iter_len l.index-iterator ≤ vec_capacity l.whole;
  shards : map index_in l.whole.items ++ into_iter_items l.index-iterator ≡ l.fn.self.shards.items;
  passes : map passes_in l.whole.items ++ into_iter_items l.lists ≡ l.fn.lists.items;
  all : AreAllOfShards (into_iter_items l.index-iterator) (into_iter_items l.lists);
}
