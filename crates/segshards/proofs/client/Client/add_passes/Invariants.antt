use Rattle.std.proofs.Common.{◌≡◌, ◌++◌, drop, length, take}
use Rattle.std.specs.Vec.Iter.{into_iter_items}
use Rattle.segshards.specs.Closing.{AreAdded}
use Rattle.segshards.proofs.client.Client.add_passes.Given as goal

abbrev pub invariant-loop-shard : goal.invariant-loop-shard
invariant-loop-shard l =
    let old = l.fn.lists.items in
    let new = l.lists.items in
    record {
      can : goal.iterator-loop-shard.can_next l.shard-iterator;
      finite : goal.iterator-loop-shard.is_finite l.shard-iterator;
      all : l.fn.self.shards.items ≡ l.yielded ++ into_iter_items l.shard-iterator;
      at : l.place ≡ length l.yielded;
      long : length new ≡ length old;
      rest : drop l.place new ≡ drop l.place old;
      added : AreAdded l.yielded (take l.place old) (take l.place new);
    }
