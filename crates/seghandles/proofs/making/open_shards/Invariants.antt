use Rattle.std.proofs.Common.{◌≡◌, ◌≤◌, List, length, All, vec_len}
use Rattle.std.specs.List.{AllZip}
use Rattle.std.specs.Vec.{vec_capacity}
use Rattle.seghandles.specs.Making.{AreRowsOf, IsHomeOf, IsNewShard, Shard}
use Rattle.seghandles.proofs.making.open_shards.Given as goal

abbrev pub invariant-loop : goal.invariant-loop
invariant-loop l = (shards : List Shard) × record {
  count : length shards ≡ l.counter;
  new : All (IsNewShard l.plan.shape) shards;
  homes_of : AllZip IsHomeOf shards l.homes.items;
  long : length l.rows.items ≡ l.plan.shape.passes;
  rows_of : AreRowsOf shards l.rows.items;
  len : vec_len l.homes ≡ l.counter;
  room : l.plan.count ≤ vec_capacity l.homes;
}
