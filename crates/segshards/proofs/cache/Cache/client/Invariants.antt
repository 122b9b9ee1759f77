use Rattle.std.proofs.Common.{◌≡◌, ◌≤◌, drop, length, take, vec_len}
use Rattle.std.specs.Vec.{vec_capacity}
use Rattle.segshards.specs.Client.{AreNewClients}
use Rattle.segshards.specs.Closing.{AreTaken}
use Rattle.segshards.specs.Shards.{AreOfShards}
use Rattle.segshards.proofs.cache.Cache.client.Given as goal

abbrev pub invariant-loop-place : goal.invariant-loop-place
invariant-loop-place l = record {
  long : vec_len l.shards ≡ l.place;
  room : vec_len l.self.shards ≤ vec_capacity l.shards;
  are : AreOfShards l.self.shards.items l.lists.items;
  made : AreNewClients (take l.place l.self.shards.items) l.shards.items;
  still : length l.lists.items ≡ length l.fn.lists.items;
  rest : drop l.place l.lists.items ≡ drop l.place l.fn.lists.items;
  taken : AreTaken l.shards.items (take l.place l.fn.lists.items) (take l.place l.lists.items);
}
