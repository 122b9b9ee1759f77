use Rattle.std.proofs.Common.{◌≡◌, ◌≤◌, All, vec_len}
use Rattle.std.specs.Vec.{vec_capacity}
use Rattle.segword.specs.Words.{Shape}
use Rattle.segshards.specs.Client.{IsNewClient}
use Rattle.segshards.specs.Shards.{AreNew, AreOfShards}
use Rattle.segshards.proofs.Dealt.{AreDealt}
use Rattle.segshards.proofs.cache.Cache.clients.Given as goal

abbrev pub invariant-loop : goal.invariant-loop
invariant-loop l = record {
  long : vec_len l.clients ≡ l.counter;
  room : l.threads ≤ vec_capacity l.clients;
  are : AreOfShards l.self.shards.items l.lists.items;
  new : All (IsNewClient l.self.shards.items) l.clients.items;
  dealt : (shape : Shape)
      → AreNew shape l.self.shards.items l.fn.lists.items
      → AreDealt shape l.self.shards.items l.lists.items l.clients.items l.counter
      × (l.threads ≡ shape.passes);
}
