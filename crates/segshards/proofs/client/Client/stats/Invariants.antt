use Rattle.std.proofs.Common.{◌≡◌, take}
use Rattle.segshards.specs.Sums.{stats_of}
use Rattle.segshards.proofs.client.Client.stats.Given as goal

abbrev pub invariant-loop-shard : goal.invariant-loop-shard
invariant-loop-shard l = l.sum ≡ stats_of (take l.shard-index l.self.shards.items)
