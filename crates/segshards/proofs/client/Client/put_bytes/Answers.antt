use Rattle.std.proofs.Common.{refl}
use Rattle.segclient.specs.Puts.{Puts}
use Rattle.segshards.proofs.Calls.{by_shard}
use Rattle.segshards.proofs.Same.{called_same}
use Rattle.segshards.proofs.client.Client.put_bytes.Goals as goal

pub returns-clause-puts : goal.returns-clause-puts
returns-clause-puts c =
    by_shard c.args.key.now (Puts c.args.key.now c.args.value.now c.put_bytes.result) c.args.self.now _ c.place_of-place.result c.index_mut-shard.result.now c.set_now.new.self c.put_bytes.new.self
    (c.place_of-place.ensures.shard, c.place_of-place.ensures.within) c.index_mut-shard.ensures.value c.set_now.ensures.sets c.put_bytes.ensures.puts refl refl refl

pub returns-clause-same : goal.returns-clause-same
returns-clause-same c =
    called_same (Puts c.args.key.now c.args.value.now c.put_bytes.result) c.args.self.now c.place_of-place.result c.index_mut-shard.result.now c.set_now.new.self c.put_bytes.new.self
    (λ b old new made. made.settings.number) c.index_mut-shard.ensures.value c.set_now.ensures.sets c.put_bytes.ensures.puts
