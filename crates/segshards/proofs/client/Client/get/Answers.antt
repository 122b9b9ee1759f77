use Rattle.std.proofs.Common.{refl}
use Rattle.segclient.specs.Made.{Gets}
use Rattle.segshards.proofs.Calls.{by_shard}
use Rattle.segshards.proofs.Same.{called_same}
use Rattle.segshards.proofs.client.Client.get.Goals as goal

pub returns-clause-reads : goal.returns-clause-reads
returns-clause-reads c =
    by_shard c.args.key.now (Gets c.args.key.now c.get.result) c.args.self.now _ c.place_of-place.result c.index_mut-shard.result.now c.set_now.new.self c.get.new.self
    (c.place_of-place.ensures.shard, c.place_of-place.ensures.within) c.index_mut-shard.ensures.value c.set_now.ensures.sets c.get.ensures.reads refl refl refl

pub returns-clause-same : goal.returns-clause-same
returns-clause-same c =
    called_same (Gets c.args.key.now c.get.result) c.args.self.now c.place_of-place.result c.index_mut-shard.result.now c.set_now.new.self c.get.new.self
    (λ b old new made. made.keeps.settings.number) c.index_mut-shard.ensures.value c.set_now.ensures.sets c.get.ensures.reads
