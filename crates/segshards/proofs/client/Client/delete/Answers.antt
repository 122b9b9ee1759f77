use Rattle.std.proofs.Common.{refl}
use Rattle.segclient.specs.Made.{DeletesKey}
use Rattle.segshards.proofs.Calls.{by_shard}
use Rattle.segshards.proofs.Same.{called_same}
use Rattle.segshards.proofs.client.Client.delete.Goals as goal

pub returns-clause-deletes : goal.returns-clause-deletes
returns-clause-deletes c =
    by_shard c.args.key.now (DeletesKey c.args.key.now c.delete.result) c.args.self.now _ c.place_of-place.result c.index_mut-shard.result.now c.set_now.new.self c.delete.new.self
    (c.place_of-place.ensures.shard, c.place_of-place.ensures.within) c.index_mut-shard.ensures.value c.set_now.ensures.sets c.delete.ensures.deletes refl refl refl

pub returns-clause-same : goal.returns-clause-same
returns-clause-same c =
    called_same (DeletesKey c.args.key.now c.delete.result) c.args.self.now c.place_of-place.result c.index_mut-shard.result.now c.set_now.new.self c.delete.new.self
    (λ b old new made. made.settings.number) c.index_mut-shard.ensures.value c.set_now.ensures.sets c.delete.ensures.deletes
