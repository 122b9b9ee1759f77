use Rattle.std.proofs.Common.{refl}
use Rattle.segwrite.specs.Words.{request_of}
use Rattle.segclient.specs.Made.{MakesWrite}
use Rattle.segshards.proofs.Calls.{by_shard}
use Rattle.segshards.proofs.Same.{called_same}
use Rattle.segshards.proofs.client.Client.write.Goals as goal

pub returns-clause-writes : goal.returns-clause-writes
returns-clause-writes c =
    by_shard c.args.key.now (MakesWrite (request_of c.args.condition c.args.key.now c.args.value.now) c.write.result) c.args.self.now _
    c.place_of-place.result c.index_mut-shard.result.now c.set_now.new.self c.write.new.self
    (c.place_of-place.ensures.shard, c.place_of-place.ensures.within) c.index_mut-shard.ensures.value c.set_now.ensures.sets c.write.ensures.writes refl refl refl

pub returns-clause-same : goal.returns-clause-same
returns-clause-same c =
    called_same (MakesWrite (request_of c.args.condition c.args.key.now c.args.value.now) c.write.result)
    c.args.self.now c.place_of-place.result c.index_mut-shard.result.now c.set_now.new.self c.write.new.self
    (λ b old new made. made.settings.number) c.index_mut-shard.ensures.value c.set_now.ensures.sets c.write.ensures.writes
