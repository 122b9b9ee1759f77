use Rattle.std.proofs.Common.{refl}
use Rattle.segclient.specs.Made.{GetsVersionInto}
use Rattle.segshards.proofs.Calls.{by_shard}
use Rattle.segshards.proofs.Same.{called_same}
use Rattle.segshards.proofs.client.Client.gets_into.Goals as goal

pub returns-clause-reads : goal.returns-clause-reads
returns-clause-reads c =
    by_shard c.args.key.now (GetsVersionInto c.args.key.now c.gets_into.result c.args.bytes.now c.gets_into.new.bytes) c.args.self.now _ c.place_of-place.result
    c.index_mut-shard.result.now c.set_now.new.self c.gets_into.new.self
    (c.place_of-place.ensures.shard, c.place_of-place.ensures.within) c.index_mut-shard.ensures.value c.set_now.ensures.sets c.gets_into.ensures.reads refl refl refl

pub returns-clause-same : goal.returns-clause-same
returns-clause-same c =
    called_same (GetsVersionInto c.args.key.now c.gets_into.result c.args.bytes.now c.gets_into.new.bytes) c.args.self.now c.place_of-place.result
    c.index_mut-shard.result.now c.set_now.new.self c.gets_into.new.self
    (λ b old new made. made.reads.keeps.settings.number) c.index_mut-shard.ensures.value c.set_now.ensures.sets c.gets_into.ensures.reads
