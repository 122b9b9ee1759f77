use Rattle.std.proofs.Common.{refl}
use Rattle.segclient.specs.Many.{LooksAheadBy}
use Rattle.segshards.proofs.Calls.{by_shard}
use Rattle.segshards.proofs.Same.{called_same}
use Rattle.segshards.proofs.client.Client.seek.Goals as goal

pub returns-clause-looks : goal.returns-clause-looks
returns-clause-looks c =
    by_shard c.args.key.now (LooksAheadBy 1) c.args.self.now _ c.place_of-place.result c.index_mut-shard.result.now c.set_now.new.self c.seek.new.self
    (c.place_of-place.ensures.shard, c.place_of-place.ensures.within) c.index_mut-shard.ensures.value c.set_now.ensures.sets c.seek.ensures.looks refl refl refl

pub returns-clause-same : goal.returns-clause-same
returns-clause-same c =
    called_same (LooksAheadBy 1) c.args.self.now c.place_of-place.result c.index_mut-shard.result.now c.set_now.new.self c.seek.new.self
    (λ b old new made. made.counts.keeps.settings.number) c.index_mut-shard.ensures.value c.set_now.ensures.sets c.seek.ensures.looks
