use Rattle.std.proofs.Common.{refl}
use Rattle.segclient.specs.Made.{EndsHold}
use Rattle.segshards.proofs.Held.{by_holder}
use Rattle.segshards.proofs.Same.{called_same}
use Rattle.segshards.proofs.client.Client.release.Goals as goal

pub returns-clause-releases : goal.returns-clause-releases
returns-clause-releases c =
    by_holder c.args.hold (EndsHold) c.args.self.now _ c.in-Some.place c.index_mut-shard.result.now c.set_now.new.self c.release.new.self
    c.requires.hold c.in-Some.is c.index_mut-shard.ensures.value c.set_now.ensures.sets c.release.ensures.releases refl refl

pub returns-clause-same : goal.returns-clause-same
returns-clause-same c =
    called_same (EndsHold) c.args.self.now c.in-Some.place c.index_mut-shard.result.now c.set_now.new.self c.release.new.self
    (λ b old new made. made.counts.keeps.settings.number) c.index_mut-shard.ensures.value c.set_now.ensures.sets c.release.ensures.releases
