use Rattle.std.proofs.Common.{refl}
use Rattle.segclient.specs.Made.{ReadsHold}
use Rattle.segshards.proofs.Held.{by_holder, still_held}
use Rattle.segshards.proofs.Same.{called_same}
use Rattle.segshards.proofs.client.Client.held_value.Goals as goal

pub returns-clause-reads : goal.returns-clause-reads
returns-clause-reads c =
    by_holder c.args.hold.now (ReadsHold c.args.hold.now c.held_value.result) c.args.self.now _ c.in-Some.place c.index_mut-shard.result.now c.set_now.new.self c.held_value.new.self
    c.requires.hold c.in-Some.is c.index_mut-shard.ensures.value c.set_now.ensures.sets c.held_value.ensures.reads refl refl

pub returns-clause-held : goal.returns-clause-held
returns-clause-held c =
    still_held c.args.hold.now c.held_value.result c.args.self.now _ c.in-Some.place c.set_now.new.self c.held_value.new.self
    c.requires.hold c.in-Some.is c.held_value.ensures.reads refl refl

pub returns-clause-same : goal.returns-clause-same
returns-clause-same c =
    called_same (ReadsHold c.args.hold.now c.held_value.result) c.args.self.now c.in-Some.place c.index_mut-shard.result.now c.set_now.new.self c.held_value.new.self
    (λ b old new made. made.counts.keeps.settings.number) c.index_mut-shard.ensures.value c.set_now.ensures.sets c.held_value.ensures.reads
