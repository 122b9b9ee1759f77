use Rattle.std.proofs.Common.{refl}
use Rattle.segclient.specs.Made.{ReadsHoldInto}
use Rattle.segshards.proofs.Held.{by_holder, still_held}
use Rattle.segshards.proofs.Same.{called_same}
use Rattle.segshards.proofs.client.Client.held_into.Goals as goal

pub returns-clause-reads : goal.returns-clause-reads
returns-clause-reads c =
    by_holder c.args.hold.now (ReadsHoldInto c.args.hold.now c.held_into.result c.args.bytes.now c.held_into.new.bytes) c.args.self.now _
    c.in-Some.place c.index_mut-shard.result.now c.set_now.new.self c.held_into.new.self
    c.requires.hold c.in-Some.is c.index_mut-shard.ensures.value c.set_now.ensures.sets c.held_into.ensures.reads refl refl

pub returns-clause-held : goal.returns-clause-held
returns-clause-held c =
    let call = c.held_into.ensures.reads in
    still_held c.args.hold.now call.made.value c.args.self.now _ c.in-Some.place c.set_now.new.self c.held_into.new.self
    c.requires.hold c.in-Some.is (record { index = call.index; made = call.made.reads }) refl refl

pub returns-clause-same : goal.returns-clause-same
returns-clause-same c =
    called_same (ReadsHoldInto c.args.hold.now c.held_into.result c.args.bytes.now c.held_into.new.bytes) c.args.self.now
    c.in-Some.place c.index_mut-shard.result.now c.set_now.new.self c.held_into.new.self
    (λ b old new made. made.reads.counts.keeps.settings.number) c.index_mut-shard.ensures.value c.set_now.ensures.sets c.held_into.ensures.reads
