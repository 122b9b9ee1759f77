use Rattle.std.proofs.Common.{refl}
use Rattle.segclient.specs.Puts.{MakesRoomFor}
use Rattle.segshards.proofs.Calls.{by_shard}
use Rattle.segshards.proofs.Same.{called_same}
use Rattle.segshards.proofs.client.Client.make_room.Goals as goal

pub returns-clause-makes : goal.returns-clause-makes
returns-clause-makes c =
    by_shard c.args.key.now (MakesRoomFor c.make_room.result) c.args.self.now _ c.place_of-place.result c.index_mut-shard.result.now c.set_now.new.self c.make_room.new.self
    (c.place_of-place.ensures.shard, c.place_of-place.ensures.within) c.index_mut-shard.ensures.value c.set_now.ensures.sets c.make_room.ensures.makes refl refl refl

pub returns-clause-same : goal.returns-clause-same
returns-clause-same c =
    called_same (MakesRoomFor c.make_room.result) c.args.self.now c.place_of-place.result c.index_mut-shard.result.now c.set_now.new.self c.make_room.new.self
    (λ b old new made. made.settings.number) c.index_mut-shard.ensures.value c.set_now.ensures.sets c.make_room.ensures.makes
