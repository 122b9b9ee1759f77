use Rattle.std.proofs.Common.{refl}
use Rattle.segclient.specs.Made.{GetsInto}
use Rattle.seghandles.specs.Guest.{At}
use Rattle.seghandles.proofs.Keyed.{makes_call}
use Rattle.seghandles.proofs.client.SharedClient.get_into.Goals as goal

pub returns : goal.returns
returns c =
    makes_call c.args.key.now (At c.args.now (GetsInto c.args.key.now c.get_into.result c.args.bytes.now c.get_into.new.bytes)) c.args.self.now _ c.place_of-place.result
    c.index_mut-guest.result.now c.get_into.new.self
    (c.place_of-place.ensures.shard, c.place_of-place.ensures.within) c.index_mut-guest.ensures.value c.get_into.ensures refl refl refl
