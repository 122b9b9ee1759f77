use Rattle.std.proofs.Common.{refl}
use Rattle.segclient.specs.Made.{GetsVersionInto}
use Rattle.seghandles.specs.Guest.{At}
use Rattle.seghandles.proofs.Keyed.{makes_call}
use Rattle.seghandles.proofs.client.SharedClient.gets_into.Goals as goal

pub returns : goal.returns
returns c =
    makes_call c.args.key.now (At c.args.now (GetsVersionInto c.args.key.now c.gets_into.result c.args.bytes.now c.gets_into.new.bytes)) c.args.self.now _ c.place_of-place.result
    c.index_mut-guest.result.now c.gets_into.new.self
    (c.place_of-place.ensures.shard, c.place_of-place.ensures.within) c.index_mut-guest.ensures.value c.gets_into.ensures refl refl refl
