use Rattle.std.proofs.Common.{refl}
use Rattle.segclient.specs.Made.{DeletesKey}
use Rattle.seghandles.specs.Guest.{At}
use Rattle.seghandles.proofs.Keyed.{makes_call}
use Rattle.seghandles.proofs.client.SharedClient.delete.Goals as goal

pub returns : goal.returns
returns c =
    makes_call c.args.key.now (At c.args.now (DeletesKey c.args.key.now c.delete.result)) c.args.self.now _ c.place_of-place.result c.index_mut-guest.result.now c.delete.new.self
    (c.place_of-place.ensures.shard, c.place_of-place.ensures.within) c.index_mut-guest.ensures.value c.delete.ensures refl refl refl
