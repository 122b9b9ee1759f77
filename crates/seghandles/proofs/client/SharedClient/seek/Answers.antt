use Rattle.std.proofs.Common.{refl}
use Rattle.segclient.specs.Many.{LooksAheadBy}
use Rattle.seghandles.proofs.Keyed.{makes_call}
use Rattle.seghandles.proofs.client.SharedClient.seek.Goals as goal

pub returns : goal.returns
returns c =
    makes_call c.args.key.now (LooksAheadBy 1) c.args.self.now _ c.place_of-place.result c.index_mut-guest.result.now c.seek.new.self
    (c.place_of-place.ensures.shard, c.place_of-place.ensures.within) c.index_mut-guest.ensures.value c.seek.ensures refl refl refl
