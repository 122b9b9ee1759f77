use Rattle.std.proofs.Common.{refl, ap, ◌∙◌}
use Rattle.segclient.specs.Puts.{PutsFor}
use Rattle.seghandles.specs.Guest.{At}
use Rattle.seghandles.specs.Wants.{put_wants}
use Rattle.seghandles.proofs.Keyed.{calls_key}
use Rattle.seghandles.proofs.client.SharedClient.put_for.Goals as goal

pub returns : goal.returns
returns c =
    let Made = PutsFor c.args.seconds c.args.key.now c.args.value.now c.put_for-answer.result in
    record {
      calls = calls_key c.args.key.now (At c.args.now Made)
          c.args.self.now _ c.place_of-place.result c.index_mut-guest.result.now c.put_for-answer.new.self
          (c.place_of-place.ensures.shard, c.place_of-place.ensures.within) c.index_mut-guest.ensures.value
          c.put_for-answer.ensures refl refl;
      wants = c.put_wants-self.ensures.wants
          ∙ ap (put_wants c.put_for-answer.result) c.place_of-place.ensures.shard;
    }
