use Rattle.std.proofs.Common.{refl, ap, ◌∙◌}
use Rattle.seghandles.specs.Made.{WritesWhen}
use Rattle.seghandles.specs.Guest.{At}
use Rattle.seghandles.specs.Wants.{write_wants}
use Rattle.seghandles.proofs.Keyed.{calls_key}
use Rattle.seghandles.proofs.client.SharedClient.write.Goals as goal

pub returns : goal.returns
returns c = record {
  calls = calls_key c.args.key.now (At c.args.now
      (WritesWhen c.args.when c.args.key.now c.args.value.now c.write-answer.result)) c.args.self.now _
      c.place_of-place.result c.index_mut-guest.result.now c.write-answer.new.self
      (c.place_of-place.ensures.shard, c.place_of-place.ensures.within) c.index_mut-guest.ensures.value c.write-answer.ensures refl refl;
  wants = c.write_wants-self.ensures.wants ∙ ap (write_wants c.write-answer.result) c.place_of-place.ensures.shard;
}
