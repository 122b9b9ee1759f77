use Rattle.std.proofs.Common.{◌∙◌, refl}
use Rattle.segshards.proofs.InTurn.{next_looked, none_looked}
use Rattle.segshards.proofs.client.Client.look_ahead.Goals as goal

pub loop-place-init : goal.loop-place-init
loop-place-init c = record { looked = none_looked c.args.self.now; same = refl }

pub loop-place-preserved : goal.loop-place-preserved
loop-place-preserved c = let was = c.loop-place.invariant in record {
  looked = next_looked c.args.keys.now c.loop-place.place c.args.self.now c.loop-place.self c.seek-seeker.new.self c.index-keys-place.result
      c.loop-place-test.true c.index-keys-place.is was.looked c.seek-seeker.ensures.looks;
  same = c.seek-seeker.ensures.same ∙ was.same;
}
