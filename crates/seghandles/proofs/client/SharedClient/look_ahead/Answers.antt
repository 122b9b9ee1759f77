use Rattle.seghandles.proofs.InTurn.{next_looked_for, none_looked_for}
use Rattle.seghandles.proofs.client.SharedClient.look_ahead.Goals as goal

pub loop-place-init : goal.loop-place-init
loop-place-init c = none_looked_for c.args.self.now

pub loop-place-preserved : goal.loop-place-preserved
loop-place-preserved c =
    next_looked_for c.args.keys.now c.loop-place.place c.args.self.now c.loop-place.self c.seek-seeker.new.self c.index-keys-place.result
    c.loop-place-test.true c.index-keys-place.is c.loop-place.invariant c.seek-seeker.ensures
