use Rattle.segreplay.proofs.Lists.{size_more}
use Rattle.segreplay.proofs.cache.add_sizes.Goals as goal

pub loop-size-preserved : goal.loop-size-preserved
loop-size-preserved c =
    rw (c.in_ok-push.ensures.items, c.half_of-shape.ensures)
    (size_more c.args.policy c.loop-size.shape c.loop-size.caches.items _ c.args.sizes c.loop-size.size c.loop-size-test.true c.loop-size.invariant)
