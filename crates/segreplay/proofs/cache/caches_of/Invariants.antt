use Rattle.std.proofs.Common.{◌≡◌, take}
use Rattle.segreplay.specs.Caches.{caches_of}
use Rattle.segreplay.proofs.cache.caches_of.Given as goal

abbrev pub invariant-loop-policy : goal.invariant-loop-policy
invariant-loop-policy l = l.caches.items ≡ caches_of (take l.policy-index l.policies) l.shape l.sizes
