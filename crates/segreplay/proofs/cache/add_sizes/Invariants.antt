use Rattle.std.proofs.Common.{◌≡◌, ◌-◌, ◌++◌}
use Rattle.segreplay.specs.Caches.{sizes_of}
use Rattle.segreplay.proofs.cache.add_sizes.Given as goal

abbrev pub invariant-loop-size : goal.invariant-loop-size
invariant-loop-size l = l.caches.items ++ sizes_of l.policy l.shape (l.sizes - l.size) ≡ l.fn.caches.items ++ sizes_of l.policy l.fn.shape l.sizes
