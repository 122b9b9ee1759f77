use Rattle.std.proofs.Common.{◌≡◌, None, replicate}
use Rattle.seghandles.proofs.home.no_passes.Given as goal

abbrev pub invariant-loop : goal.invariant-loop
invariant-loop l = l.places.items ≡ replicate l.counter None
