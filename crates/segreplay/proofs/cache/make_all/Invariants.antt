use Rattle.std.proofs.Common.{◌≡◌, take, All}
use Rattle.std.specs.List.{AllZip}
use Rattle.segreplay.specs.Caches.{caches_in, HasValidShape, IsDealt}
use Rattle.segreplay.proofs.cache.make_all.Given as goal

abbrev pub invariant-loop-cache : goal.invariant-loop-cache
invariant-loop-cache l = record {
  valid : All HasValidShape (take l.cache-index l.caches);
  each : caches_in l.dealt.items ≡ take l.cache-index l.caches;
  new : AllZip IsDealt l.indexes.items l.dealt.items;
}
