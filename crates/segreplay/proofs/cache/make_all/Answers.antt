use Rattle.std.proofs.Common.{◌∙◌, refl}
use Rattle.std.proofs.lemmas.List.{take_all}
use Rattle.std.proofs.lemmas.List.Elements.{All-more}
use Rattle.segclient.proofs.Places.{zip_push}
use Rattle.segreplay.specs.Caches.{HasValidShape, IsDealt}
use Rattle.segreplay.proofs.Lists.{dealt_more, no_cache}
use Rattle.segreplay.proofs.cache.make_all.Goals as goal

pub loop-cache-preserved : goal.loop-cache-preserved
loop-cache-preserved c = record {
  valid = All-more HasValidShape c.args.caches.now c.loop-cache.cache-index no_cache c.loop-cache-test.true c.loop-cache.invariant.valid c.in-Ok.ensures.made.made.valid;
  each = rw c.in-Ok-push-2.ensures.items
      (dealt_more c.loop-cache.dealt.items _ c.args.caches.now c.loop-cache.cache-index no_cache c.loop-cache-test.true refl c.loop-cache.invariant.each);
  new = rw (c.in-Ok-push.ensures.items, c.in-Ok-push-2.ensures.items)
      (zip_push IsDealt c.loop-cache.indexes.items c.loop-cache.dealt.items _ _ c.loop-cache.invariant.new c.in-Ok.ensures.made);
}

pub returns-clause-valid : goal.returns-clause-valid
returns-clause-valid c = rw (take_all c.loop-cache.cache-index c.args.caches.now c.loop-cache-test.false) at c.loop-cache.invariant.valid

pub returns-clause-each : goal.returns-clause-each
returns-clause-each c = c.loop-cache.invariant.each ∙ take_all c.loop-cache.cache-index c.args.caches.now c.loop-cache-test.false
