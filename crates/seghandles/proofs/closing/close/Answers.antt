use Rattle.std.proofs.Common.{sym}
use Rattle.seghandles.proofs.Closed.{closes}
use Rattle.seghandles.proofs.closing.close.Goals as goal

pub returns-in-Cache : goal.returns-in-Cache
returns-in-Cache c = closes c.args.kept.now c.close_cache.new.kept c.in-Cache.cache c.close_cache.result (sym c.in-Cache.ensures.value) c.close_cache.ensures
