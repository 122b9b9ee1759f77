use Rattle.std.proofs.lemmas.List.Elements.{All-get_or}
use Rattle.segreplay.specs.Caches.{HasValidShape}
use Rattle.segreplay.proofs.Lists.{no_cache}
use Rattle.segreplay.proofs.totals.totals_of.Goals as goal

pub bytes_of-requires : goal.bytes_of-requires
bytes_of-requires c = All-get_or HasValidShape c.args.caches.now c.loop-place.place no_cache c.loop-place-test.true c.requires
