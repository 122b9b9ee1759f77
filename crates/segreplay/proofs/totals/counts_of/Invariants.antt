use Rattle.std.proofs.Common.{◌≡◌, drop}
use Rattle.segreplay.specs.Caches.{counts_after}
use Rattle.segreplay.specs.Counting.{no_counts}
use Rattle.segreplay.proofs.totals.counts_of.Given as goal

abbrev pub invariant-loop-player : goal.invariant-loop-player
invariant-loop-player l = counts_after no_counts l.cache l.players ≡ counts_after l.counts l.cache (drop l.player-index l.players)
