use Rattle.std.proofs.Common.{◌≡◌, ◌++◌, drop}
use Rattle.segreplay.specs.Replays.{totals_from}
use Rattle.segreplay.proofs.totals.totals_of.Given as goal

abbrev pub invariant-loop-place : goal.invariant-loop-place
invariant-loop-place l = l.totals.items ++ totals_from l.lives l.place l.players (drop l.place l.caches) ≡ totals_from l.lives 0 l.players l.caches
