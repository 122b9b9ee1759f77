use Rattle.std.proofs.Common.{◌≡◌, take}
use Rattle.seghandles.specs.All.{stats_of}
use Rattle.seghandles.proofs.client.SharedClient.stats.Given as goal

abbrev pub invariant-loop-guest : goal.invariant-loop-guest
invariant-loop-guest l = l.sum ≡ stats_of (take l.guest-index l.self.guests.items)
