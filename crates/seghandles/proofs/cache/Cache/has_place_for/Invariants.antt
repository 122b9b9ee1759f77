use Rattle.std.proofs.Common.{take}
use Rattle.std.specs.List.{AllZip}
use Rattle.seghandles.specs.Home.{HasPlaceFor}
use Rattle.seghandles.proofs.cache.Cache.has_place_for.Given as goal

abbrev pub invariant-loop-place : goal.invariant-loop-place
invariant-loop-place l = AllZip HasPlaceFor (take l.place l.self.homes.items) (take l.place l.client.guests.items)
