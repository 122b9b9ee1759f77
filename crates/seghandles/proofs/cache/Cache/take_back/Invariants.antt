use Rattle.std.proofs.Common.{◌≡◌, ◌++◌, drop, length, take}
use Rattle.std.specs.Vec.Iter.{into_iter_items}
use Rattle.segshards.specs.Each.{AllThree}
use Rattle.seghandles.specs.Home.{TakesBack}
use Rattle.seghandles.proofs.cache.Cache.take_back.Given as goal

abbrev pub invariant-loop-guest : goal.invariant-loop-guest
invariant-loop-guest l =
    let old = l.fn.self.homes.items in
    let new = l.self.homes.items in
    record {
      can : goal.iterator-loop-guest.can_next l.guest-iterator;
      finite : goal.iterator-loop-guest.is_finite l.guest-iterator;
      all : l.fn.client.guests.items ≡ l.yielded ++ into_iter_items l.guest-iterator;
      at : l.place ≡ length l.yielded;
      long : length new ≡ length old;
      rest : drop l.place new ≡ drop l.place old;
      made : AllThree TakesBack l.yielded (take l.place old) (take l.place new);
    }
