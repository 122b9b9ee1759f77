use Rattle.std.proofs.Common.{◌++◌, drop, List}
use Rattle.std.specs.List.{AllZip}
use Rattle.std.specs.Vec.Iter.{into_iter_items}
use Rattle.segreplay.specs.declared.player.Player.{Player}
use Rattle.segreplay.specs.Caches.{AreFresh, caches_in, IsDealt}
use Rattle.segreplay.proofs.cache.players_of.Given as goal

abbrev pub invariant-loop-each : goal.invariant-loop-each
invariant-loop-each l = record {
  can : goal.iterator-loop-each.can_next l.each-iterator;
  finite : goal.iterator-loop-each.is_finite l.each-iterator;
  new : AllZip IsDealt (drop l.place l.indexes) (into_iter_items l.each-iterator);
  fresh : (rest : List Player) → AreFresh l.place l.value (caches_in (into_iter_items l.each-iterator)) rest → AreFresh 0 l.value (caches_in l.fn.dealt.items) (l.players.items ++ rest);
}
