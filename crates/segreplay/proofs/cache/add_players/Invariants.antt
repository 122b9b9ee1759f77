use Rattle.std.proofs.Common.{◌≡◌, ◌++◌, All, List}
use Rattle.std.specs.List.{AllZip}
use Rattle.std.specs.Vec.Iter.{into_iter_items}
use Rattle.segindex.specs.Words.{board_of}
use Rattle.segstore.specs.Words.{IsQuiet}
use Rattle.segreplay.specs.declared.player.Player.{Player}
use Rattle.segreplay.specs.Caches.{IsFresh}
use Rattle.segreplay.proofs.cache.add_players.Given as goal

abbrev pub invariant-loop-pass : goal.invariant-loop-pass
invariant-loop-pass l = record {
  can : goal.iterator-loop-pass.can_next l.pass-iterator;
  finite : goal.iterator-loop-pass.is_finite l.pass-iterator;
  quiet : All (IsQuiet (board_of l.index)) (into_iter_items l.pass-iterator);
  all : l.fn.passes.items ≡ l.yielded ++ into_iter_items l.pass-iterator;
  fresh : (more : List Player) × (l.players.items ≡ l.fn.players.items ++ more) × AllZip (IsFresh l.start.place l.start.value.now l.start.policy l.index) l.yielded more;
}
