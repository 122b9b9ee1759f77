use Rattle.std.proofs.Common.{◌≡◌, ◌-◌, ◌*◌, ◌≤◌}
use Rattle.segbase.specs.Words.{current_of, number}
use Rattle.segindex.specs.Words.{board_of, shape_of}
use Rattle.segstore.specs.Words.{GoesOn}
use Rattle.segtally.specs.Rings.{IsOwnRing}
use Rattle.segclient.proofs.Trying.{Tried}
use Rattle.segclient.proofs.room.make_room.Given as goal

abbrev pub invariant-loop-tried : goal.invariant-loop-tried
invariant-loop-tried l = record {
  on : GoesOn (board_of l.index) l.fn.pass l.pass;
  own : IsOwnRing (shape_of l.index) (number l.pass) l.ring;
  current : current_of l.pass ≡ l.current;
  over : Tried (board_of l.index) l.deadline l.current l.ring ((shape_of l.index).segments_each - l.tried) (2 * l.tried) l.keys l.fn.pass l.pass;
  few : l.keys ≤ 4294967295 * l.tried;
}
