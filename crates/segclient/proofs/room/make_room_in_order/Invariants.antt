use Rattle.std.proofs.Common.{◌*◌, ◌≤◌}
use Rattle.segindex.specs.Words.{board_of}
use Rattle.segstore.specs.Words.{GoesOn}
use Rattle.segclient.proofs.Rooms.{PassesOver}
use Rattle.segclient.proofs.room.make_room_in_order.Given as goal

abbrev pub invariant-loop-tried : goal.invariant-loop-tried
invariant-loop-tried l = record {
  on : GoesOn (board_of l.index) l.fn.pass l.pass;
  over : PassesOver (board_of l.index) l.policy.deadline (2 * l.tried) l.keys l.fn.pass l.pass;
  few : l.keys ≤ 4294967295 * l.tried;
}
