use Rattle.std.proofs.Common.{None, true, arith}
use Rattle.segindex.specs.Words.{board_of}
use Rattle.segevict.proofs.RowsOut.{goes_then}
use Rattle.segclient.specs.PutParts.{most_at_last, most_in_turn}
use Rattle.segclient.proofs.Calls.{arranges_wider}
use Rattle.segclient.proofs.Rooms.{room_again, room_whole, room_wider}
use Rattle.segclient.proofs.making.make_rows_in_queues.Goals as goal

pub returns-in_default-clause-room : goal.returns-in_default-clause-room
returns-in_default-clause-room c = λ rows range.
    let b = board_of c.args.index.now in
    let p = c.args.pass.now in
    let room = c.make_room in
    let turn = most_in_turn b.shape in
    room_wider b c.args.policy.cutoff c.args.policy.deadline turn (most_at_last b.shape) room.result.0 room.result.1 p room.new.pass (omega arith)
    (room_whole b None c.args.policy.deadline turn rows room.result.0 room.result.1 p room.new.pass range room.ensures.afresh room.ensures.room)

pub returns-then-is_made-clause-room : goal.returns-then-is_made-clause-room
returns-then-is_made-clause-room c = λ rows range.
    let b = board_of c.args.index.now in
    let p = c.args.pass.now in
    let first = c.make_room_in_order-is_made in
    let turn = most_in_turn b.shape in
    room_wider b c.args.policy.cutoff c.args.policy.deadline turn (most_at_last b.shape) true first.result.1 p first.new.pass (omega arith)
    (room_whole b None c.args.policy.deadline turn rows true first.result.1 p first.new.pass range
    (λ made. first.ensures.afresh c.if-is_made.true) (first.ensures.room c.if-is_made.true))

pub returns-clause-on : goal.returns-clause-on
returns-clause-on c =
    goes_then (board_of c.args.index.now) c.args.pass.now c.make_room_in_order-is_made.new.pass c.make_room-is_made.new.pass c.make_room_in_order-is_made.ensures.on c.make_room-is_made.ensures.on

pub returns-clause-room : goal.returns-clause-room
returns-clause-room c = λ rows range.
    let b = board_of c.args.index.now in
    let p = c.args.pass.now in
    let cutoff = c.args.policy.cutoff in
    let deadline = c.args.policy.deadline in
    let first = c.make_room_in_order-is_made in
    let last = c.make_room-is_made in
    let turn = most_in_turn b.shape in
    let wide = arranges_wider b cutoff deadline turn first.result.1 p first.new.pass first.ensures.arranges in
    room_again b cutoff deadline turn turn (most_at_last b.shape) last.result.0 first.result.1 last.result.1 c.plus.result p first.new.pass last.new.pass
    (omega arith) c.plus.ensures first.ensures.on.same wide.0
    (room_whole b None deadline turn rows last.result.0 last.result.1 first.new.pass last.new.pass range last.ensures.afresh last.ensures.room)
