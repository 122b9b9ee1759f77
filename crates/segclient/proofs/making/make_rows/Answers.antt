use Rattle.std.proofs.Common.{None, true, sym, arith}
use Rattle.segindex.specs.Words.{board_of}
use Rattle.segevict.proofs.RowsOut.{goes_then}
use Rattle.segclient.specs.PutParts.{effort_from, most_at_last, most_for_room}
use Rattle.segclient.proofs.Calls.{arranges_wider}
use Rattle.segclient.proofs.Order.{none_more}
use Rattle.segclient.proofs.Rooms.{room_later, room_whole, room_wider}
use Rattle.segclient.proofs.making.make_rows.Goals as goal

pub returns-then-take_free-clause-room : goal.returns-then-take_free-clause-room
returns-then-take_free-clause-room c =
    let b = board_of c.args.index.now in
    let p = c.args.pass.now in
    let q = c.take_free.new.pass in
    room_wider b c.args.policy.cutoff c.args.policy.deadline 1 (most_for_room b.shape) true (effort_from 1 0 0) p q (omega arith)
    (room_whole b None c.args.policy.deadline 1 c.args.rows true (effort_from 1 0 0) p q c.requires.fits
    (λ made. c.take_free.ensures.afresh c.if-take_free.true) c.if-take_free.ensures.takes)

pub returns-then-is_some-clause-on : goal.returns-then-is_some-clause-on
returns-then-is_some-clause-on c = goes_then (board_of c.args.index.now) c.args.pass.now c.take_free.new.pass c.make_rows_in_queues.new.pass c.take_free.ensures.on c.make_rows_in_queues.ensures.on

pub returns-then-is_some-clause-room : goal.returns-then-is_some-clause-room
returns-then-is_some-clause-room c =
    let b = board_of c.args.index.now in
    let p = c.args.pass.now in
    let cutoff = c.args.policy.cutoff in
    let deadline = c.args.policy.deadline in
    let first = c.take_free in
    let last = c.make_rows_in_queues in
    let none = effort_from 0 0 0 in
    let wide = arranges_wider b cutoff deadline 1 none p first.new.pass c.if-take_free.ensures.takes in
    room_later b cutoff deadline 1 (most_at_last b.shape) (most_for_room b.shape) last.result.0 none last.result.1
    last.result.1 p first.new.pass last.new.pass (omega arith) (sym (none_more last.result.1))
    first.ensures.on.same wide.0 (last.ensures.room c.args.rows c.requires.fits)

pub returns-clause-on : goal.returns-clause-on
returns-clause-on c = goes_then (board_of c.args.index.now) c.args.pass.now c.take_free.new.pass c.make_rows_in_turn.new.pass c.take_free.ensures.on c.make_rows_in_turn.ensures.on

pub returns-clause-room : goal.returns-clause-room
returns-clause-room c =
    let b = board_of c.args.index.now in
    let p = c.args.pass.now in
    let cutoff = c.args.policy.cutoff in
    let deadline = c.args.policy.deadline in
    let first = c.take_free in
    let last = c.make_rows_in_turn in
    let none = effort_from 0 0 0 in
    let wide = arranges_wider b cutoff deadline 1 none p first.new.pass c.if-take_free.ensures.takes in
    room_later b cutoff deadline 1 (most_at_last b.shape) (most_for_room b.shape) last.result.0 none last.result.1
    last.result.1 p first.new.pass last.new.pass (omega arith) (sym (none_more last.result.1))
    first.ensures.on.same wide.0 last.ensures.room
