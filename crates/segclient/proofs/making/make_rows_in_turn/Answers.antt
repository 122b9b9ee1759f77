use Rattle.std.proofs.Common.{◌+◌, None, Some, true, sym, ◌∙◌, subst, arith}
use Rattle.segindex.specs.Words.{board_of}
use Rattle.segevict.proofs.RowsOut.{goes_then}
use Rattle.segclient.specs.PutParts.{MakesRows, most_at_last, most_in_turn}
use Rattle.segclient.proofs.Calls.{arranges_plus, arranges_wider}
use Rattle.segclient.proofs.Rooms.{room_again, room_left, room_whole, room_wider}
use Rattle.segclient.proofs.making.make_rows_in_turn.Goals as goal

pub returns-in_default-clause-room : goal.returns-in_default-clause-room
returns-in_default-clause-room c =
    let b = board_of c.args.index.now in
    let p = c.args.pass.now in
    let first = c.make_room-is_made in
    let turn = most_in_turn b.shape in
    room_wider b c.args.policy.cutoff c.args.policy.deadline turn (most_at_last b.shape) first.result.0 first.result.1 p first.new.pass (omega arith)
    (room_whole b None c.args.policy.deadline turn c.args.rows first.result.0 first.result.1 p first.new.pass
    c.requires.fits first.ensures.afresh first.ensures.room)

pub returns-then-not-is_made-clause-room : goal.returns-then-not-is_made-clause-room
returns-then-not-is_made-clause-room c =
    let b = board_of c.args.index.now in
    let p = c.args.pass.now in
    let first = c.make_room-is_made in
    let turn = most_in_turn b.shape in
    subst (λ made. MakesRows b c.args.policy.cutoff c.args.policy.deadline (most_at_last b.shape) c.args.rows made first.result.1 p first.new.pass) c.if-not-is_made.true
    (room_wider b c.args.policy.cutoff c.args.policy.deadline turn (most_at_last b.shape) first.result.0 first.result.1 p first.new.pass (omega arith)
    (room_whole b None c.args.policy.deadline turn c.args.rows first.result.0 first.result.1 p first.new.pass
    c.requires.fits first.ensures.afresh first.ensures.room))

pub returns-then-rows-rows_until-clause-on : goal.returns-then-rows-rows_until-clause-on
returns-then-rows-rows_until-clause-on c =
    goes_then (board_of c.args.index.now) c.args.pass.now c.make_room-is_made.new.pass c.clear_next.new.pass c.make_room-is_made.ensures.on c.clear_next.ensures.on

pub returns-then-rows-rows_until-clause-room : goal.returns-then-rows-rows_until-clause-room
returns-then-rows-rows_until-clause-room c =
    let b = board_of c.args.index.now in
    let p = c.args.pass.now in
    let first = c.make_room-is_made in
    let cleared = c.clear_next in
    let least = Some c.in-Some.least in
    let deadline = c.args.policy.deadline in
    let turn = most_in_turn b.shape in
    let most = turn + (b.shape.rows + 1) in
    let rows = c.args.rows in
    let low = c.requires.fits.0 in
    let enough = c.if-rows-rows_until.true in
    let wide = arranges_wider b least deadline turn first.result.1 p first.new.pass first.ensures.room.arranges in
    subst (λ cutoff. MakesRows b cutoff deadline (most_at_last b.shape) rows true c.plus-effort.result p cleared.new.pass) (sym c.in-Some.is)
    (room_left b least deadline most (most_at_last b.shape) c.plus-effort.result p cleared.new.pass (omega arith)
    (arranges_plus b least deadline turn (b.shape.rows + 1) most first.result.1 cleared.result c.plus-effort.result
    p first.new.pass cleared.new.pass (omega arith) c.plus-effort.ensures wide.0 (cleared.ensures.clears deadline))
    (c.rows_until.ensures.left rows (low, enough))
    (cleared.ensures.until deadline (first.ensures.room.until c.if-not-is_made.false)))

pub returns-clause-on : goal.returns-clause-on
returns-clause-on c =
    let b = board_of c.args.index.now in
    let p = c.args.pass.now in
    goes_then b p c.clear_next.new.pass c.make_room-is_made-2.new.pass
    (goes_then b p c.make_room-is_made.new.pass c.clear_next.new.pass c.make_room-is_made.ensures.on
    c.clear_next.ensures.on) c.make_room-is_made-2.ensures.on

pub returns-clause-room : goal.returns-clause-room
returns-clause-room c =
    let b = board_of c.args.index.now in
    let p = c.args.pass.now in
    let first = c.make_room-is_made in
    let cleared = c.clear_next in
    let last = c.make_room-is_made-2 in
    let least = Some c.in-Some.least in
    let deadline = c.args.policy.deadline in
    let turn = most_in_turn b.shape in
    let most = turn + (b.shape.rows + 1) in
    let rows = c.args.rows in
    let wide = arranges_wider b least deadline turn first.result.1 p first.new.pass first.ensures.room.arranges in
    subst (λ cutoff. MakesRows b cutoff deadline (most_at_last b.shape) rows last.result.0 c.plus.result p last.new.pass) (sym c.in-Some.is)
    (room_again b least deadline most turn (most_at_last b.shape) last.result.0 c.plus-effort.result last.result.1
    c.plus.result p cleared.new.pass last.new.pass (omega arith) c.plus.ensures (cleared.ensures.on.same ∙ first.ensures.on.same)
    (arranges_plus b least deadline turn (b.shape.rows + 1) most first.result.1 cleared.result c.plus-effort.result
    p first.new.pass cleared.new.pass (omega arith) c.plus-effort.ensures wide.0 (cleared.ensures.clears deadline))
    (room_whole b None deadline turn rows last.result.0 last.result.1 cleared.new.pass last.new.pass c.requires.fits last.ensures.afresh last.ensures.room))
