use Rattle.std.proofs.Common.{◌<◌, ap, subst, arith}
use Rattle.segindex.specs.Words.{board_of}
use Rattle.segwrite.specs.Words.{rows_of}
use Rattle.segclient.specs.PutParts.{most_for_room, request_of}
use Rattle.segclient.proofs.Rooms.{room_too_long}
use Rattle.segclient.proofs.making.make_room_for.Goals as goal

pub returns-then-shape-rows-clause-room : goal.returns-then-shape-rows-clause-room
returns-then-shape-rows-clause-room c =
    let b = board_of c.args.index.now in
    let policy = c.args.order.policy in
    let rows = c.span_of_bytes-rows.ensures.rows in
    let long = c.if-shape-rows.true in
    let shape = ap (λ s. s.rows) c.shape.ensures in
    room_too_long b policy.cutoff policy.deadline (most_for_room b.shape) (rows_of (request_of c.args.order)) c.none.result c.args.pass.now
    (subst (λ n. b.shape.rows < n) rows (omega (arith, long, shape))) c.none.ensures
