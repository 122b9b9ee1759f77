use Rattle.std.proofs.Common.{◌≡◌, ◌≤◌, [], sym, ap, ◌∙◌, subst, arith}
use Rattle.std.proofs.lemmas.Bool.{false≢true}
use Rattle.std.specs.Prelude.{is_some, min}
use Rattle.segword.specs.Words.{most_rows}
use Rattle.segindex.specs.Words.{board_of}
use Rattle.segclient.specs.PutParts.{MakesRows, most_for_room}
use Rattle.segclient.proofs.Left.{most_some}
use Rattle.segclient.proofs.Rooms.{room_there}
use Rattle.segclient.proofs.making.make_room_by.Goals as goal
use Rattle.segclient.proofs.making.make_room_by.Goals.{else-is_some-via-then-is_some+else-rows-rows_until, else-is_some-via-else-is_some}

pub returns-then-rows-rows_until-clause-room : goal.returns-then-rows-rows_until-clause-room
returns-then-rows-rows_until-clause-room c =
    let b = board_of c.args.index.now in
    let p = c.args.pass.now in
    let policy = c.args.policy in
    let rows = min (most_rows b.limits) b.shape.rows in
    let low : 1 ≤ rows = most_some b.limits b.shape.rows c.requires.quiet.pass.valid.0.1.0 in
    let enough = c.if-rows-rows_until.true in
    let longest = c.most_rows.ensures.rows ∙ ap most_rows c.limits.ensures in
    let min = c.min-rows.ensures in
    let shape = ap (λ s. s.rows) c.shape.ensures in
    let enough : rows ≤ c.rows_until.result = omega (arith, enough, longest, min, shape) in
    room_there b policy.cutoff policy.deadline (is_some c.args.segments.now.queues) (most_for_room b.shape) c.none.result p c.none.ensures
    (c.rows_until.ensures.left rows (low, enough))
    (c.rows_until.ensures.until (omega (arith, low, enough)))

pub returns-clause-room : goal.returns-clause-room
returns-clause-room c =
    let b = board_of c.args.index.now in
    let p = c.args.pass.now in
    let policy = c.args.policy in
    let last = c.make_rows in
    let rows = min (most_rows b.limits) b.shape.rows in
    let longest = c.most_rows.ensures.rows ∙ ap most_rows c.limits.ensures in
    let least = c.min-rows.ensures in
    let shape = ap (λ s. s.rows) c.shape.ensures in
    let same : c.min-rows.result ≡ rows = omega (arith, least, longest, shape) in
    let room = subst (λ n. MakesRows b policy.cutoff policy.deadline (most_for_room b.shape) n last.result.0 last.result.1 p last.new.pass) same last.ensures.room in (
      room,
      λ queued stores left. elim c.else-is_some.branch [
        | else-is_some-via-then-is_some+else-rows-rows_until w ↦
            let few = w.if-rows-rows_until.false in
            let all = w.rows_until.ensures.all stores rows left in
            absurd {A = room.arranges.calls ≡ []} (omega (arith, few, all, same))
        | else-is_some-via-else-is_some w ↦
            absurd {A = room.arranges.calls ≡ []} (false≢true (sym w.if-is_some.false ∙ c.is_some.ensures ∙ queued))
      ],
    )
