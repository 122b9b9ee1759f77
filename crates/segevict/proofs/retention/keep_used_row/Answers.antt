use Rattle.std.proofs.Common.{refl}
use Rattle.segstore.proofs.Seconds.{unpacked}
use Rattle.segevict.proofs.RowsLeft.{rows_there}
use Rattle.segevict.proofs.KeptRows.{kept_place, may_release, next_q, row_busy, row_gone, row_moved, row_no_room, row_passed, row_seldom, row_went, segments_q, stored_q, target_place, target_q}
use Rattle.segevict.proofs.LookedFor.{looked_for, next_taken, none_taken, quiet_idle, some_item, stored_still}
use Rattle.segevict.proofs.retention.keep_used_row.Goals as goal

pub returns-in_default-clause-keeps : goal.returns-in_default-clause-keeps
returns-in_default-clause-keeps c = let e = c.in_default.ensures in
    row_passed c.args.board.now c.args.row.segment c.args.row.row c.args.into c.args.cutoff c.args.pass.now c.item_at.new.pass c.requires.quiet e.idles (e.gone refl)

pub rows_from-rows-requires-clause-quiet : goal.rows_from-rows-requires-clause-quiet
rows_from-rows-requires-clause-quiet c = quiet_idle c.args.board.now c.args.pass.now c.item_at.new.pass c.requires.quiet c.in-Some.ensures.idles

pub find_row-requires-clause-stored : goal.find_row-requires-clause-stored
find_row-requires-clause-stored c = let e = c.in-Some.ensures in
    stored_still c.args.board.now c.in-Some.bucket c.in-Some.item c.args.row.segment c.args.row.row c.rows_from-rows.result
    c.args.pass.now c.item_at.new.pass c.rows_from-rows.new.pass e.idles e.stored c.rows_from-rows.ensures.idles

pub returns-in_default-find_row-clause-keeps : goal.returns-in_default-find_row-clause-keeps
returns-in_default-find_row-clause-keeps c = let b = c.args.board.now in let p = c.args.pass.now in let sought = c.in-Some.item in let e = c.in-Some.ensures in
    let a = c.item_at.new.pass in let g = c.rows_from-rows.new.pass in let f = c.find_row.new.pass in let rows = c.rows_from-rows.result in
    let l = looked_for b c.in-Some.bucket sought c.args.row.segment c.args.row.row rows p a g e.idles e.stored
    c.rows_from-rows.ensures.idles f e.place c.rows_from-rows.ensures.rows c.find_row.ensures.idles c.find_row.ensures.looks in
    kept_place b sought c.args.row.segment c.args.row.row c.args.into c.args.cutoff _ _ _ e.place
    (row_gone b c.in-Some.bucket sought c.args.into c.args.cutoff p f c.requires.quiet l.idles l.first l.stored c.in_default-find_row.ensures.finds)

pub unwrap-requires : goal.unwrap-requires
unwrap-requires c = some_item c.unpack.result c.in-Some-find_row.seen.word _ c.unpack.ensures.none c.in-Some-find_row.ensures.finds.same

pub returns-then-unwrap-cutoff-clause-keeps : goal.returns-then-unwrap-cutoff-clause-keeps
returns-then-unwrap-cutoff-clause-keeps c = let b = c.args.board.now in let p = c.args.pass.now in let sought = c.in-Some.item in let e = c.in-Some.ensures in
    let a = c.item_at.new.pass in let g = c.rows_from-rows.new.pass in let f = c.find_row.new.pass in let rows = c.rows_from-rows.result in
    let l = looked_for b c.in-Some.bucket sought c.args.row.segment c.args.row.row rows p a g e.idles e.stored
    c.rows_from-rows.ensures.idles f e.place c.rows_from-rows.ensures.rows c.find_row.ensures.idles c.find_row.ensures.looks in
    let word = unpacked c.unpack.result c.unwrap.result c.in-Some-find_row.seen.word c.unpack.ensures.some c.unwrap.ensures in
    kept_place b sought c.args.row.segment c.args.row.row c.args.into c.args.cutoff _ _ _ e.place
    (row_seldom b c.in-Some.bucket sought c.args.into c.args.cutoff p f c.requires.quiet l.idles l.first l.stored
    c.in-Some-find_row.seen c.in-Some-find_row.ensures.finds c.unwrap.result word c.if-unwrap-cutoff.true)

pub returns-in_default-next_rows_in-clause-keeps : goal.returns-in_default-next_rows_in-clause-keeps
returns-in_default-next_rows_in-clause-keeps c = let b = c.args.board.now in let p = c.args.pass.now in let sought = c.in-Some.item in let e = c.in-Some.ensures in
    let a = c.item_at.new.pass in let g = c.rows_from-rows.new.pass in let f = c.find_row.new.pass in let rows = c.rows_from-rows.result in
    let l = looked_for b c.in-Some.bucket sought c.args.row.segment c.args.row.row rows p a g e.idles e.stored
    c.rows_from-rows.ensures.idles f e.place c.rows_from-rows.ensures.rows c.find_row.ensures.idles c.find_row.ensures.looks in
    let word = unpacked c.unpack.result c.unwrap.result c.in-Some-find_row.seen.word c.unpack.ensures.some c.unwrap.ensures in
    kept_place b sought c.args.row.segment c.args.row.row c.args.into c.args.cutoff _ _ _ e.place
    (row_no_room b c.in-Some.bucket sought c.args.into c.args.cutoff p f c.requires.quiet l.idles l.first l.stored
    c.in-Some-find_row.seen c.in-Some-find_row.ensures.finds c.unwrap.result word c.if-unwrap-cutoff.false
    (none_taken b c.in-Some.bucket sought rows c.args.into p f l c.in_default-next_rows_in.ensures.next))

pub take_to_write-requires-clause-pass : goal.take_to_write-requires-clause-pass
take_to_write-requires-clause-pass c = let b = c.args.board.now in let p = c.args.pass.now in let sought = c.in-Some.item in let e = c.in-Some.ensures in
    let a = c.item_at.new.pass in let g = c.rows_from-rows.new.pass in let f = c.find_row.new.pass in let rows = c.rows_from-rows.result in
    let l = looked_for b c.in-Some.bucket sought c.args.row.segment c.args.row.row rows p a g e.idles e.stored
    c.rows_from-rows.ensures.idles f e.place c.rows_from-rows.ensures.rows c.find_row.ensures.idles c.find_row.ensures.looks in
    quiet_idle b p f c.requires.quiet l.idles

pub returns-then-not-take_to_write-clause-keeps : goal.returns-then-not-take_to_write-clause-keeps
returns-then-not-take_to_write-clause-keeps c = let b = c.args.board.now in let p = c.args.pass.now in let sought = c.in-Some.item in let e = c.in-Some.ensures in
    let a = c.item_at.new.pass in let g = c.rows_from-rows.new.pass in let f = c.find_row.new.pass in let rows = c.rows_from-rows.result in
    let l = looked_for b c.in-Some.bucket sought c.args.row.segment c.args.row.row rows p a g e.idles e.stored
    c.rows_from-rows.ensures.idles f e.place c.rows_from-rows.ensures.rows c.find_row.ensures.idles c.find_row.ensures.looks in
    let word = unpacked c.unpack.result c.unwrap.result c.in-Some-find_row.seen.word c.unpack.ensures.some c.unwrap.ensures in
    let next = next_taken b c.in-Some.bucket sought rows c.args.into p f l c.in-Some-next_rows_in.next c.in-Some-next_rows_in.ensures.next in
    kept_place b sought c.args.row.segment c.args.row.row c.args.into c.args.cutoff _ _ _ e.place
    (row_busy b c.in-Some.bucket sought c.args.into c.args.cutoff p f c.requires.quiet l.idles l.first l.stored
    c.in-Some-find_row.seen c.in-Some-find_row.ensures.finds c.unwrap.result word c.if-unwrap-cutoff.false
    c.take_to_write.new.pass (rows_there b c.args.into c.in-Some-next_rows_in.next _ f next) c.if-not-take_to_write.ensures.takes)

pub move_rows-is_moved-requires-clause-segments : goal.move_rows-is_moved-requires-clause-segments
move_rows-is_moved-requires-clause-segments c = let b = c.args.board.now in let p = c.args.pass.now in let sought = c.in-Some.item in let e = c.in-Some.ensures in
    let a = c.item_at.new.pass in let g = c.rows_from-rows.new.pass in let f = c.find_row.new.pass in let rows = c.rows_from-rows.result in
    let l = looked_for b c.in-Some.bucket sought c.args.row.segment c.args.row.row rows p a g e.idles e.stored
    c.rows_from-rows.ensures.idles f e.place c.rows_from-rows.ensures.rows c.find_row.ensures.idles c.find_row.ensures.looks in
    let word = unpacked c.unpack.result c.unwrap.result c.in-Some-find_row.seen.word c.unpack.ensures.some c.unwrap.ensures in
    segments_q b c.in-Some.bucket sought c.args.into c.args.cutoff p f c.requires.quiet l.idles l.first l.stored
    c.in-Some-find_row.seen c.in-Some-find_row.ensures.finds c.unwrap.result word c.if-unwrap-cutoff.false
    c.take_to_write.new.pass c.if-not-take_to_write.ensures.takes

pub move_rows-is_moved-requires-clause-stored : goal.move_rows-is_moved-requires-clause-stored
move_rows-is_moved-requires-clause-stored c = let b = c.args.board.now in let p = c.args.pass.now in let sought = c.in-Some.item in let e = c.in-Some.ensures in
    let a = c.item_at.new.pass in let g = c.rows_from-rows.new.pass in let f = c.find_row.new.pass in let rows = c.rows_from-rows.result in
    let l = looked_for b c.in-Some.bucket sought c.args.row.segment c.args.row.row rows p a g e.idles e.stored
    c.rows_from-rows.ensures.idles f e.place c.rows_from-rows.ensures.rows c.find_row.ensures.idles c.find_row.ensures.looks in
    let word = unpacked c.unpack.result c.unwrap.result c.in-Some-find_row.seen.word c.unpack.ensures.some c.unwrap.ensures in
    stored_q b c.in-Some.bucket sought c.args.into c.args.cutoff p f c.requires.quiet l.idles l.first l.stored
    c.in-Some-find_row.seen c.in-Some-find_row.ensures.finds c.unwrap.result word c.if-unwrap-cutoff.false
    c.take_to_write.new.pass c.if-not-take_to_write.ensures.takes

pub move_rows-is_moved-requires-clause-target : goal.move_rows-is_moved-requires-clause-target
move_rows-is_moved-requires-clause-target c = let b = c.args.board.now in let p = c.args.pass.now in let sought = c.in-Some.item in let e = c.in-Some.ensures in
    let a = c.item_at.new.pass in let g = c.rows_from-rows.new.pass in let f = c.find_row.new.pass in let rows = c.rows_from-rows.result in
    let l = looked_for b c.in-Some.bucket sought c.args.row.segment c.args.row.row rows p a g e.idles e.stored
    c.rows_from-rows.ensures.idles f e.place c.rows_from-rows.ensures.rows c.find_row.ensures.idles c.find_row.ensures.looks in
    let word = unpacked c.unpack.result c.unwrap.result c.in-Some-find_row.seen.word c.unpack.ensures.some c.unwrap.ensures in
    target_q b c.in-Some.bucket sought c.args.into c.args.cutoff p f c.requires.quiet l.idles l.first l.stored
    c.in-Some-find_row.seen c.in-Some-find_row.ensures.finds c.unwrap.result word c.if-unwrap-cutoff.false
    c.take_to_write.new.pass c.if-not-take_to_write.ensures.takes
    (target_place sought c.args.row.segment c.args.into p e.place.0 c.requires.target)

pub move_rows-is_moved-requires-clause-next : goal.move_rows-is_moved-requires-clause-next
move_rows-is_moved-requires-clause-next c = let b = c.args.board.now in let p = c.args.pass.now in let sought = c.in-Some.item in let e = c.in-Some.ensures in
    let a = c.item_at.new.pass in let g = c.rows_from-rows.new.pass in let f = c.find_row.new.pass in let rows = c.rows_from-rows.result in
    let l = looked_for b c.in-Some.bucket sought c.args.row.segment c.args.row.row rows p a g e.idles e.stored
    c.rows_from-rows.ensures.idles f e.place c.rows_from-rows.ensures.rows c.find_row.ensures.idles c.find_row.ensures.looks in
    let word = unpacked c.unpack.result c.unwrap.result c.in-Some-find_row.seen.word c.unpack.ensures.some c.unwrap.ensures in
    let next = next_taken b c.in-Some.bucket sought rows c.args.into p f l c.in-Some-next_rows_in.next c.in-Some-next_rows_in.ensures.next in
    next_q b c.in-Some.bucket sought c.args.into c.args.cutoff p f c.requires.quiet l.idles l.first l.stored
    c.in-Some-find_row.seen c.in-Some-find_row.ensures.finds c.unwrap.result word c.if-unwrap-cutoff.false
    c.take_to_write.new.pass c.if-not-take_to_write.ensures.takes c.in-Some-next_rows_in.next next

pub release-requires : goal.release-requires
release-requires c = let t = c.move_rows-is_moved.ensures.moves in (
  may_release c.args.board.now c.in-Some.bucket c.in-Some.item c.args.into c.in-Some-next_rows_in.next c.move_rows-is_moved.result
      c.take_to_write.new.pass c.move_rows-is_moved.new.pass t,
  (t.bit.bit, t.bit.unwritten, t.bit.undrawn, tt),
)

pub returns-then-is_moved-clause-keeps : goal.returns-then-is_moved-clause-keeps
returns-then-is_moved-clause-keeps c = let b = c.args.board.now in let p = c.args.pass.now in let sought = c.in-Some.item in let e = c.in-Some.ensures in
    let a = c.item_at.new.pass in let g = c.rows_from-rows.new.pass in let f = c.find_row.new.pass in let rows = c.rows_from-rows.result in
    let l = looked_for b c.in-Some.bucket sought c.args.row.segment c.args.row.row rows p a g e.idles e.stored
    c.rows_from-rows.ensures.idles f e.place c.rows_from-rows.ensures.rows c.find_row.ensures.idles c.find_row.ensures.looks in
    let word = unpacked c.unpack.result c.unwrap.result c.in-Some-find_row.seen.word c.unpack.ensures.some c.unwrap.ensures in
    let next = next_taken b c.in-Some.bucket sought rows c.args.into p f l c.in-Some-next_rows_in.next c.in-Some-next_rows_in.ensures.next in
    let step = c.release.ensures.step.1 in
    kept_place b sought c.args.row.segment c.args.row.row c.args.into c.args.cutoff _ _ _ e.place
    (row_moved b c.in-Some.bucket sought c.args.into c.args.cutoff p f c.requires.quiet l.idles l.first l.stored
    c.in-Some-find_row.seen c.in-Some-find_row.ensures.finds c.unwrap.result word c.if-unwrap-cutoff.false
    c.take_to_write.new.pass c.if-not-take_to_write.ensures.takes c.in-Some-next_rows_in.next next
    c.move_rows-is_moved.new.pass c.release.new.pass c.if-is_moved.ensures.moves c.release.ensures.did c.release.ensures.free step.plain step.memo)

pub returns-else-is_moved-clause-keeps : goal.returns-else-is_moved-clause-keeps
returns-else-is_moved-clause-keeps c = let b = c.args.board.now in let p = c.args.pass.now in let sought = c.in-Some.item in let e = c.in-Some.ensures in
    let a = c.item_at.new.pass in let g = c.rows_from-rows.new.pass in let f = c.find_row.new.pass in let rows = c.rows_from-rows.result in
    let l = looked_for b c.in-Some.bucket sought c.args.row.segment c.args.row.row rows p a g e.idles e.stored
    c.rows_from-rows.ensures.idles f e.place c.rows_from-rows.ensures.rows c.find_row.ensures.idles c.find_row.ensures.looks in
    let word = unpacked c.unpack.result c.unwrap.result c.in-Some-find_row.seen.word c.unpack.ensures.some c.unwrap.ensures in
    let next = next_taken b c.in-Some.bucket sought rows c.args.into p f l c.in-Some-next_rows_in.next c.in-Some-next_rows_in.ensures.next in
    let step = c.release.ensures.step.1 in
    kept_place b sought c.args.row.segment c.args.row.row c.args.into c.args.cutoff _ _ _ e.place
    (row_went b c.in-Some.bucket sought c.args.into c.args.cutoff p f c.requires.quiet l.idles l.first l.stored
    c.in-Some-find_row.seen c.in-Some-find_row.ensures.finds c.unwrap.result word c.if-unwrap-cutoff.false
    c.take_to_write.new.pass c.if-not-take_to_write.ensures.takes
    (rows_there b c.args.into c.in-Some-next_rows_in.next _ f next) c.in-Some-next_rows_in.next
    c.move_rows-is_moved.new.pass c.release.new.pass c.if-is_moved.ensures.moves c.release.ensures.did c.release.ensures.free step.plain step.memo)
