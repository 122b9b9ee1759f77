use Rattle.std.proofs.Common.{not, refl, ap, ◌∙◌}
use Rattle.segbase.proofs.Starting.{has_later}
use Rattle.segstore.proofs.Keeping.{owns_used}
use Rattle.segwrite.proofs.Places.{idles_then}
use Rattle.segevict.proofs.Seeking.{stored_over}
use Rattle.segevict.proofs.RowsOut.{quiet_looking, stored_taken, row_is_none, row_is_gone, row_is_barred, row_is_evicted, row_went, found_none, found_some, of_place}
use Rattle.segevict.proofs.eviction.evict_used_row.Goals as goal

pub returns-in_default-clause-evicts : goal.returns-in_default-clause-evicts
returns-in_default-clause-evicts c = let b = c.args.board.now in let p = c.args.pass.now in let used = c.requires.used in let r = c.in_default.ensures in
    row_is_none b c.args.segment c.args.row p c.item_at.new.pass c.requires.quiet (owns_used b p c.args.segment used.0 c.requires.quiet.pass used.1) r.idles (r.gone refl)

pub returns-then-is_none-clause-evicts : goal.returns-then-is_none-clause-evicts
returns-then-is_none-clause-evicts c = let b = c.args.board.now in let r = c.in-Some in let found = c.item_at.new.pass in let f = c.find_row in
    let i = idles_then b c.args.pass.now found f.new.pass r.ensures.idles f.ensures.idles in
    let first = has_later c.args.pass.now found f.new.pass r.ensures.idles.moved.same r.ensures.idles.moved.steps f.ensures.looks in
    let stored = stored_over b r.bucket r.item _ found f.new.pass f.ensures.idles.moved tt r.ensures.stored in
    let gone = found_none b r.bucket r.item f.result f.new.pass f.ensures.finds (c.is_none.ensures ∙ ap not c.if-is_none.true) in
    of_place b r.item c.args.segment c.args.row _ _ _ r.ensures.place
    (row_is_gone b r.bucket r.item c.args.pass.now f.new.pass c.requires.quiet i first stored gone)

pub take_to_write-requires-clause-pass : goal.take_to_write-requires-clause-pass
take_to_write-requires-clause-pass c = let b = c.args.board.now in let r = c.in-Some in let found = c.item_at.new.pass in let f = c.find_row in
    let i = idles_then b c.args.pass.now found f.new.pass r.ensures.idles f.ensures.idles in
    let first = has_later c.args.pass.now found f.new.pass r.ensures.idles.moved.same r.ensures.idles.moved.steps f.ensures.looks in
    let stored = stored_over b r.bucket r.item _ found f.new.pass f.ensures.idles.moved tt r.ensures.stored in
    quiet_looking b r.bucket r.item c.args.pass.now f.new.pass c.requires.quiet i first stored

pub returns-then-not-take_to_write-clause-evicts : goal.returns-then-not-take_to_write-clause-evicts
returns-then-not-take_to_write-clause-evicts c = let b = c.args.board.now in let r = c.in-Some in let found = c.item_at.new.pass in let f = c.find_row in
    let i = idles_then b c.args.pass.now found f.new.pass r.ensures.idles f.ensures.idles in
    let first = has_later c.args.pass.now found f.new.pass r.ensures.idles.moved.same r.ensures.idles.moved.steps f.ensures.looks in
    let stored = stored_over b r.bucket r.item _ found f.new.pass f.ensures.idles.moved tt r.ensures.stored in
    let named = found_some b r.bucket r.item f.result f.new.pass f.ensures.finds (c.is_none.ensures ∙ ap not c.if-is_none.false) in
    of_place b r.item c.args.segment c.args.row _ _ _ r.ensures.place
    (row_is_barred b r.bucket r.item c.args.pass.now f.new.pass c.requires.quiet i first stored c.take_to_write.new.pass named.0 named.1 c.if-not-take_to_write.ensures.takes)

pub clear_row-is_evicted-requires-clause-stored : goal.clear_row-is_evicted-requires-clause-stored
clear_row-is_evicted-requires-clause-stored c = let b = c.args.board.now in let r = c.in-Some in let found = c.item_at.new.pass in let f = c.find_row in
    let i = idles_then b c.args.pass.now found f.new.pass r.ensures.idles f.ensures.idles in
    let first = has_later c.args.pass.now found f.new.pass r.ensures.idles.moved.same r.ensures.idles.moved.steps f.ensures.looks in
    let stored = stored_over b r.bucket r.item _ found f.new.pass f.ensures.idles.moved tt r.ensures.stored in
    stored_taken b r.bucket r.item c.args.pass.now f.new.pass c.requires.quiet i first stored c.take_to_write.new.pass c.if-not-take_to_write.ensures.takes

pub returns-then-is_evicted-clause-evicts : goal.returns-then-is_evicted-clause-evicts
returns-then-is_evicted-clause-evicts c = let b = c.args.board.now in let r = c.in-Some in let found = c.item_at.new.pass in let f = c.find_row in
    let i = idles_then b c.args.pass.now found f.new.pass r.ensures.idles f.ensures.idles in
    let first = has_later c.args.pass.now found f.new.pass r.ensures.idles.moved.same r.ensures.idles.moved.steps f.ensures.looks in
    let stored = stored_over b r.bucket r.item _ found f.new.pass f.ensures.idles.moved tt r.ensures.stored in
    let named = found_some b r.bucket r.item f.result f.new.pass f.ensures.finds (c.is_none.ensures ∙ ap not c.if-is_none.false) in
    let done = c.if-is_evicted.ensures in let step = c.release.ensures.step.1 in
    of_place b r.item c.args.segment c.args.row _ _ _ r.ensures.place
    (row_is_evicted b r.bucket r.item c.args.pass.now f.new.pass c.requires.quiet i first stored c.take_to_write.new.pass c.if-not-take_to_write.ensures.takes named.0 named.1
    c.clear_row-is_evicted.new.pass c.release.new.pass done.takes c.release.ensures.did c.release.ensures.free done.same.0 done.same.1 step.plain step.memo)

pub returns-else-is_evicted-clause-evicts : goal.returns-else-is_evicted-clause-evicts
returns-else-is_evicted-clause-evicts c = let b = c.args.board.now in let r = c.in-Some in let found = c.item_at.new.pass in let f = c.find_row in
    let i = idles_then b c.args.pass.now found f.new.pass r.ensures.idles f.ensures.idles in
    let first = has_later c.args.pass.now found f.new.pass r.ensures.idles.moved.same r.ensures.idles.moved.steps f.ensures.looks in
    let stored = stored_over b r.bucket r.item _ found f.new.pass f.ensures.idles.moved tt r.ensures.stored in
    let named = found_some b r.bucket r.item f.result f.new.pass f.ensures.finds (c.is_none.ensures ∙ ap not c.if-is_none.false) in
    let done = c.if-is_evicted.ensures in let step = c.release.ensures.step.1 in
    of_place b r.item c.args.segment c.args.row _ _ _ r.ensures.place
    (row_went b r.bucket r.item c.args.pass.now f.new.pass c.requires.quiet i first stored c.take_to_write.new.pass c.if-not-take_to_write.ensures.takes named.0 named.1
    c.clear_row-is_evicted.new.pass c.release.new.pass done.takes c.release.ensures.did c.release.ensures.free done.same.0 done.same.1 step.plain step.memo)
