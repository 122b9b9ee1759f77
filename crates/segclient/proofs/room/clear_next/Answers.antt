use Rattle.std.proofs.Common.{◌≡◌, ◌≢◌, ◌+◌, Some, refl, sym, ◌∙◌, arith, rules}
use Rattle.segmodel.specs.Words.{owner}
use Rattle.segbase.specs.Words.{current_of, number}
use Rattle.segindex.specs.Words.{board_of}
use Rattle.segevict.proofs.RowsOut.{goes_then}
use Rattle.segtally.proofs.Turns.{own_in_ring}
use Rattle.segclient.specs.PutParts.{effort_from}
use Rattle.segclient.proofs.Calls.{arranges_as, arranges_then, evict_arranges, none_arranges}
use Rattle.segclient.proofs.Rooms.{evict_until, until_then}
use Rattle.segclient.proofs.room.clear_next.Goals as goal

pub returns-then-eq-clause-clears : goal.returns-then-eq-clause-clears
returns-then-eq-clause-clears c = λ deadline. none_arranges (board_of c.args.index.now) (Some c.args.cutoff) deadline _ c.none.result c.args.pass.now c.none.ensures

pub returns-clause-on : goal.returns-clause-on
returns-clause-on c = goes_then (board_of c.args.index.now) c.args.pass.now c.keep_rows-kept.new.pass c.evict.new.pass c.keep_rows-kept.ensures.on c.evict.ensures.evicts.on

pub returns-clause-until : goal.returns-clause-until
returns-clause-until c =
    let b = board_of c.args.index.now in
    let p = c.args.pass.now in
    let kept = c.keep_rows-kept in
    let segment = c.peek-segment.result in
    let apart : current_of p ≢ Some segment = search rules in
    until_then p kept.new.pass c.evict.new.pass kept.ensures.until
    (evict_until b segment c.evict.result kept.new.pass c.evict.new.pass c.evict.ensures.evicts (λ here. apart (sym kept.ensures.current ∙ here)))

pub returns-clause-clears : goal.returns-clause-clears
returns-clause-clears c = λ deadline.
    let b = board_of c.args.index.now in
    let p = c.args.pass.now in
    let kept = c.keep_rows-kept in
    let segment = c.peek-segment.result in
    let range = c.peek-segment.ensures.in_range in
    let own : owner b.shape segment ≡ number kept.new.pass = own_in_ring b (number p) c.args.ring.now segment c.requires.own range.0 range.1 ∙ sym kept.ensures.on.same in
    let out = effort_from 0 0 c.from-2.result in
    arranges_as b (Some c.args.cutoff) deadline (b.shape.rows + 1) (b.shape.rows + 1)
    (effort_from (0 + 0) (kept.result + 0) (0 + c.from-2.result)) (effort_from 0 c.from.result c.from-2.result)
    p c.evict.new.pass (omega arith)
    refl (let same = c.from.ensures in omega (arith, same)) (omega arith)
    (arranges_then b (Some c.args.cutoff) deadline b.shape.rows 1 (effort_from 0 kept.result 0) out p kept.new.pass c.evict.new.pass (kept.ensures.keeps deadline)
    (evict_arranges b (Some c.args.cutoff) deadline segment c.evict.result out kept.new.pass c.evict.new.pass refl refl (c.from-2.ensures ∙ c.evicted_by-keys.ensures) own c.evict.ensures.evicts))
