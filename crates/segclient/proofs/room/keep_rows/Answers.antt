use Rattle.std.proofs.Common.{◌+◌, Some, refl, ap, ◌∙◌, arith}
use Rattle.segindex.specs.Words.{board_of}
use Rattle.segstore.proofs.Idling.{goes_same}
use Rattle.segevict.proofs.RowsOut.{goes_then}
use Rattle.segclient.specs.PutParts.{effort_from}
use Rattle.segclient.proofs.Calls.{arranges_as, arranges_none, row_more}
use Rattle.segclient.proofs.Rooms.{row_current, row_until, until_same, until_then}
use Rattle.segclient.proofs.room.keep_rows.Goals as goal

pub loop-row-init : goal.loop-row-init
loop-row-init c = record {
  on = goes_same (board_of c.args.index.now) c.args.pass.now c.requires.quiet;
  current = refl;
  until = until_same c.args.pass.now;
  few = omega arith;
  keeps = λ deadline. arranges_none (board_of c.args.index.now) (Some c.args.cutoff) deadline c.args.pass.now;
}

pub loop-row-preserved : goal.loop-row-preserved
loop-row-preserved c =
    let b = board_of c.args.index.now in
    let p = c.args.pass.now in
    let q = c.loop-row.pass in
    let r = c.keep_row-told.new.pass in
    let was = c.loop-row.invariant in
    let stayed = c.keep_row-told.ensures.keeps in
    let moved = c.moved_by-kept in
    let segment = c.args.segment in
    let row = c.loop-row.row in
    let cutoff = c.args.cutoff in
    let told = c.keep_row-told.result in
    record {
      on = goes_then b p q r was.on stayed.on;
      current = row_current b segment row cutoff q r told stayed ∙ was.current;
      until = until_then p q r was.until (row_until b segment row cutoff q r told stayed);
      few = let few = was.few in let one = moved.ensures.few in omega (arith, few, one);
      keeps = λ deadline. row_more b (Some cutoff) deadline cutoff segment row cutoff row moved.result
          c.loop-row.kept told p q r refl (omega arith) c.requires.own was.on.same
          (moved.ensures.value segment row cutoff) (was.keeps deadline) stayed;
    }

pub returns-in-NoRoom : goal.returns-in-NoRoom
returns-in-NoRoom c =
    let b = board_of c.args.index.now in
    let p = c.args.pass.now in
    let q = c.loop-row.pass in
    let r = c.keep_row-told.new.pass in
    let was = c.loop-row.invariant in
    let stayed = c.keep_row-told.ensures.keeps in
    let moved = c.moved_by-kept in
    let segment = c.args.segment in
    let row = c.loop-row.row in
    let cutoff = c.args.cutoff in
    let told = c.keep_row-told.result in
    let below = c.loop-row-test.true in
    let rows = ap (λ s. s.rows) c.shape-row-end.ensures in
    let effort = effort_from 0 (c.loop-row.kept + moved.result) 0 in
    record {
      on = goes_then b p q r was.on stayed.on;
      current = row_current b segment row cutoff q r told stayed ∙ was.current;
      until = until_then p q r was.until (row_until b segment row cutoff q r told stayed);
      few = let few = was.few in let one = moved.ensures.few in omega (arith, few, one, below, rows);
      keeps = λ deadline. arranges_as b (Some cutoff) deadline (row + 1) b.shape.rows effort effort p r (omega (arith, below, rows)) refl refl refl
          (row_more b (Some cutoff) deadline cutoff segment row cutoff row moved.result c.loop-row.kept told p q r
          refl (omega arith) c.requires.own was.on.same (moved.ensures.value segment row cutoff)
          (was.keeps deadline) stayed);
    }
