use Rattle.std.proofs.Common.{◌≡◌, ◌+◌, Some, sym, ap, ◌∙◌, subst, arith}
use Rattle.segcore.specs.Words.{row_after}
use Rattle.segcore.proofs.Spans.{header_some}
use Rattle.segbase.specs.Words.{trace, used_of}
use Rattle.segevict.proofs.KeptItems.{items_left, items_moved, kept_items_first, KeepingItems, used_left, used_moved}
use Rattle.segevict.proofs.Keeping.{keep_barred, keep_done, keep_stopped}
use Rattle.segevict.proofs.retention.keep_rows.Goals as goal
use Rattle.segevict.proofs.retention.keep_rows.Goals.{in-Moved, in-Left}

pub loop-row-init : goal.loop-row-init
loop-row-init c = kept_items_first c.args.board.now c.args.segment c.args.into c.args.cutoff c.args.pass.now c.requires.quiet

pub returns-in-NoRoom : goal.returns-in-NoRoom
returns-in-NoRoom c = let l = c.loop-row in let p = c.args.pass.now in let r = c.requires in record {
  keeps = keep_stopped c.args.board.now c.args.segment c.args.into c.args.cutoff l.row l.kept p l.pass r.quiet
      r.in_use r.target l.invariant.keeping c.unwrap-used.result (sym c.used.ensures ∙ c.unwrap-used.ensures)
      c.keep_used_row.new.pass c.loop-row-test.true c.in-NoRoom.ensures.keeps (let few = c.in-NoRoom.ensures.steps in omega (arith, few));
}

pub returns-in-Busy : goal.returns-in-Busy
returns-in-Busy c = let l = c.loop-row in let p = c.args.pass.now in let r = c.requires in record {
  keeps = keep_barred c.args.board.now c.args.segment c.args.into c.args.cutoff l.row l.kept p l.pass r.quiet
      r.in_use r.target l.invariant.keeping c.unwrap-used.result (sym c.used.ensures ∙ c.unwrap-used.ensures)
      c.keep_used_row.new.pass c.loop-row-test.true c.in-Busy.ensures.keeps (let few = c.in-Busy.ensures.steps in omega (arith, few));
}

pub rows_from-row-requires-clause-used : goal.rows_from-row-requires-clause-used
rows_from-row-requires-clause-used c = let b = c.args.board.now in let s = c.args.segment in let i = c.args.into in let p = c.args.pass.now in let l = c.loop-row in let q = c.requires in
    let used : used_of p s ≡ Some c.unwrap-used.result = sym c.used.ensures ∙ c.unwrap-used.ensures in let r = c.keep_used_row.new.pass in elim c.match-keep_used_row.branch [
      | in-Moved w ↦ used_moved b s i c.args.cutoff l.row l.kept c.unwrap-used.result 1 p l.pass q.quiet q.in_use q.target used c.loop-row-test.true l.invariant r w.in-Moved.ensures.keeps
      | in-Left w ↦ used_left b s i c.args.cutoff l.row l.kept c.unwrap-used.result 1 p l.pass q.quiet q.in_use q.target used c.loop-row-test.true l.invariant r w.in-Left.ensures.keeps
    ]

pub loop-row-preserved : goal.loop-row-preserved
loop-row-preserved c = let b = c.args.board.now in let s = c.args.segment in let i = c.args.into in let p = c.args.pass.now in let l = c.loop-row in let q = c.requires in
    let used : used_of p s ≡ Some c.unwrap-used.result = sym c.used.ensures ∙ c.unwrap-used.ensures in
    let r = c.keep_used_row.new.pass in let t = c.rows_from-row in elim c.match-keep_used_row.branch [
      | in-Moved w ↦ subst (λ n. KeepingItems b s i c.args.cutoff (l.row + t.result) n p t.new.pass) (sym w.kept-is)
          (items_moved b s i c.args.cutoff l.row l.kept c.unwrap-used.result t.result p l.pass q.quiet q.in_use q.target used c.loop-row-test.true l.invariant r t.new.pass
          t.ensures.idles t.ensures.steps t.ensures.rows w.in-Moved.ensures.keeps w.in-Moved.ensures.steps)
      | in-Left w ↦ subst (λ n. KeepingItems b s i c.args.cutoff (l.row + t.result) n p t.new.pass) (sym w.kept-is)
          (items_left b s i c.args.cutoff l.row l.kept c.unwrap-used.result t.result p l.pass q.quiet q.in_use q.target used c.loop-row-test.true l.invariant r t.new.pass
          t.ensures.idles t.ensures.steps t.ensures.rows w.in-Left.ensures.keeps w.in-Left.ensures.steps)
    ]

pub overflow_add-row : goal.overflow_add-row
overflow_add-row c = let within = (loop-row-preserved c).within c.unwrap-used.result (sym c.used.ensures ∙ c.unwrap-used.ensures) in
    let low = c.unwrap-used.type_inv in omega (arith, within, low)

pub loop-row-smaller : goal.loop-row-smaller
loop-row-smaller c = let is : used_of c.args.pass.now c.args.segment ≡ Some c.unwrap-used.result = sym c.used.ensures ∙ c.unwrap-used.ensures in
    let few = c.requires.quiet.segments.few c.args.segment c.unwrap-used.result is in
    let some = header_some ((row_after (trace c.rows_from-row.new.pass) c.args.segment c.loop-row.row).words 0) in
    let rows = c.rows_from-row.ensures.rows in let lt = c.loop-row-test.true in omega (arith, few, some, rows, lt)

pub returns : goal.returns
returns c = let l = c.loop-row in let p = c.args.pass.now in let r = c.requires in let over = c.loop-row-test.false in
    let is : used_of p c.args.segment ≡ Some c.unwrap-used.result = sym c.used.ensures ∙ c.unwrap-used.ensures in
    let most = l.invariant.within c.unwrap-used.result is in
    let all : used_of p c.args.segment ≡ Some l.row = is ∙ ap Some (let e : c.unwrap-used.result ≡ l.row = omega arith in e) in record {
      keeps = keep_done c.args.board.now c.args.segment c.args.into c.args.cutoff l.row l.kept p l.pass r.quiet r.in_use r.target l.invariant.keeping all;
    }
