use Rattle.std.proofs.Common.{◌+◌, sym, subst}
use Rattle.segwrite.proofs.Places.{idles_then}
use Rattle.segevict.specs.Naming.{ReturnsNamed}
use Rattle.segevict.proofs.NamedItems.{CountingItems, has_pair, items_counted, items_counted_first, items_passed}
use Rattle.segevict.proofs.Naming.{quiet_still, used_still}
use Rattle.segevict.proofs.named.named_rows.Goals as goal
use Rattle.segevict.proofs.named.named_rows.Goals.{then-is_named, else-is_named}

pub loop-row-init : goal.loop-row-init
loop-row-init c = items_counted_first c.args.board.now c.args.segment c.args.pass.now c.requires.quiet

pub rows_from-rows-requires-clause-quiet : goal.rows_from-rows-requires-clause-quiet
rows_from-rows-requires-clause-quiet c = quiet_still c.args.board.now c.args.pass.now c.loop-row.pass c.requires.quiet c.loop-row.invariant.counting.idles

pub rows_from-rows-requires-clause-used : goal.rows_from-rows-requires-clause-used
rows_from-rows-requires-clause-used c =
    used_still c.args.board.now c.args.segment c.loop-row.row c.args.used c.args.pass.now c.loop-row.pass c.loop-row.invariant.counting.idles c.requires.used c.loop-row-test.true

pub is_named-requires-clause-quiet : goal.is_named-requires-clause-quiet
is_named-requires-clause-quiet c = let b = c.args.board.now in let l = c.loop-row in
    quiet_still b l.pass c.rows_from-rows.new.pass (quiet_still b c.args.pass.now l.pass c.requires.quiet l.invariant.counting.idles) c.rows_from-rows.ensures.idles

pub is_named-requires-clause-used : goal.is_named-requires-clause-used
is_named-requires-clause-used c = let b = c.args.board.now in let l = c.loop-row in let f = c.rows_from-rows in
    used_still b c.args.segment l.row c.args.used c.args.pass.now f.new.pass
    (idles_then b c.args.pass.now l.pass f.new.pass l.invariant.counting.idles f.ensures.idles) c.requires.used c.loop-row-test.true

pub is_named-requires-clause-pair : goal.is_named-requires-clause-pair
is_named-requires-clause-pair c = let l = c.loop-row in let f = c.rows_from-rows in
    has_pair c.args.board.now c.args.segment l.row l.named c.args.used f.result c.args.pass.now l.pass f.new.pass c.requires.quiet
    c.requires.used c.loop-row-test.true l.invariant f.ensures.idles f.ensures.rows

pub loop-row-preserved : goal.loop-row-preserved
loop-row-preserved c = let b = c.args.board.now in let s = c.args.segment in let l = c.loop-row in let p = c.args.pass.now in let f = c.rows_from-rows in
    let n = c.is_named in elim c.if-is_named.branch [
      | then-is_named w ↦ subst (λ k. CountingItems b s (l.row + f.result) k p n.new.pass) (sym w.named-is)
          (items_counted b s l.row l.named c.args.used f.result p l.pass f.new.pass c.requires.quiet c.requires.used c.loop-row-test.true l.invariant f.ensures.idles f.ensures.rows
          n.new.pass n.ensures.idles n.ensures.looks (subst (λ t. ReturnsNamed b.shape s l.row t n.new.pass) w.if-is_named.true n.ensures.told))
      | else-is_named w ↦ subst (λ k. CountingItems b s (l.row + f.result) k p n.new.pass) (sym w.named-is)
          (items_passed b s l.row l.named c.args.used f.result p l.pass f.new.pass c.requires.quiet c.requires.used c.loop-row-test.true l.invariant f.ensures.idles f.ensures.rows
          n.new.pass n.ensures.idles (subst (λ t. ReturnsNamed b.shape s l.row t n.new.pass) w.if-is_named.false n.ensures.told))
    ]
