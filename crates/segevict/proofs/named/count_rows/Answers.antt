use Rattle.std.proofs.Common.{◌≡◌, ◌<◌, is_some, sym, ap, subst, ◌∙◌, arith}
use Rattle.segword.specs.Words.{Shape}
use Rattle.segbase.specs.Words.{used_of}
use Rattle.segstore.proofs.Keeping.{same_used}
use Rattle.segevict.specs.Naming.{FindsNamed, own_at}
use Rattle.segevict.proofs.Naming.{all_counted, all_first, all_next, here, quiet_still, used_here}
use Rattle.segevict.proofs.named.count_rows.Goals as goal

pub loop-at-init : goal.loop-at-init
loop-at-init c = all_first c.args.board.now c.args.pass.now c.requires.quiet.pass

pub unwrap-rows-requires : goal.unwrap-rows-requires
unwrap-rows-requires c =
    let b = c.args.board.now in let p = c.args.pass.now in let l = c.loop-at in
    let at = here b p c.number.result c.shape-segments.result l.at c.requires.quiet c.number.ensures c.shape-segments.ensures in
    let lt : l.at < b.shape.segments_each = subst (λ (shape : Shape). l.at < shape.segments_each) c.shape-segments.ensures c.loop-at-test.true in
    ap is_some (c.used.ensures ∙ (ap (used_of l.pass) at ∙ same_used p l.pass (own_at b.shape p l.at) l.invariant.idles.plain)) ∙ used_here b p c.requires.quiet l.at lt

pub named_rows-named-requires-clause-quiet : goal.named_rows-named-requires-clause-quiet
named_rows-named-requires-clause-quiet c = quiet_still c.args.board.now c.args.pass.now c.loop-at.pass c.requires.quiet c.loop-at.invariant.idles

pub loop-at-preserved : goal.loop-at-preserved
loop-at-preserved c =
    let b = c.args.board.now in let p = c.args.pass.now in let l = c.loop-at in let n = c.named_rows-named in
    let at = here b p c.number.result c.shape-segments.result l.at c.requires.quiet c.number.ensures c.shape-segments.ensures in
    let lt : l.at < b.shape.segments_each = subst (λ (shape : Shape). l.at < shape.segments_each) c.shape-segments.ensures c.loop-at-test.true in
    all_next b l.at l.used l.named c.unwrap-rows.result n.result p l.pass n.new.pass c.requires.quiet lt l.invariant
    (ap (used_of l.pass) (sym at) ∙ (sym c.used.ensures ∙ c.unwrap-rows.ensures)) n.ensures.few n.ensures.idles
    (subst (λ s. FindsNamed b.shape s c.unwrap-rows.result n.result l.pass n.new.pass) at n.ensures.named)

pub returns-clause-counts : goal.returns-clause-counts
returns-clause-counts c =
    let b = c.args.board.now in let l = c.loop-at in let over = c.loop-at-test.false in let most = l.auto.at-end in
    let each = ap (λ (shape : Shape). shape.segments_each) c.shape-segments.ensures in
    all_counted b l.at l.used l.named c.args.pass.now l.pass (let e : l.at ≡ c.shape-segments.result.segments_each = omega arith in e ∙ each) l.invariant
