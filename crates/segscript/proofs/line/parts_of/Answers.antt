use Rattle.std.proofs.Common.{arith, refl, ℕ, length-drop}
use Rattle.std.proofs.lemmas.Grind.{common_steps}
use Rattle.std.proofs.lemmas.List.{take_all}
use Rattle.segscript.proofs.WordLemmas.{cut-start, cut-space, cut-other, cut-end, cut-more}
use Rattle.segscript.proofs.line.parts_of.Goals as goal
use Rattle.segscript.proofs.line.parts_of.Goals.{then-byte-eq32+else-is_full, else-byte-eq32}

pub loop-i-init : goal.loop-i-init
loop-i-init c = rw c.new-parts.ensures (cut-start c.args.line.now)

pub returns-then-is_full-clause-none : goal.returns-then-is_full-clause-none
returns-then-is_full-clause-none c =
    let h = cut-more (λ part. part.now) c.args.line.now c.loop-i.parts.items c.loop-i.start c.loop-i.i c.loop-i.invariant in grind (arith, common_steps, h)

pub loop-i-preserved : goal.loop-i-preserved
loop-i-preserved c =
    elim c.if-byte-eq32.branch [
      | then-byte-eq32+else-is_full w ↦
          rw (w.parts-is, w.start-is, w.push.ensures.items) (cut-space (λ part. part.now) _ _ _ _ _ c.loop-i.invariant c.loop-i-test.true w.if-byte-eq32.true refl)
      | else-byte-eq32 w ↦ rw (w.parts-is, w.start-is) (cut-other _ _ _ _ c.loop-i.invariant w.if-byte-eq32.false)
    ]

pub returns-clause-some : goal.returns-clause-some
returns-clause-some c = rw c.push-2.ensures.items (cut-end (λ part. part.now) _ _ _ _ _ c.loop-i.invariant (omega arith) (take_all _ _ (omega (arith, length-drop {A = ℕ}))))
