use Rattle.std.proofs.Common.{◌<◌, ◌≤◌, subst, arith}
use Rattle.segword.specs.Words.{Shape}
use Rattle.segstore.proofs.Looks.{one_step}
use Rattle.segwrite.proofs.Drawing.{drawing_first, may_draw, drawing_later, drawn_now, drawn_steps, none_left}
use Rattle.segwrite.proofs.grow.draw.Goals as goal

pub loop-from-init : goal.loop-from-init
loop-from-init c = drawing_first c.args.board.now c.args.pass.now c.requires.pass

pub draw_overflow-requires-clause-may : goal.draw_overflow-requires-clause-may
draw_overflow-requires-clause-may c = let l = c.loop-from in
    may_draw c.args.board.now c.args.bucket l.from c.args.pass.now l.pass l.pass l.invariant c.requires.clean c.requires.short
    (subst (λ (s : Shape). l.from < s.overflow) c.shape.ensures c.loop-from-test.true)

pub loop-from-preserved : goal.loop-from-preserved
loop-from-preserved c = let l = c.loop-from in let step = c.draw_overflow.ensures.step.1 in
    drawing_later c.args.board.now c.args.bucket l.from c.args.pass.now l.pass c.draw_overflow.new.pass l.invariant
    c.requires.clean c.in-Err.counter c.in-Err.ensures.missed
    (one_step c.args.board.now l.pass c.draw_overflow.new.pass _ _ step) step.plain step.memo

pub returns-in-Ok : goal.returns-in-Ok
returns-in-Ok c = let l = c.loop-from in let step = c.draw_overflow.ensures.step.1 in record {
  draws = drawn_now c.args.board.now c.args.bucket l.from c.args.pass.now l.pass c.draw_overflow.new.pass l.invariant c.requires.clean c.in-Ok.ensures.drawn step.plain step.memo;
  steps = (let one = one_step c.args.board.now l.pass c.draw_overflow.new.pass _ _ step in let most = l.invariant.steps in
      let left = subst (λ (s : Shape). l.from < s.overflow) c.shape.ensures c.loop-from-test.true in omega (arith, one, most, left));
}

pub returns : goal.returns
returns c = let b = c.args.board.now in let l = c.loop-from in
    record {
      draws = none_left b c.args.bucket l.from c.args.pass.now l.pass l.invariant
          (subst (λ (s : Shape). s.overflow ≤ l.from) c.shape.ensures c.loop-from-test.false);
      steps = drawn_steps b l.from c.args.pass.now l.pass l.invariant;
    }
