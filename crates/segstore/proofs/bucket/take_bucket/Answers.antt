use Rattle.std.proofs.Common.{refl, ◌∙◌, arith}
use Rattle.segstore.proofs.Looks.{one_step}
use Rattle.segstore.proofs.Taking.{none_tried, tried_more, taken_at}
use Rattle.segstore.proofs.bucket.take_bucket.Goals as goal

pub loop-tries-init : goal.loop-tries-init
loop-tries-init c = record { tried = none_tried c.args.board.now c.args.bucket c.args.pass.now c.requires.pass; steps = omega arith; plain = refl; memo = refl }

pub returns-then-take-clause-takes : goal.returns-then-take-clause-takes
returns-then-take-clause-takes c =
    taken_at c.args.board.now c.args.bucket c.loop-tries.tries c.args.pass.now c.loop-tries.pass c.take.new.pass
    c.requires.bucket c.loop-tries-test.true c.loop-tries.invariant.tried c.if-take.ensures.takes

pub loop-tries-preserved : goal.loop-tries-preserved
loop-tries-preserved c = record {
  tried = tried_more c.args.board.now c.args.bucket c.loop-tries.tries c.args.pass.now c.loop-tries.pass c.take.new.pass c.requires.bucket c.loop-tries.invariant.tried c.if-take.ensures.takes;
  steps = (let before = c.loop-tries.invariant.steps in let one = one_step c.args.board.now c.loop-tries.pass c.take.new.pass _ _ c.if-take.ensures.step.1 in omega (arith, before, one));
  plain = c.if-take.ensures.step.1.plain ∙ c.loop-tries.invariant.plain;
  memo = c.if-take.ensures.step.1.memo ∙ c.loop-tries.invariant.memo;
}

pub returns-then-take-clause-steps : goal.returns-then-take-clause-steps
returns-then-take-clause-steps c =
    let before = c.loop-tries.invariant.steps in let less = c.loop-tries-test.true in
    let one = one_step c.args.board.now c.loop-tries.pass c.take.new.pass _ _ c.if-take.ensures.step.1 in omega (arith, before, less, one)
