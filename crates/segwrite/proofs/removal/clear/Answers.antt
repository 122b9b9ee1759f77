use Rattle.std.proofs.Common.{refl, ◌∙◌, arith}
use Rattle.segwrite.proofs.Linking.{retry_first, retry_later, came_about, unlink_event, is_unlink}
use Rattle.segstore.proofs.Looks.{one_step}
use Rattle.segwrite.proofs.Steps.{tried_few, tried_first, tried_later}
use Rattle.segwrite.proofs.removal.clear.Goals as goal

pub loop-found-init : goal.loop-found-init
loop-found-init g c = let r = c.requires in record {
  clearing = retry_first c.args.board.now g.left.0 (unlink_event g.left.0 g.left.1) c.args.target.place c.args.target.word c.args.pass.now r.0 r.1.0.guarded r.1.0 r.1.1.0 r.1.1.1.0 r.1.1.1.1;
  tried = tried_first c.args.target.word c.args.pass.now;
  plain = refl;
  memo = refl;
}

pub loop-found-preserved : goal.loop-found-preserved
loop-found-preserved g c = let i = c.loop-found.invariant in let s = c.clear.ensures.step.1 in
    let high = c.in-Err.ensures.missed.higher i.clearing.earlier.0 i.clearing.earlier.1 in record {
      clearing = retry_later c.args.board.now g.left.0 (unlink_event g.left.0 g.left.1) c.args.target.place
          c.loop-found.old c.in-Err.found c.args.pass.now c.loop-found.pass c.clear.new.pass i.clearing
          (is_unlink g.left.0 g.left.1) c.in-Err.ensures.missed;
      tried = tried_later c.args.target.word c.loop-found.old c.in-Err.found c.args.pass.now c.loop-found.pass c.clear.new.pass i.tried high.0 high.1
          (let one = one_step c.args.board.now c.loop-found.pass c.clear.new.pass _ _ s in omega (arith, one));
      plain = s.plain ∙ i.plain;
      memo = s.memo ∙ i.memo;
    }

pub returns-clause-did : goal.returns-clause-did
returns-clause-did g c =
    came_about c.args.board.now g.left.0 (unlink_event g.left.0 g.left.1) c.args.target.place c.loop-found.old 0
    c.args.pass.now c.loop-found.pass c.clear.new.pass c.loop-found.invariant.clearing
    c.in_default.ensures.cleared

pub returns-clause-steps : goal.returns-clause-steps
returns-clause-steps g c =
    tried_few c.args.target.word c.loop-found.old c.args.pass.now c.loop-found.pass c.clear.new.pass c.loop-found.invariant.tried
    (let one = one_step c.args.board.now c.loop-found.pass c.clear.new.pass _ _ c.clear.ensures.step.1 in omega (arith, one))
