use Rattle.std.proofs.Common.{refl, ◌∙◌, arith}
use Rattle.segmodel.specs.Words.{key_of}
use Rattle.segwrite.proofs.Linking.{own_item, retry_first, retry_later, came_about, link_event, is_link}
use Rattle.segstore.proofs.Looks.{one_step}
use Rattle.segwrite.proofs.Steps.{tried_few, tried_first, tried_later}
use Rattle.segwrite.proofs.writing.link.Goals as goal

pub loop-found-init : goal.loop-found-init
loop-found-init g c = let b = c.args.board.now in let r = c.requires in let item = c.args.item in let target = c.args.target in
    let own = own_item b (key_of g.request) target c.args.pass.now r.1.1.0 c.if-target-eq0.false in record {
      linking = retry_first b (key_of g.request) (link_event g.request item.seg item.row) target.place target.word c.args.pass.now r.0 r.1.1.1.0.guarded r.1.1.1.0 r.1.1.0.chain own.0 own.1;
      tried = tried_first target.word c.args.pass.now;
      plain = refl;
      memo = refl;
    }

pub loop-found-preserved : goal.loop-found-preserved
loop-found-preserved g c = let i = c.loop-found.invariant in let s = c.replace.ensures.step.1 in let item = c.args.item in
    let high = c.in-Err.ensures.missed.higher i.linking.earlier.0 i.linking.earlier.1 in record {
      linking = retry_later c.args.board.now (key_of g.request) (link_event g.request item.seg item.row)
          c.args.target.place c.loop-found.old c.in-Err.found c.args.pass.now c.loop-found.pass c.replace.new.pass
          i.linking
          (is_link g.request item.seg item.row) c.in-Err.ensures.missed;
      tried = tried_later c.args.target.word c.loop-found.old c.in-Err.found c.args.pass.now c.loop-found.pass c.replace.new.pass i.tried high.0 high.1
          (let one = one_step c.args.board.now c.loop-found.pass c.replace.new.pass _ _ s in omega (arith, one));
      plain = s.plain ∙ i.plain;
      memo = s.memo ∙ i.memo;
    }

pub returns-clause-did : goal.returns-clause-did
returns-clause-did g c = let item = c.args.item in
    came_about c.args.board.now (key_of g.request) (link_event g.request item.seg item.row) c.args.target.place
    c.loop-found.old 0 c.args.pass.now c.loop-found.pass c.replace.new.pass c.loop-found.invariant.linking
    c.in_default.ensures.replaced

pub returns-then-target-eq0-clause-steps : goal.returns-then-target-eq0-clause-steps
returns-then-target-eq0-clause-steps g c = let one = one_step c.args.board.now c.args.pass.now c.link.new.pass _ _ c.link.ensures.step.1 in omega (arith, one)

pub returns-clause-steps : goal.returns-clause-steps
returns-clause-steps g c =
    tried_few c.args.target.word c.loop-found.old c.args.pass.now c.loop-found.pass c.replace.new.pass c.loop-found.invariant.tried
    (let one = one_step c.args.board.now c.loop-found.pass c.replace.new.pass _ _ c.replace.ensures.step.1 in omega (arith, one))
