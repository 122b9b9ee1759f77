use Rattle.std.proofs.Common.{refl, ◌∙◌}
use Rattle.segwrite.proofs.Linking.{came_about, retry_later}
use Rattle.segwrite.proofs.Steps.{tried_few, tried_first, tried_later}
use Rattle.segevict.proofs.Relinking.{is_relink, relink_event, relinking_first, relinks_on}
use Rattle.segevict.proofs.retention.relink.Goals as goal

pub loop-found-init : goal.loop-found-init
loop-found-init g c = let r = c.requires in record {
  relinking = relinking_first c.args.board.now g.named c.args.to.segment c.args.to.row c.args.target.place c.args.target.word c.args.pass.now r.0 r.1;
  tried = tried_first c.args.target.word c.args.pass.now;
  plain = refl;
  memo = refl;
}

pub try_to_relink-requires : goal.try_to_relink-requires
try_to_relink-requires g c = let l = c.loop-found in
    (l.invariant.relinking.did.moved.pass, relinks_on c.args.board.now g.named c.args.to.segment c.args.to.row c.args.target.place l.old c.args.pass.now l.pass l.invariant.relinking)

pub loop-found-preserved : goal.loop-found-preserved
loop-found-preserved g c = let i = c.loop-found.invariant in let t = c.in-Err.ensures.tries in
    let high = t.0.higher i.relinking.earlier.0 i.relinking.earlier.1 in record {
      relinking = retry_later c.args.board.now g.named.key (relink_event g.named c.args.to.segment c.args.to.row)
          c.args.target.place c.loop-found.old c.in-Err.found c.args.pass.now c.loop-found.pass
          c.try_to_relink.new.pass i.relinking
          (is_relink g.named c.args.to.segment c.args.to.row) t.0;
      tried = tried_later c.args.target.word c.loop-found.old c.in-Err.found c.args.pass.now c.loop-found.pass c.try_to_relink.new.pass i.tried high.0 high.1 c.in-Err.ensures.steps;
      plain = t.2 ∙ i.plain;
      memo = t.3 ∙ i.memo;
    }

pub returns : goal.returns
returns g c = let i = c.loop-found.invariant in let t = c.in_default.ensures.tries in record {
  relinks = record {
    did = came_about c.args.board.now g.named.key (relink_event g.named c.args.to.segment c.args.to.row)
        c.args.target.place c.loop-found.old 0 c.args.pass.now c.loop-found.pass c.try_to_relink.new.pass
        i.relinking t.did;
    plain = t.plain ∙ i.plain;
    memo = t.memo ∙ i.memo;
  };
  steps = tried_few c.args.target.word c.loop-found.old c.args.pass.now c.loop-found.pass c.try_to_relink.new.pass i.tried c.in_default.ensures.steps;
}
