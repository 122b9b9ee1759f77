use Rattle.std.proofs.Common.{Ok, Err, subst}
use Rattle.segbase.specs.Words.{home_at}
use Rattle.segwrite.specs.Growing.{TriesToJoin}
use Rattle.segwrite.proofs.Joining.{joining_first, home_still, joining_later, joins_now}
use Rattle.segwrite.proofs.Steps.{joined_few, joined_first, joined_later}
use Rattle.segwrite.proofs.grow.join.Goals as goal

pub loop-found-init : goal.loop-found-init
loop-found-init c = let b = c.args.board.now in let r = c.requires in
    record {
      joining = joining_first b (home_at b c.args.place c.args.pass.now) c.args.overflow c.args.place c.args.word c.args.pass.now r.pass r.spare r.last;
      tried = joined_first c.args.word c.args.pass.now;
    }

pub loop-found-preserved : goal.loop-found-preserved
loop-found-preserved c = let b = c.args.board.now in let l = c.loop-found in let bucket = home_at b c.args.place c.args.pass.now in let o = c.args.overflow in
    let still = home_still b bucket o c.args.place l.old c.args.pass.now l.pass l.pass l.invariant.joining in
    let tries = subst (λ k. TriesToJoin b k o c.args.place l.old (Err c.in-Err.found) l.pass c.try_to_join.new.pass) still c.in-Err.ensures.tries in record {
      joining = joining_later b bucket o c.args.place l.old c.args.pass.now l.pass c.try_to_join.new.pass l.invariant.joining c.in-Err.found tries;
      tried = joined_later c.args.word l.old c.in-Err.found c.args.pass.now l.pass c.try_to_join.new.pass l.invariant.tried tries.3 tries.4 c.in-Err.ensures.steps;
    }

pub returns : goal.returns
returns c = let b = c.args.board.now in let l = c.loop-found in let bucket = home_at b c.args.place c.args.pass.now in let o = c.args.overflow in
    let still = home_still b bucket o c.args.place l.old c.args.pass.now l.pass l.pass l.invariant.joining in record {
      joins = joins_now b bucket o c.args.place l.old c.args.pass.now l.pass c.try_to_join.new.pass l.invariant.joining c.in_default.field-0
          (subst (λ k. TriesToJoin b k o c.args.place l.old (Ok c.in_default.field-0) l.pass c.try_to_join.new.pass) still c.in_default.ensures.tries);
      steps = joined_few c.args.word l.old c.args.pass.now l.pass c.try_to_join.new.pass l.invariant.tried c.in_default.ensures.steps;
    }
