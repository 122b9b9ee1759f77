use Rattle.std.proofs.Common.{◌+◌, sym, subst, inl, arith}
use Rattle.segword.specs.Words.{Shape}
use Rattle.segcore.proofs.Chains.{chain_of}
use Rattle.segbase.specs.Words.{trace}
use Rattle.segstore.proofs.Refills.{idles}
use Rattle.segwrite.specs.Growing.{IsLast, HasSpare, Joins, Lengthens}
use Rattle.segwrite.proofs.Growing.{spare_drawn, last_drawn, home_drawn, lengthened}
use Rattle.segwrite.proofs.grow.grow.Goals as goal

pub returns-then-end-eq-CHAIN_BUCKETS : goal.returns-then-end-eq-CHAIN_BUCKETS
returns-then-end-eq-CHAIN_BUCKETS c = record {
  grows = (
    idles c.args.board.now c.args.pass.now c.requires.pass,
    inl (omega (arith, c.requires.end.buckets, c.if-end-eq-CHAIN_BUCKETS.true)),
  );
  steps = omega arith;
}

pub draw-requires-clause-short : goal.draw-requires-clause-short
draw-requires-clause-short c = let b = c.args.board.now in
    let few = (chain_of b.shape (trace c.args.pass.now) c.requires.pass.lawful c.args.bucket).short in omega (arith, few, c.requires.end.buckets, c.if-end-eq-CHAIN_BUCKETS.false)

pub join-requires-clause-spare : goal.join-requires-clause-spare
join-requires-clause-spare c = let b = c.args.board.now in let r = c.requires in let o = c.in_ok-overflow.overflow in
    let drew = c.in_ok-overflow.ensures.draws.0 in
    subst (λ k. HasSpare b k o c.draw.new.pass) (sym (home_drawn b c.args.bucket o c.args.end.place c.args.end.word c.args.pass.now c.draw.new.pass r.pass r.clean r.end.last r.full drew))
    (spare_drawn b c.args.bucket o c.args.end.place c.args.end.word c.args.pass.now c.draw.new.pass r.pass r.clean r.end.last r.full drew)

pub join-requires-clause-last : goal.join-requires-clause-last
join-requires-clause-last c = let b = c.args.board.now in let r = c.requires in let o = c.in_ok-overflow.overflow in
    let drew = c.in_ok-overflow.ensures.draws.0 in
    subst (λ k. IsLast b k c.args.end.place c.args.end.word c.draw.new.pass)
    (sym (home_drawn b c.args.bucket o c.args.end.place c.args.end.word c.args.pass.now c.draw.new.pass r.pass
    r.clean r.end.last r.full drew))
    (last_drawn b c.args.bucket o c.args.end.place c.args.end.word c.args.pass.now c.draw.new.pass r.pass r.clean r.end.last r.full drew)

pub returns : goal.returns
returns c = let b = c.args.board.now in let r = c.requires in let o = c.in_ok-overflow.overflow in
    let drew = c.in_ok-overflow.ensures.draws in
    let joined = subst (λ k. Joins b k o c.draw.new.pass c.join.new.pass)
    (home_drawn b c.args.bucket o c.args.end.place c.args.end.word c.args.pass.now c.draw.new.pass r.pass
    r.clean r.end.last r.full drew.0) c.join.ensures.joins in record {
      grows = subst (λ (s : Shape). Lengthens b c.args.bucket (record { place = record { bucket = s.buckets + o; word = 2 }; word = 0 }) c.args.pass.now c.join.new.pass) (sym c.shape.ensures)
          (lengthened b c.args.bucket o c.args.end.place c.args.end.word c.args.pass.now c.draw.new.pass r.pass r.clean r.end.last r.full drew.0 c.join.new.pass drew.1 drew.2 joined);
      steps = (let draws = c.in_ok-overflow.ensures.steps in let joins = c.join.ensures.steps in omega (arith, draws, joins));
    }
