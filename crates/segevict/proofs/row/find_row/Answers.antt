use Rattle.std.proofs.Common.{sym, subst, arith}
use Rattle.segstore.proofs.Looks.{one_step}
use Rattle.std.proofs.lemmas.Bool.{both_ways}
use Rattle.segword.specs.Words.{IsSameItem}
use Rattle.segbase.proofs.Starting.{has_later}
use Rattle.segbase.proofs.Stepping.{starts}
use Rattle.segwrite.proofs.Places.{step_idles}
use Rattle.segevict.proofs.Seeking.{seeking_first, idles_looked, named_here, seeking_on, gone_at_end}
use Rattle.segevict.proofs.Walking.{chain_looked, less_left, one_more, place_left}
use Rattle.segevict.proofs.row.find_row.Goals as goal

pub loop-place-init : goal.loop-place-init
loop-place-init c = record {
  seeking = seeking_first c.args.board.now c.args.bucket c.args.item c.args.pass.now c.requires.pass c.requires.stored;
  steps = omega arith;
}

pub returns-then-same_item-clause-idles : goal.returns-then-same_item-clause-idles
returns-then-same_item-clause-idles c = let l = c.look-word in let b = c.args.board.now in
    idles_looked b c.args.bucket c.args.item _ _ _ _ l.result c.loop-place.invariant.seeking (step_idles b _ _ _ _ l.ensures.step l.ensures.did) l.ensures.reads

pub returns-then-same_item-clause-finds : goal.returns-then-same_item-clause-finds
returns-then-same_item-clause-finds c = let l = c.look-word in let b = c.args.board.now in
    let look = step_idles b _ _ _ _ l.ensures.step l.ensures.did in
    let same = subst (IsSameItem l.result) c.pack-sought.ensures (c.same_item.ensures.0 c.if-same_item.true) in record {
      chain = chain_looked b c.args.bucket _ _ _ l.result c.loop-place.invariant.seeking.chain look l.ensures.reads;
      named = named_here b c.args.bucket c.args.item _ _ _ _ l.result c.loop-place.invariant.seeking look l.ensures.reads same;
      reads = l.ensures.found;
      same = same;
    }

pub loop-place-smaller : goal.loop-place-smaller
loop-place-smaller c = let l = c.look-word in let b = c.args.board.now in
    less_left b c.args.bucket _ _ _ l.result c.loop-place.invariant.seeking.chain (step_idles b _ _ _ _ l.ensures.step l.ensures.did) l.ensures.reads
    c.next_place.result c.next_place.ensures c.in-Some.next c.in-Some.is

pub loop-place-preserved : goal.loop-place-preserved
loop-place-preserved c = let l = c.look-word in let b = c.args.board.now in
    let one = one_step b c.loop-place.pass l.new.pass _ _ l.ensures.step in record {
      seeking = seeking_on b c.args.bucket c.args.item _ _ _ _ l.result c.loop-place.invariant.seeking
          (step_idles b _ _ _ _ l.ensures.step l.ensures.did) l.ensures.reads c.next_place.result
          (λ same. both_ways _ c.if-same_item.false
          (c.same_item.ensures.1 (subst (IsSameItem l.result) (sym c.pack-sought.ensures) same)))
          c.next_place.ensures c.in-Some.next c.in-Some.is;
      steps = (let before = c.loop-place.invariant.steps in
          let more = one_more b c.args.bucket _ _ _ l.result c.loop-place.invariant.seeking.chain
          (step_idles b _ _ _ _ l.ensures.step l.ensures.did) l.ensures.reads c.next_place.result
          c.next_place.ensures c.in-Some.next c.in-Some.is in omega (arith, before, one, more));
    }

pub returns-in-None-clause-idles : goal.returns-in-None-clause-idles
returns-in-None-clause-idles c = let l = c.look-word in let b = c.args.board.now in
    idles_looked b c.args.bucket c.args.item _ _ _ _ l.result c.loop-place.invariant.seeking (step_idles b _ _ _ _ l.ensures.step l.ensures.did) l.ensures.reads

pub returns-in-None-clause-finds : goal.returns-in-None-clause-finds
returns-in-None-clause-finds c = let l = c.look-word in let b = c.args.board.now in
    gone_at_end b c.args.bucket c.args.item _ _ _ _ l.result c.loop-place.invariant.seeking (step_idles b _ _ _ _ l.ensures.step l.ensures.did) l.ensures.reads c.next_place.result
    (λ same. both_ways _ c.if-same_item.false (c.same_item.ensures.1 (subst (IsSameItem l.result) (sym c.pack-sought.ensures) same))) c.next_place.ensures c.in-None.is

pub returns-then-same_item-clause-looks : goal.returns-then-same_item-clause-looks
returns-then-same_item-clause-looks c = let l = c.look-word in let q = c.loop-place.pass in
    let i = c.loop-place.invariant.seeking.idles.moved in
    has_later c.args.pass.now q l.new.pass i.same i.steps (_, starts q l.new.pass _ _ l.ensures.step.told)

pub returns-in-None-clause-looks : goal.returns-in-None-clause-looks
returns-in-None-clause-looks c = let l = c.look-word in let q = c.loop-place.pass in
    let i = c.loop-place.invariant.seeking.idles.moved in
    has_later c.args.pass.now q l.new.pass i.same i.steps (_, starts q l.new.pass _ _ l.ensures.step.told)

pub returns-then-same_item-clause-steps : goal.returns-then-same_item-clause-steps
returns-then-same_item-clause-steps c = let l = c.look-word in let b = c.args.board.now in
    let one = one_step b c.loop-place.pass l.new.pass _ _ l.ensures.step in let before = c.loop-place.invariant.steps in
    let short = place_left b c.args.bucket c.loop-place.place c.loop-place.pass
    c.loop-place.invariant.seeking.idles.moved.pass c.loop-place.invariant.seeking.chain in
    omega (arith, one, before, short)

pub returns-in-None-clause-steps : goal.returns-in-None-clause-steps
returns-in-None-clause-steps c = let l = c.look-word in let b = c.args.board.now in
    let one = one_step b c.loop-place.pass l.new.pass _ _ l.ensures.step in let before = c.loop-place.invariant.steps in
    let short = place_left b c.args.bucket c.loop-place.place c.loop-place.pass
    c.loop-place.invariant.seeking.idles.moved.pass c.loop-place.invariant.seeking.chain in
    omega (arith, one, before, short)
