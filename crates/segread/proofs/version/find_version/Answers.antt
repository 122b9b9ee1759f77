use Rattle.std.proofs.Common.{◌<◌, ◌+◌, ◌-◌, subst, arith}
use Rattle.segbase.specs.Words.{position, trace}
use Rattle.segread.specs.declared.version.Attempt.TheVariants as attempt
use Rattle.segread.specs.Gets.{left_of_version}
use Rattle.segread.specs.Scanning.{place_of, words_below}
use Rattle.segread.proofs.Attempts.{attempt_from}
use Rattle.segread.proofs.Disturbing.{still_no_bit}
use Rattle.segread.proofs.Finding.{begun_none, begun_by, left_of, scanned, tried_on, fewer_left, told_by, find_none}
use Rattle.segread.proofs.ComingIn.{words_few}
use Rattle.segread.proofs.Scans.{first_place, in_chain}
use Rattle.segread.proofs.Striding.{strides_none, strides_then, strides_to}
use Rattle.segread.proofs.version.find_version.Goals as goal

pub loop-tries-init : goal.loop-tries-init
loop-tries-init c = let b = c.args.board.now in let p = c.args.pass.now in record {
  begun = begun_none b c.args.call.now.sought.key c.args.call.now.clock c.args.call.now.sought.bucket p c.requires.pass c.requires.sought.bucket;
  strode = strides_none (position b.shape (trace p) (place_of c.args.call.now.sought.bucket 1)) p
      (first_place b.shape c.args.call.now.sought.key c.args.call.now.sought.bucket (trace p) c.requires.pass.valid
      c.requires.sought.bucket).1;
}

pub try_version-requires-clause-free : goal.try_version-requires-clause-free
try_version-requires-clause-free c = let i = c.loop-tries.invariant.begun.reads.reads in
    still_no_bit c.args.board.now c.args.call.now.sought.key i.own c.args.pass.now c.loop-tries.pass i.moved i.only
    c.requires.free

pub returns-in-Answered : goal.returns-in-Answered
returns-in-Answered c =
    let b = c.args.board.now in let key = c.args.call.now.sought.key in let now = c.args.call.now.clock in
    let l = c.loop-tries in let p = c.args.pass.now in let q = l.pass in
    let r = c.try_version.new.pass in let x = c.in-Answered in let i = l.invariant.begun in
    let w = scanned b key now c.args.call.now.sought.bucket l.place l.tries p q c.requires.sought.bucket i.place _ i
    (λ m k. attempt_from b key now q m r k l.place l.tries (attempt.Answered x.answer) i.place)
    x.ensures.attempt in record {
      answer = (w.first, w.look, told_by b key now l.place l.tries w.first w.middle r w.tried c.loop-tries-test.true x.answer w.is);
      steps = strides_then 1 (position b.shape (trace q) l.place) 32 (left_of_version x.answer) p q r l.invariant.strode x.ensures.steps;
    }

pub loop-tries-preserved : goal.loop-tries-preserved
loop-tries-preserved c =
    let b = c.args.board.now in let key = c.args.call.now.sought.key in let now = c.args.call.now.clock in
    let l = c.loop-tries in let p = c.args.pass.now in let q = l.pass in
    let r = c.try_version.new.pass in let x = c.in-GoesOn in let i = l.invariant.begun in
    let w = scanned b key now c.args.call.now.sought.bucket l.place l.tries p q c.requires.sought.bucket i.place _ i
    (λ m k. attempt_from b key now q m r k l.place l.tries (attempt.GoesOn x.next x.counted) i.place)
    x.ensures.attempt in
    record {
      begun = begun_by b key now c.args.call.now.sought.bucket x.next x.counted p w.first r w.look (tried_on b key now l.place l.tries w.first w.middle r w.tried w.is.0 x.next x.counted w.is.1);
      strode = strides_then 1 (position b.shape (trace q) l.place) (position b.shape (trace r) x.next) 0 p q r l.invariant.strode x.ensures.steps;
    }

pub loop-tries-smaller : goal.loop-tries-smaller
loop-tries-smaller c =
    let b = c.args.board.now in let key = c.args.call.now.sought.key in let now = c.args.call.now.clock in
    let l = c.loop-tries in let p = c.args.pass.now in let q = l.pass in
    let r = c.try_version.new.pass in let x = c.in-GoesOn in let i = l.invariant.begun in
    let w = scanned b key now c.args.call.now.sought.bucket l.place l.tries p q c.requires.sought.bucket i.place _ i
    (λ m k. attempt_from b key now q m r k l.place l.tries (attempt.GoesOn x.next x.counted) i.place)
    x.ensures.attempt in
    subst (λ n. left_of b x.next x.counted r < 92 - (l.tries + words_below n)) w.at (fewer_left b key now l.place l.tries w.first w.middle r w.tried w.is.0 x.next x.counted w.is.1)

pub returns : goal.returns
returns c = let l = c.loop-tries in record {
  answer = find_none c.args.board.now c.args.call.now.sought.key c.args.call.now.clock c.args.call.now.sought.bucket
      l.place l.tries c.args.pass.now l.pass l.invariant.begun c.loop-tries-test.false;
  steps =
      let b = c.args.board.now in let i = l.invariant.begun in let at = position b.shape (trace l.pass) l.place in
      let few = words_few at (in_chain b.shape (trace l.pass) l.place i.reads.reads.moved.pass.lawful i.place.0).1 in
      strides_to 1 at 32 c.args.pass.now l.pass (omega (arith, few)) l.invariant.strode;
}
