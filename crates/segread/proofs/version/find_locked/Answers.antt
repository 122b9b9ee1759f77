use Rattle.segread.proofs.Deadlines.{by_word, found_reads, expired_reads}
use Rattle.std.proofs.Common.{◌∙◌, inl, inr, ap, arith}
use Rattle.segword.specs.Words.{item_word}
use Rattle.segbase.specs.declared.pass.PlainPart.{PlainPart}
use Rattle.segbase.specs.Words.{trace}
use Rattle.segbase.proofs.Moves.{is_inside, moved_on}
use Rattle.segstore.proofs.Readers.{leave_then}
use Rattle.segread.proofs.ComingIn.{leaves, few_out, raises_none, scans_few}
use Rattle.segread.proofs.Answered.{gone_reads}
use Rattle.segread.proofs.Striding.{scan_unset, strides, strides_left}
use Rattle.segread.proofs.version.find_locked.Goals as goal

pub returns-then-hit-now-clause-answer : goal.returns-then-hit-now-clause-answer
returns-then-hit-now-clause-answer c = let b = c.args.board.now in let f = c.in-Found in let s = f.ensures.scan in
    let m = s.0 in let x = s.2 in let q = c.scan_for.new.pass in let r = c.leave_segment.new.pass in
    let out = leaves b f.hit.item.seg q r c.leave_segment.ensures.moved in (
      m,
      s.1,
      record {
        reads = leave_then b m q r f.hit.item.seg x.reads c.leave_segment.ensures;
        tries = few_out m q r x.tries out;
        glances = scans_few m r (out.1 ∙ x.only_scans);
        answer = (expired_reads b c.args.key.now f.hit m q r c.args.now x.answer c.leave_segment.ensures (let past = c.if-hit-now.true in omega arith), raises_none m r (out.1 ∙ x.only_scans));
      },
    )

pub returns-else-hit-now-clause-answer : goal.returns-else-hit-now-clause-answer
returns-else-hit-now-clause-answer c = let b = c.args.board.now in let f = c.in-Found in let s = f.ensures.scan in
    let m = s.0 in let x = s.2 in let q = c.scan_for.new.pass in let r = c.leave_segment.new.pass in
    let out = leaves b f.hit.item.seg q r c.leave_segment.ensures.moved in (
      m,
      s.1,
      record {
        reads = leave_then b m q r f.hit.item.seg x.reads c.leave_segment.ensures;
        tries = few_out m q r x.tries out;
        glances = scans_few m r (out.1 ∙ x.only_scans);
        answer = (
          inr (
            ap (λ (y : PlainPart). y.locked) s.1.look.plain ∙ c.requires.locked,
            (
              x.answer.0.value,
              found_reads b.shape f.hit.place (item_word f.hit.item) c.args.key.now x.answer.0.value (trace m) (trace q) x.answer.0.found f.hit.deadline
                  (by_word b.shape f.hit.item f.hit.deadline (trace q) x.answer.1) (trace r) (moved_on b _ q r c.leave_segment.ensures.moved) c.args.now c.if-hit-now.false,
            ),
          ),
          raises_none m r (out.1 ∙ x.only_scans),
        );
      },
    )

pub returns-in-Passed-clause-answer : goal.returns-in-Passed-clause-answer
returns-in-Passed-clause-answer c = let s = c.in-Passed.ensures.scan in let m = s.0 in let x = s.2 in (
  m,
  s.1,
  let q = c.scan_for.new.pass in
      record {
        reads = x.reads;
        tries = x.tries;
        glances = scans_few m q x.only_scans;
        answer = (gone_reads c.args.board.now.shape c.args.key.now c.args.now (trace m) (trace q) x.answer, raises_none m q x.only_scans);
      },
)

pub returns-in-Busy-clause-answer : goal.returns-in-Busy-clause-answer
returns-in-Busy-clause-answer c = let s = c.in-Busy.ensures.scan in let m = s.0 in let x = s.2 in (
  m,
  s.1,
  let q = c.scan_for.new.pass in
      record { reads = x.reads; tries = x.tries; glances = scans_few m q x.only_scans; answer = (inl (inl (let many = x.answer in omega (arith, many))), raises_none m q x.only_scans) },
)

pub returns-then-hit-now-clause-steps : goal.returns-then-hit-now-clause-steps
returns-then-hit-now-clause-steps c = let b = c.args.board.now in let f = c.in-Found in let s = f.ensures.scan in let p = c.args.pass.now in let q = c.scan_for.new.pass in
    strides_left b 1 32 f.hit.item.seg p q c.leave_segment.new.pass f.ensures.steps (omega arith) (scan_unset b c.args.key.now p s.0 q s.1 s.2.only_scans) c.leave_segment.ensures

pub returns-else-hit-now-clause-steps : goal.returns-else-hit-now-clause-steps
returns-else-hit-now-clause-steps c = let b = c.args.board.now in let f = c.in-Found in let s = f.ensures.scan in let p = c.args.pass.now in let q = c.scan_for.new.pass in
    strides_left b 1 32 f.hit.item.seg p q c.leave_segment.new.pass f.ensures.steps (omega arith) (scan_unset b c.args.key.now p s.0 q s.1 s.2.only_scans) c.leave_segment.ensures

pub returns-in-Passed-clause-steps : goal.returns-in-Passed-clause-steps
returns-in-Passed-clause-steps c = let s = c.in-Passed.ensures.scan in let p = c.args.pass.now in let q = c.scan_for.new.pass in
    strides 1 32 p q c.in-Passed.ensures.steps (omega arith) (scan_unset c.args.board.now c.args.key.now p s.0 q s.1 s.2.only_scans)

pub returns-in-Busy-clause-steps : goal.returns-in-Busy-clause-steps
returns-in-Busy-clause-steps c = let s = c.in-Busy.ensures.scan in let p = c.args.pass.now in let q = c.scan_for.new.pass in
    strides 1 32 p q c.in-Busy.ensures.steps (omega arith) (scan_unset c.args.board.now c.args.key.now p s.0 q s.1 s.2.only_scans)

pub leave_segment-requires-clause-inside : goal.leave_segment-requires-clause-inside
leave_segment-requires-clause-inside c = let f = c.in-Found in let s = f.ensures.scan in
    is_inside c.args.board.now s.0 c.scan_for.new.pass f.hit.item.seg s.2.reads.reads
