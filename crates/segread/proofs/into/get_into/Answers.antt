use Rattle.segmodel.specs.declared.answer.GetAnswer.TheVariants as get
use Rattle.segread.proofs.Deadlines.{expired_reads, read_deadline, found_reads}
use Rattle.std.proofs.Common.{refl, ◌∙◌, arith}
use Rattle.segword.specs.Words.{item_word}
use Rattle.segbase.specs.Words.{trace}
use Rattle.segbase.proofs.Moves.{moved_on, is_inside}
use Rattle.segstore.proofs.Readers.{leave_then, then_reader}
use Rattle.segread.proofs.ComingIn.{few_out, glances_none, looked, leaves, raises_none}
use Rattle.segread.proofs.Hits.{hit_readable, holds_pair, read_in, read_and_left, still_found, still_holds, hit_raises}
use Rattle.segread.proofs.Answered.{gone_reads, found_place, reads_key}
use Rattle.segread.proofs.Pacing.{paced_from}
use Rattle.segread.proofs.Copied.{copies_told}
use Rattle.segcore.proofs.Moments.{begins_on}
use Rattle.segread.proofs.into.get_into.Goals as goal

pub value_into-copied-requires-clause-readable : goal.value_into-copied-requires-clause-readable
value_into-copied-requires-clause-readable c = let f = c.in-Found in let hit = f.hit in let m = f.ensures.scan.0 in let x = f.ensures.scan.2 in
    hit_readable c.args.board.now m c.scan_for.new.pass hit.place hit.item hit.header c.args.key.now x.reads x.answer.0

pub value_into-copied-requires-clause-pair : goal.value_into-copied-requires-clause-pair
value_into-copied-requires-clause-pair c = let hit = c.in-Found.hit in let x = c.in-Found.ensures.scan.2 in
    holds_pair hit.place hit.item hit.header c.args.key.now c.args.board.now.shape _ _ x.answer.0

pub value_into-copied-requires-clause-header : goal.value_into-copied-requires-clause-header
value_into-copied-requires-clause-header c = c.in-Found.ensures.scan.2.answer.0.begins

pub count_hit-requires-clause-place : goal.count_hit-requires-clause-place
count_hit-requires-clause-place c = let b = c.args.board.now in let f = c.in-Found in let hit = f.hit in let v = c.value_into-copied in let m = f.ensures.scan.0 in let x = f.ensures.scan.2 in
    found_place b.shape hit.place (item_word hit.item) c.args.key.now x.answer.0.value (trace m) (trace v.new.pass) v.ensures.reads.looked.did.moved.pass.lawful
    (still_found b m c.scan_for.new.pass v.new.pass hit.place hit.item hit.header c.args.key.now x.reads x.answer.0 v.ensures.reads)

pub leave_segment-requires-in-Found-clause-inside : goal.leave_segment-requires-in-Found-clause-inside
leave_segment-requires-in-Found-clause-inside c = let b = c.args.board.now in let p = c.args.pass.now in let f = c.in-Found in let hit = f.hit in let v = c.value_into-copied in
    let read = read_in b p c.scan_for.new.pass v.new.pass hit.item.seg hit.item.row f.ensures.reads v.ensures.reads in
    is_inside b p c.count_hit.new.pass hit.item.seg (then_reader b p v.new.pass c.count_hit.new.pass hit.item.seg read c.count_hit.ensures.reads).reads

pub returns-then-hit-now : goal.returns-then-hit-now
returns-then-hit-now c =
    let b = c.args.board.now in let p = c.args.pass.now in let q = c.scan_for.new.pass in let r = c.leave_segment.new.pass in let f = c.in-Found in let hit = f.hit in let key = c.args.key.now in
    let m = f.ensures.scan.0 in let x = f.ensures.scan.2 in
    let left = leaves b hit.item.seg q r c.leave_segment.ensures.moved in record {
      reads = record {
        answer = get.Miss;
        copies = (refl, refl);
        reads =
            (reads_key b key p m r f.ensures.scan.1 (leave_then b m q r hit.item.seg x.reads c.leave_segment.ensures) c.args.draw c.args.now get.Miss c.requires.pass
            (let most = paced_from b key p m q 1 f.ensures.scan.1 x.tries f.ensures.steps in let away = c.leave_segment.ensures.steps in omega (arith, most, away))
            (few_out m q r x.tries left) (glances_none m r (left.1 ∙ x.only_scans)) (raises_none m r (left.1 ∙ x.only_scans))
            (expired_reads b key hit m q r c.args.now x.answer c.leave_segment.ensures (let past = c.if-hit-now.true in omega arith)));
      };
    }

pub returns-else-hit-now : goal.returns-else-hit-now
returns-else-hit-now c =
    let b = c.args.board.now in let p = c.args.pass.now in let q = c.scan_for.new.pass in
    let v = c.value_into-copied in let t = c.count_hit.new.pass in let l = c.leave_segment-in-Found in
    let r = l.new.pass in
    let f = c.in-Found in let hit = f.hit in let key = c.args.key.now in let m = f.ensures.scan.0 in let x = f.ensures.scan.2 in
    let read = read_in b m q v.new.pass hit.item.seg hit.item.row x.reads v.ensures.reads in
    let value = x.answer.0.value in
    let found = still_found b m q v.new.pass hit.place hit.item hit.header key x.reads x.answer.0 v.ensures.reads in
    let valid = x.answer.0.found.saw.was.valid in
    let copies = v.ensures.copies key value valid.0 valid.1
    (still_holds b m q v.new.pass hit.place hit.item hit.header key x.answer.0 v.ensures.reads) in
    let left = moved_on b _ t r l.ensures.moved in
    let still = looked b q v.new.pass v.ensures.reads.looked.did.moved in
    let gone = leaves b hit.item.seg t r l.ensures.moved in record {
      reads = record {
        answer = get.Found value;
        copies = copies_told value _ _ v.result c.told_of.result c.told_of.ensures copies;
        reads =
            (reads_key b key p m r f.ensures.scan.1 (read_and_left b m q v.new.pass t r hit.item.seg hit.item.row x.reads v.ensures.reads c.count_hit.ensures.reads l.ensures)
            c.args.draw c.args.now (get.Found value) c.requires.pass
            (let most = paced_from b key p m q 1 f.ensures.scan.1 x.tries f.ensures.steps in
            let read = v.ensures.steps in let one = c.count_hit.ensures.steps in let away = l.ensures.steps in
            omega (arith, most, read, one, away))
            (let few = x.tries in let before = still.0 in let same = c.count_hit.ensures.stays_out in let away = gone.0 in omega (arith, few, before, same, away))
            (λ bucket. glances_none t r gone.1 bucket ∙ (c.count_hit.ensures.glances bucket ∙ glances_none m v.new.pass (still.1 ∙ x.only_scans) bucket))
            (hit_raises b key value c.args.draw m v.new.pass t r read.reads.moved.same (moved_on b _ m v.new.pass read.reads.moved) left (raises_none m v.new.pass (still.1 ∙ x.only_scans))
            (c.count_hit.ensures.raises key value (trace m) (is_inside b m v.new.pass hit.item.seg read.reads) found) (raises_none t r gone.1))
            (found_reads b.shape hit.place (item_word hit.item) key value (trace m) (trace v.new.pass) found
            hit.deadline (read_deadline b m q v.new.pass hit.item hit.deadline x.reads v.ensures.reads x.answer.1)
            (trace r)
            (begins_on (trace v.new.pass) (trace t) (trace r) (moved_on b _ v.new.pass t c.count_hit.ensures.reads.reads.moved) left) c.args.now c.if-hit-now.false));
      };
    }

pub returns-in-Passed : goal.returns-in-Passed
returns-in-Passed c = let b = c.args.board.now in let q = c.scan_for.new.pass in let s = c.in-Passed.ensures.scan in let m = s.0 in let x = s.2 in record {
  reads = record {
    answer = get.Miss;
    copies = (refl, refl);
    reads =
        (reads_key b c.args.key.now c.args.pass.now m q s.1 x.reads c.args.draw c.args.now get.Miss c.requires.pass
        (let most = paced_from b c.args.key.now c.args.pass.now m q 0 s.1 x.tries c.in-Passed.ensures.steps in
        omega (arith, most)) x.tries (glances_none m q x.only_scans) (raises_none m q x.only_scans)
        (gone_reads b.shape c.args.key.now c.args.now (trace m) (trace q) x.answer));
  };
}

pub returns-in-Busy : goal.returns-in-Busy
returns-in-Busy c = let b = c.args.board.now in let q = c.scan_for.new.pass in let s = c.in-Busy.ensures.scan in let m = s.0 in let x = s.2 in record {
  reads = record {
    answer = get.Busy;
    copies = (refl, refl);
    reads =
        (reads_key b c.args.key.now c.args.pass.now m q s.1 x.reads c.args.draw c.args.now get.Busy c.requires.pass
        (let most = paced_from b c.args.key.now c.args.pass.now m q 0 s.1 x.tries c.in-Busy.ensures.steps in
        omega (arith, most)) x.tries (glances_none m q x.only_scans) (raises_none m q x.only_scans) (let more = x.answer in omega (arith, more)));
  };
}

pub leave_segment-requires-clause-inside : goal.leave_segment-requires-clause-inside
leave_segment-requires-clause-inside c = let f = c.in-Found in let s = f.ensures.scan in
    is_inside c.args.board.now s.0 c.scan_for.new.pass f.hit.item.seg s.2.reads.reads
