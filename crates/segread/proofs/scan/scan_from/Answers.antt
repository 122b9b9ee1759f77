use Rattle.std.proofs.Common.{◌+◌, arith}
use Rattle.segbase.specs.Words.{position, trace}
use Rattle.segstore.proofs.Readers.{stays, reader_then}
use Rattle.segread.specs.declared.scan.Scan.TheVariants as scan
use Rattle.segread.specs.Scanning.{end_of_scan, left_of_scan, place_of}
use Rattle.segread.proofs.Looking.{along_from, begun_none, begun_by, last_now, scans_to, went}
use Rattle.segread.proofs.Pacing.{bucket_paced, end_paced, paces_else, paces_none, paces_then}
use Rattle.segread.proofs.Scans.{at_depth, last_of, in_chain, scan_later, scan_else, scanned_next, way_then, ended_then, next_of, end_of}
use Rattle.segread.proofs.scan.scan_from.Goals as goal

pub loop-word-init : goal.loop-word-init
loop-word-init c = let b = c.args.board.now in let p = c.args.pass.now in record {
  begun = begun_none b c.args.sought.now.key (position b.shape (trace p) c.args.place) c.args.tries p (stays b p c.requires.pass) c.requires.tries;
  place = c.requires.place;
  paced = paces_none (position b.shape (trace p) c.args.place) p;
}

pub returns-in_default-next_place-clause-reads : goal.returns-in_default-next_place-clause-reads
returns-in_default-next_place-clause-reads c = reader_then c.args.board.now c.args.pass.now c.loop-word.pass c.visit_bucket.new.pass c.loop-word.invariant.begun.reads c.in-Passed.ensures.reads

pub returns-in_default-next_place-clause-scan : goal.returns-in_default-next_place-clause-scan
returns-in_default-next_place-clause-scan c =
    let b = c.args.board.now in let z = b.shape in let key = c.args.sought.now.key in let p = c.args.pass.now in
    let q = c.loop-word.pass in let r = c.visit_bucket.new.pass in let x = c.in-Passed in
    let i = c.loop-word.invariant in let place = c.loop-word.place in
    let last = place_of place.bucket 7 in let from = position z (trace p) c.args.place in let end = last_now b key place q (stays b q i.begun.reads.reads.moved.pass) i.place in
    let w = went b key from c.args.tries c.loop-word.tries place p q _ i.begun i.place
    (λ m l. along_from b key q m l place last c.loop-word.tries (scan.Passed x.word x.counted) r i.place end)
    x.ensures.way in
    let mid = position z (trace w.middle) place in
    let of = (last_of b key place w.middle r w.is.0 w.place).0 in
    let within = (in_chain z (trace w.middle) last w.scanned.reads.reads.moved.pass.lawful of.0).1 in
    scans_to b key c.args.place c.args.tries (scan.Passed x.word x.counted) p w.first r w.look c.requires.place (reader_then b w.first w.middle r w.scanned.reads w.is.0)
    (ended_then b key from mid c.args.tries c.loop-word.tries w.first w.middle r w.scanned (position z (trace w.middle) last + 1) x.counted last x.word (omega arith) w.is.1
    (end_of z key last mid x.word (trace w.middle) (trace r) c.requires.pass.valid x.ensures.reads.reads.moved.pass.lawful of w.is.1.passed c.in_default-next_place.ensures))

pub returns-in_default-clause-reads : goal.returns-in_default-clause-reads
returns-in_default-clause-reads c = let v = c.visit_bucket in scan_later c.args.board.now v.result c.args.pass.now c.loop-word.pass v.new.pass c.loop-word.invariant.begun.reads v.ensures.reads

pub returns-in_default-clause-scan : goal.returns-in_default-clause-scan
returns-in_default-clause-scan c = let b = c.args.board.now in let z = b.shape in let key = c.args.sought.now.key in
    let p = c.args.pass.now in let q = c.loop-word.pass in let v = c.visit_bucket in let r = v.new.pass in
    let i = c.loop-word.invariant in let place = c.loop-word.place in
    let last = place_of place.bucket 7 in let from = position z (trace p) c.args.place in let end = last_now b key place q (stays b q i.begun.reads.reads.moved.pass) i.place in
    let w = went b key from c.args.tries c.loop-word.tries place p q _ i.begun i.place (λ m l. along_from b key q m l place last c.loop-word.tries v.result r i.place end) v.ensures.way in
    let mid = position z (trace w.middle) place in let to = position z (trace w.middle) last + 1 in
    scans_to b key c.args.place c.args.tries v.result p w.first r w.look c.requires.place (scan_later b v.result w.first w.middle r w.scanned.reads w.is.0)
    (scan_else z key from to last c.args.tries v.result w.first r c.in_default.not-Passed (way_then b key from mid c.args.tries c.loop-word.tries w.first w.middle r w.scanned to last v.result w.is.1))

pub loop-word-preserved : goal.loop-word-preserved
loop-word-preserved c =
    let b = c.args.board.now in let z = b.shape in let key = c.args.sought.now.key in let p = c.args.pass.now in
    let q = c.loop-word.pass in let r = c.visit_bucket.new.pass in let x = c.in-Passed in
    let i = c.loop-word.invariant in let place = c.loop-word.place in
    let last = place_of place.bucket 7 in let from = position z (trace p) c.args.place in let end = last_now b key place q (stays b q i.begun.reads.reads.moved.pass) i.place in
    let w = went b key from c.args.tries c.loop-word.tries place p q _ i.begun i.place
    (λ m l. along_from b key q m l place last c.loop-word.tries (scan.Passed x.word x.counted) r i.place end)
    x.ensures.way in
    let mid = position z (trace w.middle) place in
    let of = (last_of b key place w.middle r w.is.0 w.place).0 in
    let next = next_of z key last mid x.word (trace w.middle) (trace r) c.requires.pass.valid x.ensures.reads.reads.moved.pass.lawful of w.is.1.passed c.in-Some.next c.in-Some.ensures in record {
      begun = begun_by b key from (position z (trace r) c.in-Some.next) c.args.tries x.counted p w.first r w.look
          (scanned_next b key from mid c.args.tries c.loop-word.tries w.first w.middle r w.scanned (position z (trace w.middle) last + 1) x.counted last c.in-Some.next x.word w.is.0 w.is.1 next);
      place = next.place;
      paced = bucket_paced b from (position z (trace q) place) (position z (trace q) last) (position z (trace w.middle) last) c.in-Some.next p q r i.paced x.ensures.steps next.words
          (let same = w.at in let is = at_depth z (trace w.middle) last in
          let was = at_depth z (trace w.middle) place in let is_now = at_depth z (trace q) last in
          let was_now = at_depth z (trace q) place in omega (arith, same, is, was, is_now, was_now));
    }

pub loop-word-smaller : goal.loop-word-smaller
loop-word-smaller c =
    let b = c.args.board.now in let z = b.shape in let key = c.args.sought.now.key in let p = c.args.pass.now in
    let q = c.loop-word.pass in let r = c.visit_bucket.new.pass in let x = c.in-Passed in
    let i = c.loop-word.invariant in let place = c.loop-word.place in
    let last = place_of place.bucket 7 in let from = position z (trace p) c.args.place in let end = last_now b key place q (stays b q i.begun.reads.reads.moved.pass) i.place in
    let w = went b key from c.args.tries c.loop-word.tries place p q _ i.begun i.place
    (λ m l. along_from b key q m l place last c.loop-word.tries (scan.Passed x.word x.counted) r i.place end)
    x.ensures.way in
    let mid = position z (trace w.middle) place in
    let of = (last_of b key place w.middle r w.is.0 w.place).0 in
    let next = next_of z key last mid x.word (trace w.middle) (trace r) c.requires.pass.valid x.ensures.reads.reads.moved.pass.lawful of w.is.1.passed c.in-Some.next c.in-Some.ensures in
    let same = w.at in let most = w.place.0.in_table.2 in let on = next.on in let is = at_depth z (trace w.middle) last in let was = at_depth z (trace w.middle) place in
    let few = (in_chain z (trace q) place i.begun.reads.reads.moved.pass.lawful i.place.0).1 in omega (arith, same, most, on, is, was, few)

pub returns-in_default-next_place-clause-steps : goal.returns-in_default-next_place-clause-steps
returns-in_default-next_place-clause-steps c = let b = c.args.board.now in let p = c.args.pass.now in let i = c.loop-word.invariant in
    end_paced b c.args.sought.now.key (position b.shape (trace p) c.args.place) c.loop-word.place p c.loop-word.pass c.visit_bucket.new.pass i.begun.reads i.place i.paced c.in-Passed.ensures.steps

pub returns-in_default-clause-steps : goal.returns-in_default-clause-steps
returns-in_default-clause-steps c = let z = c.args.board.now.shape in let p = c.args.pass.now in let q = c.loop-word.pass in let v = c.visit_bucket in let r = v.new.pass in
    let from = position z (trace p) c.args.place in let mid = position z (trace q) c.loop-word.place in let to = position z (trace q) (place_of c.loop-word.place.bucket 7) + 1 in
    paces_else z from to 32 v.result p r c.in_default.not-Passed (paces_then from mid (end_of_scan z to v.result r) (left_of_scan v.result) p q r c.loop-word.invariant.paced v.ensures.steps)
