use Rattle.std.proofs.Common.{◌≡◌, ◌+◌, subst, arith}
use Rattle.segbase.specs.Words.{position, trace}
use Rattle.segstore.proofs.Readers.{stays}
use Rattle.segread.specs.declared.scan.Scan.TheVariants.{Passed}
use Rattle.segread.specs.Scanning.{end_of_scan, left_of_scan, place_of, IsPlaceOf, Paces}
use Rattle.segread.proofs.Looking.{HasBegun, along_from, along_to, begun_none, begun_by, last_there, went}
use Rattle.segread.proofs.Pacing.{last_paced, next_paced, paces_else, paces_none, paces_then}
use Rattle.segread.proofs.Scans.{inner_next, scan_later, scanned_next, way_then, way_else, next_of}
use Rattle.segread.proofs.scan.visit_bucket.Goals as goal

pub loop-word-init : goal.loop-word-init
loop-word-init c = let b = c.args.board.now in let p = c.args.pass.now in record {
  begun = begun_none b c.args.sought.now.key (position b.shape (trace p) c.args.start) c.args.tries p (stays b p c.requires.pass) c.requires.tries;
  place = c.requires.start;
  paced = paces_none (position b.shape (trace p) c.args.start) p;
}

pub returns-in_default-clause-reads : goal.returns-in_default-clause-reads
returns-in_default-clause-reads c = let v = c.visit_word in scan_later c.args.board.now v.result c.args.pass.now c.loop-word.pass v.new.pass c.loop-word.invariant.begun.reads v.ensures.reads

pub returns-in_default-clause-way : goal.returns-in_default-clause-way
returns-in_default-clause-way c =
    let b = c.args.board.now in let z = b.shape in let key = c.args.sought.now.key in let p = c.args.pass.now in let q = c.loop-word.pass in let v = c.visit_word in let i = c.loop-word.invariant in
    let here = place_of c.args.start.bucket c.loop-word.word in let from = position z (trace p) c.args.start in
    let w = went b key from c.args.tries c.loop-word.tries here p q _ i.begun i.place (λ m l. along_from b key q m l here here c.loop-word.tries v.result v.new.pass i.place i.place) v.ensures.way in
    let mid = position z (trace w.middle) here in
    along_to b key c.args.start c.args.tries v.result p w.first v.new.pass w.look c.requires.start
    (scan_later b v.result w.first w.middle v.new.pass w.scanned.reads w.is.0)
    (way_else z key from (mid + 1) _ here (place_of c.args.start.bucket 7) c.args.tries v.result w.first v.new.pass c.in_default.not-Passed
    (way_then b key from mid c.args.tries c.loop-word.tries w.first w.middle v.new.pass w.scanned (mid + 1) here v.result w.is.1))

pub loop-word-preserved : goal.loop-word-preserved
loop-word-preserved c =
    let b = c.args.board.now in let z = b.shape in let key = c.args.sought.now.key in let p = c.args.pass.now in
    let q = c.loop-word.pass in let v = c.visit_word in let r = v.new.pass in let i = c.loop-word.invariant in
    let x = c.in-Passed in
    let here = place_of c.args.start.bucket c.loop-word.word in let next = place_of c.args.start.bucket (c.loop-word.word + 1) in let from = position z (trace p) c.args.start in
    let w = went b key from c.args.tries c.loop-word.tries here p q _ i.begun i.place
    (λ m l. along_from b key q m l here here c.loop-word.tries (Passed x.word x.counted) r i.place i.place)
    x.ensures.way in
    let mid = position z (trace w.middle) here in
    let n = next_of z key here mid x.word (trace w.middle) (trace r) c.requires.pass.valid
    x.ensures.reads.reads.moved.pass.lawful w.place w.is.1.passed next
    (inner_next z here x.word c.loop-word-test.true) in record {
      begun = begun_by b key from (position z (trace r) next) c.args.tries x.counted p w.first r w.look
          (scanned_next b key from mid c.args.tries c.loop-word.tries w.first w.middle r w.scanned (mid + 1)
          x.counted here next x.word w.is.0 w.is.1 n);
      place = n.place;
      paced = next_paced b key from c.args.start.bucket c.loop-word.word p q r i.paced x.ensures.reads i.place x.ensures.steps;
    }

pub returns-clause-reads : goal.returns-clause-reads
returns-clause-reads c = let v = c.visit_word-2 in scan_later c.args.board.now v.result c.args.pass.now c.loop-word.pass v.new.pass c.loop-word.invariant.begun.reads v.ensures.reads

pub visit_word-requires-2-clause-place : goal.visit_word-requires-2-clause-place
visit_word-requires-2-clause-place c = let i = c.loop-word.invariant in let most = i.place.0.in_table.2 in let over = c.loop-word-test.false in
    subst (λ w. IsPlaceOf c.args.board.now.shape (trace c.loop-word.pass) c.args.sought.now.key (place_of c.args.start.bucket w)) (let e : c.loop-word.word ≡ 7 = omega arith in e) i.place

pub returns-clause-way : goal.returns-clause-way
returns-clause-way c =
    let b = c.args.board.now in let z = b.shape in let key = c.args.sought.now.key in let p = c.args.pass.now in let q = c.loop-word.pass in let v = c.visit_word-2 in let i = c.loop-word.invariant in
    let last = place_of c.args.start.bucket 7 in let from = position z (trace p) c.args.start in
    let seven : c.loop-word.word ≡ 7 = let most = i.place.0.in_table.2 in let over = c.loop-word-test.false in omega arith in
    let begun = subst (λ w. HasBegun b key from (position z (trace q) (place_of c.args.start.bucket w)) c.args.tries c.loop-word.tries p q) seven i.begun in
    let place = subst (λ w. IsPlaceOf z (trace q) key (place_of c.args.start.bucket w)) seven i.place in
    let w = went b key from c.args.tries c.loop-word.tries last p q _ begun place (λ m l. along_from b key q m l last last c.loop-word.tries v.result v.new.pass place place) v.ensures.way in
    let mid = position z (trace w.middle) last in
    along_to b key c.args.start c.args.tries v.result p w.first v.new.pass w.look c.requires.start
    (scan_later b v.result w.first w.middle v.new.pass w.scanned.reads w.is.0)
    (last_there b key c.args.start p w.first w.middle from c.args.tries v.result v.new.pass w.look w.scanned.reads c.requires.start
    (way_then b key from mid c.args.tries c.loop-word.tries w.first w.middle v.new.pass w.scanned (mid + 1) last v.result w.is.1))

pub returns-in_default-clause-steps : goal.returns-in_default-clause-steps
returns-in_default-clause-steps c = let z = c.args.board.now.shape in let p = c.args.pass.now in let q = c.loop-word.pass in let v = c.visit_word in let r = v.new.pass in
    let from = position z (trace p) c.args.start in let mid = position z (trace q) (place_of c.args.start.bucket c.loop-word.word) in
    paces_else z from (mid + 1) (position z (trace p) (place_of c.args.start.bucket 7) + 1) v.result p r c.in_default.not-Passed
    (paces_then from mid (end_of_scan z (mid + 1) v.result r) (left_of_scan v.result) p q r c.loop-word.invariant.paced v.ensures.steps)

pub returns-clause-steps : goal.returns-clause-steps
returns-clause-steps c = let b = c.args.board.now in let z = b.shape in let p = c.args.pass.now in let q = c.loop-word.pass in let v = c.visit_word-2 in let i = c.loop-word.invariant in
    let seven : c.loop-word.word ≡ 7 = let most = i.place.0.in_table.2 in let over = c.loop-word-test.false in omega arith in
    let paced = subst (λ w. Paces (position z (trace p) c.args.start) (position z (trace q) (place_of c.args.start.bucket w)) 0 p q) seven i.paced in
    last_paced b c.args.sought.now.key (position z (trace p) c.args.start) c.args.start v.result p q v.new.pass i.begun.reads c.requires.start paced v.ensures.steps
