use Rattle.std.proofs.Common.{◌∙◌, ap, subst}
use Rattle.segmodel.specs.Words.{bucket_of}
use Rattle.segbase.specs.Words.{Pass, position, trace}
use Rattle.segread.specs.Looking.{AfterLook}
use Rattle.segread.specs.Scanning.{place_of, ScansOn}
use Rattle.segread.proofs.Pacing.{chain_paced, scan_place}
use Rattle.segread.proofs.Reading.{quiet_enters}
use Rattle.segread.proofs.Scans.{first_place, whole_scan}
use Rattle.segread.proofs.scan.scan_for.Goals as goal

pub returns : goal.returns
returns c =
    let b = c.args.board.now in let p = c.args.pass.now in let v = c.scan_from in let s = c.of-sought in let bucket = s.result.bucket in
    let home = s.ensures.sought.bucket ∙ ap (bucket_of b.shape) s.ensures.key in
    let scan = subst (λ k. AfterLook b p (λ (first : Pass). ScansOn b k (place_of bucket 1) 0 v.result first v.new.pass)) s.ensures.key v.ensures.scan in
    let m = scan.0 in let is = scan.1.look.did.moved.pass in let from = position b.shape (trace m) (place_of bucket 1) in
    let x = whole_scan b c.args.key.now from v.result m v.new.pass (first_place b.shape c.args.key.now bucket (trace m) c.requires.pass.pass.valid home).1 is scan.2.0 scan.2.1 in record {
      reads = v.ensures.reads;
      steps = chain_paced b c.args.key.now (position b.shape (trace p) (place_of bucket 1)) v.result p v.new.pass
          (first_place b.shape c.args.key.now bucket (trace p) c.requires.pass.pass.valid home).1
          (scan_place b c.args.key.now from v.result m v.new.pass scan.2.0 scan.2.1) v.ensures.steps;
      scan = (m, scan.1, record { reads = scan.2.0; tries = x.1; only_scans = x.2; answer = x.0 });
    }

pub scan_from-requires-clause-reader : goal.scan_from-requires-clause-reader
scan_from-requires-clause-reader c = quiet_enters c.args.board.now c.args.pass.now c.requires.pass

pub scan_from-requires-clause-place : goal.scan_from-requires-clause-place
scan_from-requires-clause-place c = let s = c.of-sought in
    (first_place c.args.board.now.shape s.result.key s.result.bucket (trace c.args.pass.now) c.requires.pass.pass.valid s.ensures.sought.bucket).0
