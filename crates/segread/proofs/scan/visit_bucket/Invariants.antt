use Rattle.segbase.specs.Words.{position, trace}
use Rattle.segread.specs.Scanning.{place_of, IsPlaceOf, Paces}
use Rattle.segread.proofs.Looking.{HasBegun}
use Rattle.segread.proofs.scan.visit_bucket.Given as goal

abbrev pub invariant-loop-word : goal.invariant-loop-word
invariant-loop-word l = let z = l.board.shape in let here = place_of l.start.bucket l.word in record {
  begun : HasBegun l.board l.sought.key (position z (trace l.fn.pass) l.start) (position z (trace l.pass) here) l.fn.tries l.tries l.fn.pass l.pass;
  place : IsPlaceOf z (trace l.pass) l.sought.key here;
  paced : Paces (position z (trace l.fn.pass) l.start) (position z (trace l.pass) here) 0 l.fn.pass l.pass;
}
