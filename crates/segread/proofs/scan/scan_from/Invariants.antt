use Rattle.std.proofs.Common.{◌-◌}
use Rattle.segbase.specs.Words.{position, trace}
use Rattle.segread.specs.Scanning.{IsPlaceOf, Paces}
use Rattle.segread.proofs.Looking.{HasBegun}
use Rattle.segread.proofs.scan.scan_from.Given as goal

abbrev pub decreases-loop-word : goal.decreases-loop-word
decreases-loop-word l = 32 - position l.board.shape (trace l.pass) l.place

abbrev pub invariant-loop-word : goal.invariant-loop-word
invariant-loop-word l = let z = l.board.shape in record {
  begun : HasBegun l.board l.sought.key (position z (trace l.fn.pass) l.fn.place) (position z (trace l.pass) l.place) l.fn.tries l.tries l.fn.pass l.pass;
  place : IsPlaceOf z (trace l.pass) l.sought.key l.place;
  paced : Paces (position z (trace l.fn.pass) l.fn.place) (position z (trace l.pass) l.place) 0 l.fn.pass l.pass;
}
