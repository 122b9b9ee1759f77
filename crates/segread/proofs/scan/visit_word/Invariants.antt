use Rattle.segbase.specs.Words.{Pass, position, trace}
use Rattle.segstore.specs.Words.{IsReader}
use Rattle.segread.specs.Looking.{LooksFirst}
use Rattle.segread.specs.Scanning.{IsPlaceOf, Tries}
use Rattle.segread.proofs.Pacing.{AtWord}
use Rattle.segread.proofs.Tries.{Trying}
use Rattle.segread.proofs.scan.visit_word.Given as goal

abbrev pub invariant-loop-count : goal.invariant-loop-count
invariant-loop-count l = record {
  whole : IsReader l.board l.fn.pass l.pass;
  paced : AtWord l.fn.pass l.pass;
  first : Pass;
  look : LooksFirst l.board l.fn.pass first;
  place : IsPlaceOf l.board.shape (trace first) l.sought.key l.place;
  reads : IsReader l.board first l.pass;
  tried : Tries (position l.board.shape (trace first) l.place) (position l.board.shape (trace first) l.place) l.tries l.count first l.pass;
  trying : Trying l.board.shape l.sought.key l.place l.tries l.item l.count (trace first) (trace l.pass);
}
