use Rattle.segindex.specs.Words.{board_of}
use Rattle.segindex.proofs.Looking.{Looked}
use Rattle.segindex.proofs.index.Index.look_ahead.Given as goal

abbrev pub invariant-loop-place : goal.invariant-loop-place
invariant-loop-place l = record {
  looked : Looked (board_of l.self) l.place l.fn.pass l.pass;
}
