use Rattle.segbase.specs.Words.{position, trace}
use Rattle.segread.specs.Gets.{Strides}
use Rattle.segread.proofs.Finding.{HasBegun, left_of}
use Rattle.segread.proofs.version.find_version.Given as goal

abbrev pub invariant-loop-tries : goal.invariant-loop-tries
invariant-loop-tries l = record {
  begun : HasBegun l.board l.call.sought.key l.call.clock l.call.sought.bucket l.place l.tries l.fn.pass l.pass;
  strode : Strides 1 (position l.board.shape (trace l.pass) l.place) 0 l.fn.pass l.pass;
}

abbrev pub decreases-loop-tries : goal.decreases-loop-tries
decreases-loop-tries l = left_of l.board l.place l.tries l.pass
