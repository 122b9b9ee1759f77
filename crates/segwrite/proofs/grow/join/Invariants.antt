use Rattle.std.proofs.Common.{◌-◌, ◌^◌}
use Rattle.segbase.specs.Words.{home_at}
use Rattle.segwrite.proofs.Joining.{Joining}
use Rattle.segwrite.proofs.Steps.{TriedToJoin}
use Rattle.segwrite.proofs.grow.join.Given as goal

abbrev pub invariant-loop-found : goal.invariant-loop-found
invariant-loop-found l = record {
  joining : Joining l.board (home_at l.board l.place l.fn.pass) l.overflow l.place l.old l.fn.pass l.pass;
  tried : TriedToJoin l.word l.old l.fn.pass l.pass;
}

abbrev pub decreases-loop-found : goal.decreases-loop-found
decreases-loop-found l = 2 ^ 64 - l.old
