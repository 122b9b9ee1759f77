use Rattle.std.proofs.Common.{map}
use Rattle.segscript.proofs.WordLemmas.{Cut}
use Rattle.segscript.proofs.line.parts_of.Given as goal

abbrev pub invariant-loop-i : goal.invariant-loop-i
invariant-loop-i l = Cut l.line (map (λ part. part.now) l.parts.items) l.start l.i
