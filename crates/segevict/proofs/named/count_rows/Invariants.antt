use Rattle.segevict.proofs.Naming.{CountingAll}
use Rattle.segevict.proofs.named.count_rows.Given as goal

abbrev pub invariant-loop-at : goal.invariant-loop-at
invariant-loop-at l = CountingAll l.board l.at l.used l.named l.fn.pass l.pass
