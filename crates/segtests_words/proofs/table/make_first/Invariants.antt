use Rattle.segstore.specs.Words.{IsQuiet}
use Rattle.segtests_words.proofs.table.make_first.Given as goal

abbrev pub invariant-loop-call : goal.invariant-loop-call
invariant-loop-call g l = IsQuiet l.board l.pass
