use Rattle.segstore.specs.Words.{IsQuiet}
use Rattle.segtests_words.proofs.readers.read_often.Given as goal

abbrev pub invariant-loop : goal.invariant-loop
invariant-loop l = IsQuiet l.board l.pass
