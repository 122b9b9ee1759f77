use Rattle.segindex.specs.Words.{board_of}
use Rattle.segstore.specs.Words.{IsQuiet}
use Rattle.segtests_index.proofs.threads_keeping.keep_all.Given as goal

abbrev pub invariant-loop : goal.invariant-loop
invariant-loop l = IsQuiet (board_of l.index) l.pass
