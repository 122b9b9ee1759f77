use Rattle.segindex.specs.Words.{board_of, IsQuiet}
use Rattle.segtests_clients.proofs.index_caller.store_all.Given as goal

abbrev pub invariant-loop-key : goal.invariant-loop-key
invariant-loop-key l = IsQuiet (board_of l.index) l.pass
