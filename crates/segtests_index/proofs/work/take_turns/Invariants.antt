use Rattle.segindex.specs.Words.{board_of}
use Rattle.segstore.specs.Words.{IsQuiet}
use Rattle.segtests_index.proofs.work.take_turns.Given as goal

abbrev pub invariant-loop-turn : goal.invariant-loop-turn
invariant-loop-turn g l = IsQuiet (board_of l.index) l.pass
