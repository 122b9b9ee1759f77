use Rattle.segindex.specs.Words.{board_of}
use Rattle.segstore.specs.Words.{IsQuiet}
use Rattle.segtests_index.proofs.rows.first_wrong.Given as goal

abbrev pub invariant-loop-text : goal.invariant-loop-text
invariant-loop-text l = IsQuiet (board_of l.index) l.first × IsQuiet (board_of l.index) l.second
