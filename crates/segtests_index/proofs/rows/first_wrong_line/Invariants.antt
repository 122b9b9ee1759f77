use Rattle.segindex.specs.Words.{board_of}
use Rattle.segstore.specs.Words.{IsQuiet}
use Rattle.segtests_index.proofs.rows.first_wrong_line.Given as goal

abbrev pub invariant-loop-line : goal.invariant-loop-line
invariant-loop-line l = IsQuiet (board_of l.index) l.first × IsQuiet (board_of l.index) l.second
