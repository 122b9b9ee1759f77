use Rattle.segevict.proofs.Unlinking.{left_at}
use Rattle.segevict.proofs.eviction.clear_row.Given as goal

abbrev pub ghost-clear : goal.ghost-clear
ghost-clear a = left_at a.board.now a.target.place a.pass.now
