use Rattle.std.proofs.Common.{◌-◌}
use Rattle.segbase.specs.Words.{position, trace}
use Rattle.segstore.specs.Words.{TakesAtMost}
use Rattle.segevict.proofs.Seeking.{Seeking}
use Rattle.segevict.proofs.Walking.{words_before}
use Rattle.segevict.proofs.row.find_row.Given as goal

abbrev pub decreases-loop-place : goal.decreases-loop-place
decreases-loop-place l = 32 - position l.board.shape (trace l.pass) l.place

abbrev pub invariant-loop-place : goal.invariant-loop-place
invariant-loop-place l = record {
  seeking : Seeking l.board l.bucket l.fn.item l.fn.pass l.pass l.place;
  steps : TakesAtMost (words_before (position l.board.shape (trace l.pass) l.place)) l.fn.pass l.pass;
}
