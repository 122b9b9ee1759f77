use Rattle.std.proofs.Common.{◌≡◌, ◌-◌, IfSome, Some}
use Rattle.segmodel.specs.declared.answer.SegState.TheVariants.{InUse}
use Rattle.segbase.specs.Words.{position, state_of, trace}
use Rattle.segstore.specs.Words.{Idles, TakesAtMost}
use Rattle.segwrite.specs.Words.{IsInChain}
use Rattle.segevict.proofs.Walking.{words_before}
use Rattle.segevict.proofs.crowded.own_to_evict.Given as goal

abbrev pub invariant-loop-next : goal.invariant-loop-next
invariant-loop-next l = record {
  idles : Idles l.board l.fn.pass l.pass;
  chain : IsInChain l.board l.initial.place.bucket l.place l.pass;
  steps : TakesAtMost (words_before (position l.board.shape (trace l.pass) l.place)) l.fn.pass l.pass;
  own : IfSome l.first (λ item. state_of l.pass item.row.segment ≡ Some InUse);
}

abbrev pub decreases-loop-next : goal.decreases-loop-next
decreases-loop-next l = 32 - position l.board.shape (trace l.pass) l.place
