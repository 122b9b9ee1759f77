use Rattle.std.proofs.Common.{◌≡◌, ◌+◌, ◌≤◌, slice_get, Some}
use Rattle.std.specs.Vec.{vec_capacity, vec_len}
use Rattle.std.specs.Vec.Iter.{into_iter_items, into_iter_len}
use Rattle.segindex.specs.Words.{board_of}
use Rattle.segload.specs.Lists.{AllAt}
use Rattle.segload.proofs.Ending.{AreEnds}
use Rattle.segload.proofs.load.end_all.Given as goal

abbrev pub invariant-loop-worker : goal.invariant-loop-worker
invariant-loop-worker l = record {
  can : goal.iterator-loop-worker.can_next l.worker-iterator;
  finite : goal.iterator-loop-worker.is_finite l.worker-iterator;
  room : vec_len l.totals + into_iter_len l.worker-iterator ≤ vec_capacity l.totals;
  space : vec_len l.passes + into_iter_len l.worker-iterator ≤ vec_capacity l.passes;
  long : vec_len l.passes ≡ vec_len l.totals;
  all : vec_len l.totals + into_iter_len l.worker-iterator ≡ vec_len l.fn.workers;
  rest : AllAt (λ n worker. slice_get l.fn.workers.items (vec_len l.totals + n) ≡ Some worker) (into_iter_items l.worker-iterator);
  ends : AreEnds (board_of l.index) l.commands l.fn.workers.items l.totals.items l.passes.items;
}
