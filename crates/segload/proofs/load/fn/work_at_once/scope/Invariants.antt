use Rattle.std.proofs.Common.{◌≡◌, ◌+◌, ◌-◌, ◌≤◌}
use Rattle.std.specs.Vec.{vec_capacity, vec_len}
use Rattle.std.specs.Vec.Iter.{into_iter_items, into_iter_len}
use Rattle.segindex.specs.Words.{board_of}
use Rattle.segload.specs.Lists.{AllAt}
use Rattle.segload.proofs.Starting.{Wait}
use Rattle.segload.proofs.load.fn.work_at_once.scope.Given as goal

abbrev pub invariant-loop-worker : goal.invariant-loop-worker
invariant-loop-worker g l = record {
  can : (goal.iterator-loop-worker g).can_next l.worker-iterator;
  finite : (goal.iterator-loop-worker g).is_finite l.worker-iterator;
  room : l.count ≤ vec_capacity l.threads;
  few : vec_len l.threads + into_iter_len l.worker-iterator ≤ l.count;
  rest : Wait (board_of l.index) l.plan (l.count - into_iter_len l.worker-iterator) (into_iter_items l.worker-iterator);
  ours : AllAt (λ n thread. (thread.promise.index.now.board ≡ board_of l.index) × (thread.promise.gate.now ≡ l.gate) × (thread.promise.plan ≡ l.plan)) l.threads.items;
  in_order : vec_len l.threads + into_iter_len l.worker-iterator ≡ l.count → AllAt (λ n thread. thread.promise.pass ≡ n) l.threads.items;
}
