use Rattle.std.proofs.Common.{◌≡◌, ◌+◌, ◌≤◌}
use Rattle.std.specs.Vec.{vec_capacity, vec_len}
use Rattle.std.specs.Vec.Iter.{into_iter_items, into_iter_len}
use Rattle.segbase.specs.Words.{IsNewPass}
use Rattle.segindex.specs.Words.{board_of}
use Rattle.segstore.specs.Words.{IsQuiet}
use Rattle.segload.specs.Working.{BeginsPlan}
use Rattle.segload.specs.Lists.{AllAt}
use Rattle.segload.proofs.load.begin_all.Given as goal

abbrev pub invariant-loop-pass : goal.invariant-loop-pass
invariant-loop-pass l = record {
  can : goal.iterator-loop-pass.can_next l.pass-iterator;
  finite : goal.iterator-loop-pass.is_finite l.pass-iterator;
  room : vec_len l.workers + into_iter_len l.pass-iterator ≤ vec_capacity l.workers;
  all : vec_len l.workers + into_iter_len l.pass-iterator ≡ vec_len l.fn.passes;
  rest : AllAt (λ n pass. IsNewPass (board_of l.index) (vec_len l.workers + n) pass × IsQuiet (board_of l.index) pass) (into_iter_items l.pass-iterator);
  begun : AllAt (BeginsPlan (board_of l.index) l.plan) l.workers.items;
}
