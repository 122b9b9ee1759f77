use Rattle.std.proofs.Common.{◌≡◌, ◌+◌, ◌≤◌, ◌++◌, All, Some}
use Rattle.std.specs.List.{AllZip}
use Rattle.std.specs.Vec.{vec_capacity, vec_len}
use Rattle.std.specs.Vec.Iter.{into_iter_items, into_iter_len}
use Rattle.segindex.specs.Words.{board_of}
use Rattle.segstore.specs.Words.{IsQuiet}
use Rattle.segclient.specs.Client.{Starts}
use Rattle.segclient.proofs.all.clients.Given as goal

abbrev pub invariant-loop-pass : goal.invariant-loop-pass
invariant-loop-pass l = record {
  can : goal.iterator-loop-pass.can_next l.pass-iterator;
  finite : goal.iterator-loop-pass.is_finite l.pass-iterator;
  room : vec_len l.clients + into_iter_len l.pass-iterator ≤ vec_capacity l.clients;
  quiet : All (IsQuiet (board_of l.index)) (into_iter_items l.pass-iterator);
  all : l.fn.passes.items ≡ l.yielded ++ into_iter_items l.pass-iterator;
  exact : vec_capacity l.clients ≡ vec_len l.fn.passes;
  made : AllZip (Starts l.index (Some 0)) l.yielded l.clients.items;
}
