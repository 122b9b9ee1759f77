use Rattle.std.proofs.Common.{◌≡◌, ◌+◌, ◌≤◌, ◌++◌, map, All, IsSome, Some}
use Rattle.std.specs.Vec.{vec_capacity, vec_len}
use Rattle.std.specs.Vec.Iter.{into_iter_items, into_iter_len}
use Rattle.seghandles.proofs.home.passes_of.Given as goal

abbrev pub invariant-loop-place : goal.invariant-loop-place
invariant-loop-place l = record {
  can : goal.iterator-loop-place.can_next l.place-iterator;
  finite : goal.iterator-loop-place.is_finite l.place-iterator;
  room : vec_len l.passes + into_iter_len l.place-iterator ≤ vec_capacity l.passes;
  some : All IsSome (into_iter_items l.place-iterator);
  all : map Some l.passes.items ++ into_iter_items l.place-iterator ≡ l.fn.places.items;
}
