use Rattle.std.proofs.Common.{◌≡◌, ◌+◌, ◌≤◌, ◌++◌, All, None}
use Rattle.std.specs.List.{AllZip}
use Rattle.std.specs.Vec.{vec_capacity, vec_len}
use Rattle.std.specs.Vec.Iter.{into_iter_items, into_iter_len}
use Rattle.segbase.specs.Words.{holding}
use Rattle.segindex.specs.Words.{board_of}
use Rattle.segstore.specs.Words.{IsQuiet}
use Rattle.seghandles.specs.Making.{IsNewGuest}
use Rattle.seghandles.proofs.making.guests.Given as goal

abbrev pub invariant-loop-pass : goal.invariant-loop-pass
invariant-loop-pass l = record {
  can : goal.iterator-loop-pass.can_next l.pass-iterator;
  finite : goal.iterator-loop-pass.is_finite l.pass-iterator;
  room : vec_len l.guests + into_iter_len l.pass-iterator ≤ vec_capacity l.guests;
  quiet : All (IsQuiet (board_of l.index.value)) (into_iter_items l.pass-iterator);
  bare : All (λ p. holding p ≡ None) (into_iter_items l.pass-iterator);
  all : l.fn.passes.items ≡ l.yielded ++ into_iter_items l.pass-iterator;
  made : AllZip (IsNewGuest l.index.value) l.yielded l.guests.items;
}
