use Rattle.std.proofs.Common.{◌≡◌, ◌+◌, ◌≤◌, ◌++◌, map, All, vec_len}
use Rattle.std.specs.Int.{IsInRange}
use Rattle.std.specs.List.{AllZip}
use Rattle.std.specs.Vec.{vec_capacity}
use Rattle.std.specs.Vec.Iter.{into_iter_items, into_iter_len}
use Rattle.seghandles.specs.Making.{IsClientOf}
use Rattle.seghandles.specs.Opening.{in_box}
use Rattle.seghandles.proofs.making.box_clients.Given as goal

abbrev pub invariant-loop-row : goal.invariant-loop-row
invariant-loop-row l = record {
  can : goal.iterator-loop-row.can_next l.row-iterator;
  finite : goal.iterator-loop-row.is_finite l.row-iterator;
  room : vec_len l.clients + into_iter_len l.row-iterator ≤ vec_capacity l.clients;
  some : All (λ row. IsInRange 1 16384 (vec_len row)) (into_iter_items l.row-iterator);
  all : l.fn.rows.items ≡ l.yielded ++ into_iter_items l.row-iterator;
  made : AllZip IsClientOf l.yielded (map in_box l.clients.items);
}
