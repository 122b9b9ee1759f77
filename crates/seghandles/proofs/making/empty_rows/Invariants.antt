use Rattle.std.proofs.Common.{◌≡◌, ◌≤◌, [], All, vec_len}
use Rattle.std.specs.Vec.{vec_capacity}
use Rattle.seghandles.proofs.making.empty_rows.Given as goal

abbrev pub invariant-loop : goal.invariant-loop
invariant-loop l = record {
  len : vec_len l.rows ≡ l.counter;
  room : l.plan.shape.passes ≤ vec_capacity l.rows;
  empty : All (λ row. row.items ≡ []) l.rows.items;
}
