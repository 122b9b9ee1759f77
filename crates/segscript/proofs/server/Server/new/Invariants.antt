use Rattle.std.proofs.Common.{◌≡◌, replicate, None}
use Rattle.std.specs.Vec.{vec_capacity}
use Rattle.segscript.proofs.server.Server.new.Given as goal

abbrev pub invariant-loop : goal.invariant-loop
invariant-loop l = record {
  holds : l.holds.items ≡ replicate l.counter None;
  long : l.holds.len ≡ l.counter;
  room : vec_capacity l.holds ≡ l.end;
}
