use Rattle.std.proofs.Common.{◌≡◌, drop, length, take}
use Rattle.seghandles.specs.Many.{InTurn, LooksUp}
use Rattle.seghandles.proofs.many.look_up_all.Given as goal

abbrev pub invariant-loop-place : goal.invariant-loop-place
invariant-loop-place l = record {
  long : length l.lookups ≡ length l.fn.lookups;
  rest : drop l.place l.lookups ≡ drop l.place l.fn.lookups;
  made : InTurn (LooksUp l.versioned l.keys l.now) (take l.place l.fn.lookups) (take l.place l.lookups) l.fn.client l.client;
}
