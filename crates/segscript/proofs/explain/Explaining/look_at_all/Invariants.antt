use Rattle.std.proofs.Common.{◌≡◌, take}
use Rattle.segscript.specs.Explaining.{look_at, LooksAt}
use Rattle.segscript.proofs.explain.Explaining.look_at_all.Given as goal

abbrev pub invariant-loop-byte : goal.invariant-loop-byte
invariant-loop-byte g l = record {
  inner : l.self.inner ≡ l.fn.self.inner;
  looks : LooksAt (look_at l.fn.self.passes l.fn.self.line l.fn.self.number l.fn.self.bad) (take l.byte-index l.bytes) (look_at l.self.passes l.self.line l.self.number l.self.bad);
}
