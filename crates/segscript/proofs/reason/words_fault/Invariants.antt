use Rattle.std.proofs.Common.{◌≡◌, ◌≤◌, ◌+◌, length, drop, map}
use Rattle.segscript.specs.Reasons.{words_fault}
use Rattle.segscript.proofs.reason.words_fault.Given as goal

abbrev pub invariant-loop-i : goal.invariant-loop-i
invariant-loop-i l = record {
  within : l.i ≤ length l.words;
  same : words_fault l.passes 1 l.parts (map (λ w. w.now) l.words) ≡ words_fault l.passes (l.i + 1) (drop l.i l.parts) (map (λ w. w.now) (drop l.i l.words));
}
