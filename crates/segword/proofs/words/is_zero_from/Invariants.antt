use Rattle.std.proofs.Common.{◌≡◌, ℕ, ◌*◌, ◌<◌, ◌≤◌}
use Rattle.segword.specs.Row.{byte_at}
use Rattle.segword.proofs.words.is_zero_from.Given as goal

abbrev pub invariant-loop-i : goal.invariant-loop-i
invariant-loop-i l = (k : ℕ) → l.from ≤ k → k < 8 * l.i → byte_at l.words k ≡ 0
