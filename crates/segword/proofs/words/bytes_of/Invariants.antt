use Rattle.std.proofs.Common.{◌≡◌, ℕ, ◌*◌, ◌<◌, length, get_or}
use Rattle.segword.specs.Row.{byte_at}
use Rattle.segword.proofs.words.bytes_of.Given as goal

abbrev pub invariant-loop-i : goal.invariant-loop-i
invariant-loop-i g l = record {
  len : length l.all ≡ g.row.N;
  made : (k : ℕ) → k < 8 * l.i → get_or l.all k 0 ≡ byte_at l.words k;
}
