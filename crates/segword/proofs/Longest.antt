-- An item of a pair that is within a table's limits takes no more rows than the longest one there.
use Rattle.std.proofs.Common.{ℕ, ◌+◌, ◌≤◌, max, min, arith}
use Rattle.std.specs.Int.{div_ceil}
use Rattle.segword.specs.declared.key.TheConstants.{KEY_WORDS}
use Rattle.segword.specs.Row.{key_width}
use Rattle.segword.specs.Limits.{SpansAreFew}

eighths_grow : (m n : ℕ) → m ≤ n → div_ceil m 8 ≤ div_ceil n 8
eighths_grow m n le = omega (arith, le)

within_grows : (m n most : ℕ) → m ≤ n → min (max m 3) most ≤ min (max n 3) most
within_grows m n most le = omega (arith, le)

width_grows : (m n : ℕ) → m ≤ n → key_width m ≤ key_width n
width_grows m n le = within_grows (div_ceil m 8) (div_ceil n 8) KEY_WORDS (eighths_grow m n le)

sum_grows : (k l v w : ℕ) → k ≤ l → v ≤ w → 1 + k + v ≤ 1 + l + w
sum_grows k l v w low high = omega (arith, low, high)

pub spans_few : SpansAreFew
spans_few limits key value within = eighths_grow _ _ (sum_grows _ _ _ _ (width_grows _ _ within.0) (eighths_grow _ _ within.1))
