-- The item of a load's command takes one row in each build: its key and its value are short.
use Rattle.std.proofs.Common.{◌≡◌, ℕ, ◌/◌, ◌%◌, ◌^◌, ◌<◌, ◌≤◌, length, decimal, arith}
use Rattle.std.specs.Int.{w32, rotate_right}
use Rattle.std.proofs.Math.Nat.{div-le_self, mod-le, mod-lt}
use Rattle.std.proofs.lemmas.Fmt.{length-decimal-le}
use Rattle.std.proofs.lemmas.Nat.{or_of_32}
use Rattle.rand_pcg.specs.Lcg.{Lcg}
use Rattle.rand_pcg.specs.Pcg.{pcg32}
use Rattle.segword.specs.Words.{span, span_of}
use Rattle.segpolicy.specs.Words.{Draws, Load, next_load}

-- The item of the command takes one row.
abbrev pub IsShort : Load → Type 0
IsShort load = span_of load.key load.value ≡ 1

short_span : (key value : ℕ) → key ≤ 24 → value ≤ 32 → span key value ≡ 1
short_span key value few less = omega (arith, few, less)

rotated : (n by : ℕ) → n < 2 ^ 32 → rotate_right w32 n by < 2 ^ 32
rotated n by fits = or_of_32 _ _ (omega (arith, div-le_self n (2 ^ (by % 32)))) (mod-lt _ (omega arith))

word_fits : (from : Lcg) → (pcg32 from).0 < 2 ^ 32
word_fits from = rotated _ (from.state / 2 ^ 59) (mod-lt _ (omega arith))

digits : (number : ℕ) → number < 2 ^ 32 → length (decimal number) ≤ 10
digits number fits = length-decimal-le 10 number (omega arith) (omega arith) (omega arith)

pub next_short : (draws : Draws) → IsShort (next_load draws)
next_short draws =
    let first = (pcg32 draws.generator).0 in
    let last : Lcg = (pcg32 (pcg32 draws.generator).1).1 in
    let number = digits (first % draws.keys) (omega (arith, mod-le first draws.keys, word_fits draws.generator)) in
    short_span (length (next_load draws).key) (length (next_load draws).value) (omega (arith, number)) (omega (arith, digits (pcg32 last).0 (word_fits last)))
