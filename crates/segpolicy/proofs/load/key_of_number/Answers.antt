use Rattle.std.proofs.Common.{◌≡◌, ℕ, ◌+◌, ◌-◌, ◌^◌, ◌<◌, ◌≤◌, List, ◌∷◌, length, take, drop, set, decimal, ap, ◌∙◌, arith, rules, append-nil}
use Rattle.std.proofs.Math.Seq.{take-length}
use Rattle.std.proofs.lemmas.Fmt.{length-decimal-le}
use Rattle.std.proofs.lemmas.List.{drop-set}
use Rattle.segpolicy.proofs.load.key_of_number.Goals as goal

short : (number : ℕ) → number < 2 ^ 32 → length (decimal number) ≤ 10
short number fits = length-decimal-le 10 number (omega arith) (omega arith) (omega arith)

-- the text of this size from one byte on that is written before the digits at its end
one_before : (text digits : List ℕ) (size start byte : ℕ) → length text ≡ size → start + length digits ≡ size → 1 ≤ start
    → drop start text ≡ digits
    → take (size - (start - 1)) (drop (start - 1) (set text (start - 1) byte)) ≡ byte ∷ digits
one_before text digits size start byte full ends later at_end =
    let inside : start - 1 < length text = omega arith in
    let back : start - 1 + 1 ≡ start = omega arith in
    let rest : size - (start - 1) ≡ length (byte ∷ digits) = omega arith in
    let whole : drop (start - 1) (set text (start - 1) byte) ≡ byte ∷ digits =
    drop-set text (start - 1) byte inside ∙ ap (λ (n : ℕ). byte ∷ drop n text) back ∙ ap (λ tail. byte ∷ tail) at_end in
    ap (take (size - (start - 1))) whole ∙ ap (λ (n : ℕ). take n (byte ∷ digits)) rest ∙ take-length _

pub write_digits-start-requires : goal.write_digits-start-requires
write_digits-start-requires c = search (rules, length-decimal-le 11)

pub overflow_sub-start : goal.overflow_sub-start
overflow_sub-start c = omega (arith, short c.from.result (omega (arith, c.from.ensures)))

pub returns : goal.returns
returns c =
    let written = c.write_digits-start in
    let few = short c.from.result (omega (arith, c.from.ensures)) in
    rw c.unwrap.ensures at c.new.ensures.some
    ∙ one_before written.new.buf (decimal c.from.result) 11 written.result 107 written.auto.buf (omega arith) (omega (arith, few))
    (simp append-nil at written.ensures.written)
    ∙ ap (λ (number : ℕ). 107 ∷ decimal number) c.from.ensures
