-- Fields that were written: texts without white space, and numbers in decimal digits.
use Rattle.std.proofs.Common.{◌≡◌, ◌<◌, ◌+◌, ◌-◌, ◌/◌, ◌^◌, ◌∙◌, ◌==◌, ℕ, zero, suc, true, false, cond, if◌then◌else◌, List, [], ◌∷◌, length, drop, take, get_or, slice_index_or, Some, None, refl, sym, ap, arith, decimal, lt-ltb, ne_eqb, take_all, leb-true}
use Rattle.std.specs.Char.{is_ascii_digit, is_ascii_whitespace}
use Rattle.std.specs.List.{AllByRecursion, prefix_len}
use Rattle.std.specs.Str.{all_ascii_digits}
use Rattle.std.proofs.lemmas.Bool.{and_parts}
use Rattle.std.proofs.lemmas.List.Sums.{suffix_len_is}
use Rattle.segscript.proofs.Numbers.{below_decimal, digits_of_decimal}
use Rattle.segreplay.specs.Laws.{IsPlain}
use Rattle.segtraces.specs.Words.{lasting, moment_named, moment_of, number_named, shown, trimmed, whole_named, without_end}
use Rattle.segtraces.proofs.Wholes.{NoPoint, whole_alone}

-- ---- white space

first_plain : (text : List ℕ) → IsPlain text → prefix_len is_ascii_whitespace text ≡ 0
first_plain [] plain = refl
first_plain (byte ∷ text) plain = ap (λ b. cond b (1 + prefix_len is_ascii_whitespace text) 0) plain.0

plain_at : (text : List ℕ) (k : ℕ) → IsPlain text → k < length text → is_ascii_whitespace (get_or text k 0) ≡ false
plain_at [] k plain below = absurd (omega arith)
plain_at (byte ∷ text) zero plain below = plain.0
plain_at (byte ∷ text) (suc k) plain below = plain_at text k plain.1 (omega arith)

no_end : (text : List ℕ) → IsPlain text → without_end text ≡ text
no_end text plain =
    let none = suffix_len_is is_ascii_whitespace text (length text) 0 (omega arith) (λ k from below. absurd (omega arith)) (λ some. plain_at text (length text - 1) plain (omega arith)) in
    ap (λ n. take (length text - n) text) none ∙ take_all (length text - (length text - length text)) text (omega arith)

pub trimmed_plain : (text : List ℕ) → IsPlain text → trimmed text ≡ text
trimmed_plain text plain = ap (λ n. without_end (drop n text)) (first_plain text plain) ∙ no_end text plain

pub plain_field : (fields : List (List ℕ)) (place : ℕ) → AllByRecursion IsPlain fields → IsPlain (slice_index_or fields place [])
plain_field [] zero plain = tt
plain_field [] (suc place) plain = tt
plain_field (field ∷ fields) zero plain = plain.0
plain_field (field ∷ fields) (suc place) plain = plain_field fields place plain.1

-- ---- numbers

not_point : (c : ℕ) → is_ascii_digit c ≡ true → (c == 46) ≡ false
not_point c digit = ne_eqb c 46 (λ e. omega (arith, e, leb-true 48 c (and_parts _ _ digit).0))

no_point : (ds : List ℕ) → all_ascii_digits ds ≡ true → NoPoint ds
no_point [] digits = tt
no_point (c ∷ cs) digits = let parts = and_parts (is_ascii_digit c) (all_ascii_digits cs) digits in (not_point c parts.0, no_point cs parts.1)

module _ (n : ℕ) (small : n < 2 ^ 32) where
  large : n < 2 ^ 64
  large = omega (arith, small)

  pub number_decimal : number_named (decimal n) ≡ Some n
  number_decimal = below_decimal (2 ^ 32) n small large

  pub life_decimal : 0 < n → lasting (number_named (decimal n)) ≡ Some n
  life_decimal some = ap lasting number_decimal ∙ ap (λ b. Some (if b then 2 ^ 32 - 1 else n)) (ne_eqb n 0 (λ e. omega (arith, e, some)))

  whole_decimal : whole_named (decimal n) ≡ Some n
  whole_decimal = sym (whole_alone (decimal n) (no_point (decimal n) (digits_of_decimal n large))) ∙ below_decimal (2 ^ 60) n (omega (arith, small)) large

  pub moment_decimal : moment_named (decimal n) ≡ Some n
  moment_decimal =
      ap moment_of whole_decimal
      ∙ ap (λ b. shown (if b then n else n / 1000)) (lt-ltb n 1000000000000 (omega (arith, small)))
      ∙ ap (λ b. if b then Some n else None) (lt-ltb n (2 ^ 32) small)
