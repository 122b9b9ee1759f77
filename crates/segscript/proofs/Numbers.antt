-- Numbers in decimal digits.
use Rattle.std.proofs.Common.{◌≡◌, ◌==◌, ◌&&◌, ◌∙◌, ◌⊎◌, inl, inr, ℕ, zero, suc, ◌+◌, ◌*◌, ◌-◌, ◌<◌, ◌≤◌, ◌^◌, Bool, true, false, List, [], ◌∷◌, length, Option, Some, None, Result, Ok, Err, refl, sym, ap, subst, arith, if◌then◌else◌, nat_lt, lt-ltb, ne_eqb, true≢false}
use Rattle.std.specs.Char.{is_ascii_digit}
use Rattle.std.specs.Fmt.{decimal}
use Rattle.std.specs.Prelude.{slice_index}
use Rattle.std.specs.Result.{OkIff, result_ok}
use Rattle.std.specs.Str.{all_ascii_digits}
use Rattle.std.proofs.lemmas.Bool.{and_cases, and_from, and_left, and_parts, and_right, eqb-false, le-ltb, ltb-false}
use Rattle.std.proofs.lemmas.Bool.Decides.{eqb_tells}
use Rattle.std.proofs.lemmas.Str.Parse.{IsNumeralModel, numerals_by_fold, tells_all_ascii_digits}
use Rattle.std.proofs.lemmas.Fmt.{decimal_digit, decimal_injective, decimal_nonempty, digits_decimal, digits_value-decimal, first_decimal, decimal-digits_value}
use Rattle.segscript.specs.Spelling.{IsFrequency, IsNumber}
use Rattle.segtext.specs.Digits.{number_below, number_from}
use Rattle.segscript.specs.Reading.{has_leading_zero, ReadsAs}

abbrev pub read_on : ℕ → List ℕ → ℕ
read_on n [] = n
read_on n (c ∷ cs) = read_on (n * 10 + (c - 48)) cs

own : IsNumeralModel (λ ds. all_ascii_digits ds ≡ true) (read_on 0)
own = numerals_by_fold _ tells_all_ascii_digits read_on (record { empty = λ n. refl; more = λ n c cs k. refl })

grows : (n : ℕ) (ds : List ℕ) → n ≤ read_on n ds
grows n [] = omega arith
grows n (c ∷ cs) = omega (arith, grows (n * 10 + (c - 48)) cs)

-- ---- digits that write a number below the limit

number_on : (limit n : ℕ) (ds : List ℕ) → all_ascii_digits ds ≡ true → read_on n ds < limit → number_from limit n ds ≡ Some (read_on n ds)
number_on limit n [] digits small = refl
number_on limit n (c ∷ cs) digits small =
    let parts = and_parts (is_ascii_digit c) (all_ascii_digits cs) digits in
    let next : ℕ = n * 10 + (c - 48) in
    let below = lt-ltb next limit (omega (arith, small, grows next cs)) in
    ap (λ b. if b && nat_lt next limit then number_from limit next cs else None) parts.0
    ∙ ap (λ b. if b then number_from limit next cs else None) below
    ∙ number_on limit next cs parts.1 small

below_digits : (limit : ℕ) (ds : List ℕ) → 0 < length ds → all_ascii_digits ds ≡ true → read_on 0 ds < limit → number_below limit ds ≡ Some (read_on 0 ds)
below_digits limit ds some digits small =
    ap (λ b. if b then None else number_from limit 0 ds) (ne_eqb (length ds) 0 (λ e. omega (arith, e, some)))
    ∙ number_on limit 0 ds digits small

pub digits_of_decimal : (n : ℕ) → n < 2 ^ 64 → all_ascii_digits (decimal n) ≡ true
digits_of_decimal n large = digits_decimal own n large

pub below_decimal : (limit n : ℕ) → n < limit → n < 2 ^ 64 → number_below limit (decimal n) ≡ Some n
below_decimal limit n small large =
    let value = digits_value-decimal own n large in
    below_digits limit (decimal n) (decimal_nonempty n large) (digits_of_decimal n large) (omega (arith, small, value)) ∙ ap Some value

-- ---- what was read are digits, and they write it

if_some : (b : Bool) (x : Option ℕ) (n : ℕ) → (if b then x else None) ≡ Some n → (b ≡ true) × (x ≡ Some n)
if_some true x n e = (refl, e)
if_some false x n e = absurd (cc)

else_some : (b : Bool) (x : Option ℕ) (n : ℕ) → (if b then None else x) ≡ Some n → (b ≡ false) × (x ≡ Some n)
else_some true x n e = absurd (cc)
else_some false x n e = (refl, e)

on_number : (limit n : ℕ) (ds : List ℕ) (a : ℕ) → number_from limit n ds ≡ Some a → (all_ascii_digits ds ≡ true) × (read_on n ds ≡ a)
on_number limit n [] a e = (refl, cc)
on_number limit n (c ∷ cs) a e =
    let next : ℕ = n * 10 + (c - 48) in
    let one = if_some (is_ascii_digit c && nat_lt next limit) (number_from limit next cs) a e in
    let digit = and_parts (is_ascii_digit c) (nat_lt next limit) one.0 in
    let rest = on_number limit next cs a one.1 in
    (and_from (is_ascii_digit c) (all_ascii_digits cs) digit.0 rest.0, rest.1)

-- ---- no zero in front

pub zero_alone : (ds : List ℕ) → has_leading_zero ds ≡ false → slice_index ds 0 ≡ 48 → length ds ≡ 1
zero_alone [] plain same = absurd (zero_is_not same)
  where
    zero_is_not : ◌≡◌ {A = ℕ} 0 48 → ⊥
    zero_is_not e = omega arith
zero_alone (d ∷ ds) plain same = elim (and_cases _ _ plain) [ inl h ↦ absurd (eqb-false _ _ h same) | inr h ↦ let most = ltb-false 1 (length (d ∷ ds)) h in omega arith ]

alone_in_decimal : (n : ℕ) → n < 2 ^ 32 → slice_index (decimal n) 0 ≡ 48 → length (decimal n) ≡ 1
alone_in_decimal zero small = rw (decimal_digit 0 (omega arith)) (λ e. refl)
alone_in_decimal (suc n) small = let h = first_decimal (suc n) (omega arith) (omega arith) in λ e. absurd (omega arith)

no_leading_zero : (ds : List ℕ) → (slice_index ds 0 ≡ 48 → length ds ≡ 1) → has_leading_zero ds ≡ false
no_leading_zero ds one = by (eqb_tells (slice_index ds 0) 48)
  where
    by : ((slice_index ds 0 == 48) ≡ true) × (slice_index ds 0 ≡ 48) ⊎ ((slice_index ds 0 == 48) ≡ false) × (slice_index ds 0 ≡ 48 → ⊥) → has_leading_zero ds ≡ false
    by (inl t) = let e : length ds ≡ 1 = one t.1 in and_right _ _ (le-ltb 1 (length ds) (omega arith))
    by (inr f) = and_left _ _ f.0

pub decimal_plain : (n : ℕ) → n < 2 ^ 32 → has_leading_zero (decimal n) ≡ false
decimal_plain n small = no_leading_zero (decimal n) (alone_in_decimal n small)

-- ---- words that write a number

pub some-decimal : (ds : List ℕ) (n : ℕ) → has_leading_zero ds ≡ false → number_below (2 ^ 32) ds ≡ Some n → n < 2 ^ 32 → ds ≡ decimal n
some-decimal ds n plain e small =
    let one = else_some (length ds == 0) (number_from (2 ^ 32) 0 ds) n e in
    let read = on_number (2 ^ 32) 0 ds n one.1 in
    let some = eqb-false (length ds) 0 one.0 in
    sym (decimal-digits_value own ds read.0 (omega arith) (zero_alone ds plain) (omega (arith, read.1, small))) ∙ ap decimal read.1

pub none-decimal : (ds : List ℕ) → number_below (2 ^ 32) ds ≡ None → (n : ℕ) → IsNumber n → ds ≡ decimal n → ⊥
none-decimal ds e n small same = let read = below_decimal (2 ^ 32) n small (omega (arith, small)) in absurd (cc)

pub none-plain : (ds : List ℕ) → has_leading_zero ds ≡ true → (n : ℕ) → IsNumber n → ds ≡ decimal n → ⊥
none-plain ds zeros n small same = true≢false (sym zeros ∙ ap has_leading_zero same ∙ decimal_plain n small)

-- a number that fits a byte is a frequency, and no other number is
pub ReadsAs-byte : {E : Type 0} (bs : List ℕ) (n : ℕ) (r : Result ℕ E) → n < 2 ^ 32 → bs ≡ decimal n → OkIff r (n < 256) n → ReadsAs IsFrequency decimal bs (result_ok r)
ReadsAs-byte bs n (Ok byte) small same is = (subst (λ m. m < 256) (sym is.1) is.0, same ∙ ap decimal (sym is.1))
ReadsAs-byte bs n (Err e) small same high = λ a low spelled. high (subst (λ m. m < 256) (decimal_injective a n (omega (arith, low)) (omega (arith, small)) (sym spelled ∙ same)) low)
