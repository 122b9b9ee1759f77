-- The whole part of a decimal, before its point.
use Rattle.std.proofs.Common.{◌≡◌, ◌==◌, ◌&&◌, ◌∙◌, ℕ, ◌+◌, ◌*◌, ◌-◌, ◌^◌, Bool, true, false, List, [], ◌∷◌, ◌++◌, length, Option, Some, None, refl, sym, ap, arith, if◌then◌else◌, nat_lt, ne_eqb}
use Rattle.std.specs.Char.{is_ascii_digit}
use Rattle.std.specs.List.{AllByRecursion, list_all}
use Rattle.segtext.specs.Digits.{number_below, number_from}
use Rattle.segtraces.specs.Words.{whole_from, whole_named}

abbrev pub NoPoint : List ℕ → Type 0
NoPoint text = AllByRecursion (λ byte. (byte == 46) ≡ false) text

swap : (a b : Bool) (x : Option ℕ) → (if a then (if b then x else None) else None) ≡ (if b then (if a then x else None) else None)
swap true b x = refl
swap false true x = refl
swap false false x = refl

-- what stands behind the point decides whether the number counts
before_point : (n : ℕ) (whole part : List ℕ) → NoPoint whole
    → whole_from n (whole ++ 46 ∷ part) ≡ (if list_all is_ascii_digit part then number_from (2 ^ 60) n whole else None)
before_point n [] part plain = refl
before_point n (c ∷ cs) part plain =
    let next : ℕ = n * 10 + (c - 48) in
    ap (λ b. if b then (if list_all is_ascii_digit (cs ++ 46 ∷ part) then Some n else None)
    else (if is_ascii_digit c && nat_lt next (2 ^ 60) then whole_from next (cs ++ 46 ∷ part) else None)) plain.0
    ∙ ap (λ x. if is_ascii_digit c && nat_lt next (2 ^ 60) then x else None) (before_point next cs part plain.1)
    ∙ swap (is_ascii_digit c && nat_lt next (2 ^ 60)) (list_all is_ascii_digit part) (number_from (2 ^ 60) next cs)

without_point : (n : ℕ) (text : List ℕ) → NoPoint text → whole_from n text ≡ number_from (2 ^ 60) n text
without_point n [] plain = refl
without_point n (c ∷ cs) plain =
    let next : ℕ = n * 10 + (c - 48) in
    ap (λ b. if b then (if list_all is_ascii_digit cs then Some n else None)
    else (if is_ascii_digit c && nat_lt next (2 ^ 60) then whole_from next cs else None)) plain.0
    ∙ ap (λ x. if is_ascii_digit c && nat_lt next (2 ^ 60) then x else None) (without_point next cs plain.1)

-- ---- a whole part begins with a digit

first_digit : (limit byte : ℕ) (text : List ℕ) → number_below limit (byte ∷ text) ≡ (if is_ascii_digit byte then number_from limit 0 (byte ∷ text) else None)
first_digit limit byte text =
    ap (λ b. if b then None else number_from limit 0 (byte ∷ text)) (ne_eqb (length (byte ∷ text)) 0 (λ e. omega (arith, e)))
    ∙ once (is_ascii_digit byte) (nat_lt (0 * 10 + (byte - 48)) limit) (number_from limit (0 * 10 + (byte - 48)) text)
  where
    once : (a b : Bool) (x : Option ℕ) → (if a && b then x else None) ≡ (if a then (if a && b then x else None) else None)
    once true b x = refl
    once false b x = refl

pub whole_alone : (text : List ℕ) → NoPoint text → number_below (2 ^ 60) text ≡ whole_named text
whole_alone [] plain = refl
whole_alone (c ∷ cs) plain =
    first_digit (2 ^ 60) c cs
    ∙ ap (λ x. if is_ascii_digit c then x else None) (sym (without_point 0 (c ∷ cs) plain))

pub whole_with_part : (whole part : List ℕ) → NoPoint whole
    → (if list_all is_ascii_digit part then number_below (2 ^ 60) whole else None) ≡ whole_named (whole ++ 46 ∷ part)
whole_with_part [] part plain = same (list_all is_ascii_digit part)
  where
    same : (b : Bool) → (if b then number_below (2 ^ 60) [] else None) ≡ None
    same true = refl
    same false = refl
whole_with_part (c ∷ cs) part plain =
    ap (λ x. if list_all is_ascii_digit part then x else None) (first_digit (2 ^ 60) c cs)
    ∙ swap (list_all is_ascii_digit part) (is_ascii_digit c) (number_from (2 ^ 60) 0 (c ∷ cs))
    ∙ ap (λ x. if is_ascii_digit c then x else None) (sym (before_point 0 (c ∷ cs) part plain))
