-- What the calls of a ring answer, one after another.
use Rattle.std.proofs.Common.{◌≡◌, ℕ, zero, suc, ◌+◌, ◌-◌, ◌%◌, ◌<◌, ◌≤◌, ◌==◌, ◌⊎◌, inl, inr, slice_index, count_by, refl, sym, ap, ◌∙◌, arith, cond, eq-zero-or-pos, eq-eqb}
use Rattle.std.proofs.Math.Nat.{mod-add-mod, mod-eq_of_lt, mod_self}
use Rattle.std.proofs.lemmas.Nat.{mod_below}
use Rattle.std.proofs.lemmas.Bool.{ne_eqb}
use Rattle.std.proofs.lemmas.List.Sums.{sum_by-cons}
use Rattle.segpolicy.specs.Cycle.{Cycle, next_of, turned, answers}

-- call i of n answers the number i places on
pub slice_index-answers : (n i : ℕ) (cycle : Cycle) → cycle.given < cycle.count → i < n
    → slice_index (answers n cycle) i ≡ cycle.first + (cycle.given + i) % cycle.count
unfolding answers
slice_index-answers zero i cycle inside below = absurd (omega arith)
slice_index-answers (suc n) zero cycle inside below =
    let here : cycle.given + 0 < cycle.count = omega arith in
    let same : (cycle.given + 0) % cycle.count ≡ cycle.given = mod-eq_of_lt here ∙ omega arith in
    ap (λ (given : ℕ). cycle.first + given) (sym same)
slice_index-answers (suc n) (suc i) cycle inside below =
    let more : cycle.given + 1 + i ≡ cycle.given + suc i = omega arith in
    slice_index-answers n i (turned cycle) (mod_below _ _ (omega arith)) (omega arith)
    ∙ ap (λ (given : ℕ). cycle.first + given)
    (mod-add-mod (cycle.given + 1) cycle.count i ∙ ap (λ (given : ℕ). given % cycle.count) more)

-- how often n calls answer a number
abbrev times : ℕ → Cycle → ℕ → ℕ
times n cycle number = count_by (λ answer. answer == number) (answers n cycle)

-- one call more, which answers the number
times_same : (n : ℕ) (cycle : Cycle) (number : ℕ) → next_of cycle ≡ number
    → times (suc n) cycle number ≡ 1 + times n (turned cycle) number
unfolding answers
times_same n cycle number same =
    sum_by-cons (λ answer. cond (answer == number) 1 0) _ (answers n (turned cycle))
    ∙ ap (λ b. cond b 1 0 + times n (turned cycle) number) (eq-eqb _ _ same)

-- one call more, which answers another number
times_other : (n : ℕ) (cycle : Cycle) (number : ℕ) → (next_of cycle ≡ number → ⊥)
    → times (suc n) cycle number ≡ times n (turned cycle) number
unfolding answers
times_other n cycle number other =
    sum_by-cons (λ answer. cond (answer == number) 1 0) _ (answers n (turned cycle))
    ∙ ap (λ b. cond b 1 0 + times n (turned cycle) number) (ne_eqb _ _ other) ∙ omega arith

-- the number stands `ahead` places on, perhaps past the end of this round
record IsAhead (cycle : Cycle) (ahead number : ℕ) : Type 0 where
  from_first : cycle.first ≤ number
  below_end : number < cycle.first + cycle.count
  below : ahead < cycle.count
  there : (cycle.first + cycle.given + ahead ≡ number)
      ⊎ (cycle.first + cycle.given + ahead ≡ number + cycle.count)

-- a call goes one place on, or begins the next round
given-turned : (cycle : Cycle) → cycle.given < cycle.count
    → ((turned cycle).given ≡ cycle.given + 1) ⊎ (((turned cycle).given ≡ 0) × (cycle.given + 1 ≡ cycle.count))
given-turned cycle inside =
    elim (eq-zero-or-pos (cycle.count - (cycle.given + 1))) [
      | inl none ↦
          let last : cycle.given + 1 ≡ cycle.count = omega arith in
          inr (ap (λ (n : ℕ). n % cycle.count) last ∙ mod_self cycle.count, last)
      | inr some ↦ let more : cycle.given + 1 < cycle.count = omega arith in inl (mod-eq_of_lt more)
    ]

-- after the call that answers a number, the number stands a round on, less one place
ahead_again : (cycle : Cycle) (number : ℕ) → cycle.given < cycle.count → IsAhead cycle 0 number
    → IsAhead (turned cycle) (cycle.count - 1) number
ahead_again cycle number inside far =
    record {
      from_first = far.from_first;
      below_end = far.below_end;
      below = omega arith;
      there = elim far.there [
        | inl here ↦ elim (given-turned cycle inside) [
          | inl more ↦ inr (omega arith)
          | inr last ↦ inl (omega (arith, last.0, last.1))
        ]
        | inr past ↦ absurd (omega (arith, far.from_first))
      ];
    }

-- after another call, the number stands one place nearer
ahead_nearer : (cycle : Cycle) (ahead number : ℕ) → cycle.given < cycle.count → 0 < ahead
    → IsAhead cycle ahead number → IsAhead (turned cycle) (ahead - 1) number
ahead_nearer cycle ahead number inside some far =
    record {
      from_first = far.from_first;
      below_end = far.below_end;
      below = omega (arith, far.below);
      there = elim (given-turned cycle inside) [
        | inl more ↦ elim far.there [
          | inl here ↦ inl (omega arith)
          | inr past ↦ inr (omega arith)
        ]
        | inr last ↦ elim far.there [
          | inl here ↦ absurd (omega (arith, last.1, far.below_end))
          | inr past ↦ inl (omega (arith, last.0, last.1))
        ]
      ];
    }

-- a number is answered now where it stands no place ahead
now_here : (cycle : Cycle) (number : ℕ) → cycle.given < cycle.count → IsAhead cycle 0 number
    → next_of cycle ≡ number
now_here cycle number inside far =
    elim far.there [
      | inl here ↦ omega arith
      | inr past ↦ absurd (omega (arith, far.from_first))
    ]

-- and not where it stands further ahead
not_here : (cycle : Cycle) (ahead number : ℕ) → 0 < ahead → IsAhead cycle ahead number
    → next_of cycle ≡ number → ⊥
not_here cycle ahead number some far same =
    elim far.there [ inl here ↦ omega arith | inr past ↦ omega (arith, far.below) ]

-- in up to a round of calls, a number is answered once where the calls reach it
times-ahead : (n : ℕ) (cycle : Cycle) (ahead number : ℕ) → cycle.given < cycle.count → n ≤ cycle.count
    → IsAhead cycle ahead number
    → (ahead < n → times n cycle number ≡ 1) × (n ≤ ahead → times n cycle number ≡ 0)
unfolding answers
times-ahead zero cycle ahead number inside few far = (λ reached. absurd (omega arith), λ _. refl)
times-ahead (suc n) cycle zero number inside few far =
    let later = times-ahead n (turned cycle) (cycle.count - 1) number
    (mod_below _ _ (omega arith)) (omega arith) (ahead_again cycle number inside far) in (
      λ reached. times_same n cycle number (now_here cycle number inside far)
          ∙ ap (λ (k : ℕ). 1 + k) (later.1 (omega arith)),
      λ short. absurd (omega arith),
    )
times-ahead (suc n) cycle (suc ahead) number inside few far =
    let later = times-ahead n (turned cycle) (suc ahead - 1) number
    (mod_below _ _ (omega arith)) (omega arith)
    (ahead_nearer cycle (suc ahead) number inside (omega arith) far) in
    let one_less = times_other n cycle number (not_here cycle (suc ahead) number (omega arith) far) in (
      λ reached. one_less ∙ later.0 (omega arith),
      λ short. one_less ∙ later.1 (omega arith),
    )

-- a round of calls answers each number once
pub times-round : (cycle : Cycle) (number : ℕ) → cycle.given < cycle.count → cycle.first ≤ number
    → number < cycle.first + cycle.count
    → count_by (λ answer. answer == number) (answers cycle.count cycle) ≡ 1
times-round cycle number inside from_first below_end =
    elim (eq-zero-or-pos (cycle.first + cycle.given - number)) [
      | inl on ↦
          let ahead = number - (cycle.first + cycle.given) in
          let below : ahead < cycle.count = omega arith in
          (times-ahead cycle.count cycle ahead number inside (omega arith) (record {
            from_first = from_first;
            below_end = below_end;
            below = below;
            there = inl (omega arith);
          })).0 below
      | inr back ↦
          let ahead = number + cycle.count - (cycle.first + cycle.given) in
          let below : ahead < cycle.count = omega arith in
          (times-ahead cycle.count cycle ahead number inside (omega arith) (record {
            from_first = from_first;
            below_end = below_end;
            below = below;
            there = inr (omega arith);
          })).0 below
    ]
