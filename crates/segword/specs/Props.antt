-- Facts that have at most one proof, so that a struct may keep them in a ghost field:
-- pairs whose second part determines the first, one of two facts that exclude each other,
-- and the facts of keys, values and shapes.
use Rattle.std.specs.Prelude.{◌≡◌, ℕ, ◌^◌, ◌⊎◌, List}
use Rattle.std.specs.Int.{IsPowerOfTwo}
use Rattle.std.proofs.Common.{sym, ap, ◌∙◌, inl, inr, arith}
use Rattle.std.proofs.Props.{props}
use Rattle.std.proofs.lemmas.Bool.{cases_lt}
use Rattle.std.proofs.lemmas.Nat.{pow_below}
use mathlib.Core.HLevel.{Σ_prop_path}
use Rattle.segword.specs.declared.shape.Shape.{Shape}
use Rattle.segword.specs.Bytes.{IsKey, IsValue}
use Rattle.segword.specs.Shape.{IsValid}

-- a pair whose second part determines the first
pub pair-prop : {A : Type 0} {P : A → Type 0} → ((x : A) → IsProp (P x)) → ((x y : A) → P x → P y → x ≡ y) → IsProp ((x : A) × P x)
pair-prop one told u v = Σ_prop_path one (told u.0 v.0 u.1 v.1)

-- the same of three and of four parts
pub triple-prop : {A : Type 0} {P Q : A → Type 0} → ((x : A) → IsProp (P x × Q x)) → ((x y : A) → P x × Q x → P y × Q y → x ≡ y) → IsProp ((x : A) × P x × Q x)
triple-prop {A} {P} {Q} one told u v =
    ap (λ (w : (x : A) × (P x × Q x)). (w.0, w.1.0, w.1.1)) (pair-prop one told (u.0, (u.1, u.2)) (v.0, (v.1, v.2)))

pub quadruple-prop : {A : Type 0} {P Q R : A → Type 0} → ((x : A) → IsProp (P x × Q x × R x)) → ((x y : A) → P x × Q x × R x → P y × Q y × R y → x ≡ y) → IsProp ((x : A) × P x × Q x × R x)
quadruple-prop {A} {P} {Q} {R} one told u v =
    ap (λ (w : (x : A) × (P x × Q x × R x)). (w.0, w.1.0, w.1.1, w.1.2)) (pair-prop one told (u.0, (u.1, u.2, u.3)) (v.0, (v.1, v.2, v.3)))

-- one of two facts that exclude each other
pub either-prop : {P Q : Type 0} → IsProp P → IsProp Q → (P → Q → ⊥) → IsProp (P ⊎ Q)
either-prop left right never (inl x) (inl y) = ap inl (left x y)
either-prop left right never (inl x) (inr y) = absurd (never x y)
either-prop left right never (inr x) (inl y) = absurd (never y x)
either-prop left right never (inr x) (inr y) = ap inr (right x y)

pub IsKey-prop : (bytes : List ℕ) → IsProp (IsKey bytes)
IsKey-prop bytes = hlevel props

pub IsValue-prop : (bytes : List ℕ) → IsProp (IsValue bytes)
IsValue-prop bytes = hlevel props

same_power : (i j : ℕ) → 2 ^ i ≡ 2 ^ j → i ≡ j
same_power i j same = elim (cases_lt i j) [
  | inl less ↦ let below = pow_below i j less in absurd (omega arith)
  | inr most ↦ elim (cases_lt j i) [
    | inl less ↦ let below = pow_below j i less in absurd (omega arith)
    | inr least ↦ omega arith
  ]
]

IsPowerOfTwo-prop : (n : ℕ) → IsProp (IsPowerOfTwo n)
IsPowerOfTwo-prop n = pair-prop (λ k. hlevel props) (λ i j at on. same_power i j (sym at ∙ on))

pub IsValid-prop : (shape : Shape) → IsProp (IsValid shape)
IsValid-prop shape = hlevel (props, IsPowerOfTwo-prop)
