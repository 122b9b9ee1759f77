-- Lists of which each element has a property at its place, as they grow by one, their elements, and lists that begin each other.
use Rattle.std.proofs.Common.{◌≡◌, ℕ, zero, suc, List, [], ◌∷◌, ◌++◌, ◌<◌, length, slice_get, Some, refl, sym, ap, subst, ⊎_elim, arith, length-append}
use Rattle.std.proofs.lemmas.Option.{none-some}
use Rattle.segmodel.specs.Words.{Begins}
use Rattle.segload.specs.Lists.{AllAt}
use Rattle.segmodel.proofs.ListPlaces.{front_or_last}

pub all_pushed : {A : Type 0} (P : ℕ → A → Type 0) (xs : List A) (x : A) → AllAt P xs → P (length xs) x → AllAt P (xs ++ x ∷ [])
all_pushed P xs x all here n y at = ⊎_elim (λ was. all n y was) (λ e. subst (P n) e.1 (subst (λ m. P m x) (sym e.0) here)) (front_or_last xs x y n at)

pub all_none : {A : Type 0} {P : Type 0} (n : ℕ) (x : A) → slice_get [] n ≡ Some x → P
all_none n x at = absurd (none-some x at)

-- a place within a list has an element
pub element_at : {A : Type 0} (xs : List A) (n : ℕ) → n < length xs → (x : A) × (slice_get xs n ≡ Some x)
element_at [] n below = absurd (omega (arith, below))
element_at (x ∷ xs) zero below = (x, refl)
element_at (x ∷ xs) (suc n) below = element_at xs n (omega (arith, below))

-- two lists that begin each other are one
pub both_begin : {A : Type 0} (xs ys : List A) → Begins xs ys → Begins ys xs → xs ≡ ys
both_begin {A} xs ys one other = go one.0 one.1
  where
    go : (more : List A) → ys ≡ more ++ xs → xs ≡ ys
    go [] is = sym is
    go (x ∷ more) is = absurd (omega (arith, ap length is, ap length other.1, length-append more xs, length-append other.0 ys))
