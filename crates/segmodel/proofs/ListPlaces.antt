-- What stands at a place of a list: of one that has more at its end, and of one of which a place was set.
use Rattle.std.proofs.Common.{◌≡◌, ◌≢◌, ◌⊎◌, ℕ, zero, suc, List, [], ◌∷◌, ◌++◌, length, set, slice_get, Some, refl, sym, ap, inl, inr, ⊎_elim, arith}
use Rattle.std.proofs.lemmas.Option.{same_Some, none-some}

-- ---- more at its end

pub last_of : {A : Type 0} (xs : List A) (a : A) → slice_get (xs ++ a ∷ []) (length xs) ≡ Some a
last_of [] a = refl
last_of (x ∷ xs) a = last_of xs a

pub front_of : {A : Type 0} (xs ys : List A) (n : ℕ) (a : A) → slice_get xs n ≡ Some a → slice_get (xs ++ ys) n ≡ Some a
front_of [] ys n a e = absurd (none-some a e)
front_of (x ∷ xs) ys zero a e = e
front_of (x ∷ xs) ys (suc n) a e = front_of xs ys n a e

-- it stood there before, or is the new one
pub front_or_last : {A : Type 0} (xs : List A) (a b : A) (n : ℕ) → slice_get (xs ++ a ∷ []) n ≡ Some b → (slice_get xs n ≡ Some b) ⊎ ((n ≡ length xs) × (a ≡ b))
front_or_last [] a b zero e = inr (refl, same_Some a b e)
front_or_last [] a b (suc n) e = absurd (none-some b e)
front_or_last (x ∷ xs) a b zero e = inl e
front_or_last (x ∷ xs) a b (suc n) e = ⊎_elim (λ t. inl t) (λ t. inr (ap suc t.0, t.1)) (front_or_last xs a b n e)

-- ---- one place set

-- it is the new one at that place, or the old one elsewhere
pub found_set : {A : Type 0} (xs : List A) (i n : ℕ) (a x : A) → slice_get (set xs i a) n ≡ Some x → ((n ≡ i) × (x ≡ a)) ⊎ ((n ≢ i) × (slice_get xs n ≡ Some x))
found_set [] i n a x e = absurd (none-some x e)
found_set (y ∷ ys) zero zero a x e = inl (refl, sym (same_Some a x e))
found_set (y ∷ ys) zero (suc n) a x e = inr ((λ same. omega arith), e)
found_set (y ∷ ys) (suc i) zero a x e = inr ((λ same. omega arith), e)
found_set (y ∷ ys) (suc i) (suc n) a x e = ⊎_elim (λ t. inl (ap suc t.0, t.1)) (λ t. inr ((λ same. t.0 (omega (arith, same))), t.1)) (found_set ys i n a x e)

pub elsewhere : {A : Type 0} (xs : List A) (i n : ℕ) (a : A) → n ≢ i → slice_get (set xs i a) n ≡ slice_get xs n
elsewhere [] i n a other = refl
elsewhere (y ∷ ys) zero zero a other = absurd (other refl)
elsewhere (y ∷ ys) zero (suc n) a other = refl
elsewhere (y ∷ ys) (suc i) zero a other = refl
elsewhere (y ∷ ys) (suc i) (suc n) a other = elsewhere ys i n a (λ same. other (ap suc same))
