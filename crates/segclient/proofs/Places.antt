-- Lists place by place: two of them, or one that is made of another.
use Rattle.std.proofs.Common.{◌≡◌, ℕ, zero, suc, ◌<◌, List, [], ◌∷◌, ◌++◌, get_or, length, map, slice_get, Some, refl, ap, subst, arith}
use Rattle.std.specs.List.{AllZip}
use Rattle.std.proofs.lemmas.Option.{none-some, same_Some, slice_get-get_or}

-- one more at the end of each
pub zip_push : {A B : Type 0} (R : A → B → Type 0) (xs : List A) (ys : List B) (x : A) (y : B) → AllZip R xs ys → R x y → AllZip R (xs ++ x ∷ []) (ys ++ y ∷ [])
zip_push R [] [] x y zip last = (last, tt)
zip_push R [] (b ∷ ys) x y zip last = absurd zip
zip_push R (a ∷ xs) [] x y zip last = absurd zip
zip_push R (a ∷ xs) (b ∷ ys) x y zip last = (zip.0, zip_push R xs ys x y zip.1 last)

-- they are as long as each other
pub zip_long : {A B : Type 0} (R : A → B → Type 0) (xs : List A) (ys : List B) → AllZip R xs ys → length ys ≡ length xs
zip_long R [] [] zip = refl
zip_long R [] (b ∷ ys) zip = absurd zip
zip_long R (a ∷ xs) [] zip = absurd zip
zip_long R (a ∷ xs) (b ∷ ys) zip = ap suc (zip_long R xs ys zip.1)

-- what stands at a place of the second stands beside one of the first
pub zip_at : {A B : Type 0} (R : A → B → Type 0) (xs : List A) (ys : List B) (n : ℕ) (y : B) → AllZip R xs ys → slice_get ys n ≡ Some y → (x : A) × (slice_get xs n ≡ Some x) × R x y
zip_at R [] [] n y zip at = absurd (none-some y at)
zip_at R [] (b ∷ ys) n y zip at = absurd zip
zip_at R (a ∷ xs) [] n y zip at = absurd zip
zip_at R (a ∷ xs) (b ∷ ys) zero y zip at = (a, refl, subst (R a) (same_Some b y at) zip.0)
zip_at R (a ∷ xs) (b ∷ ys) (suc n) y zip at = zip_at R xs ys n y zip.1 at

-- there is something at each place below the length
pub is_there : {A : Type 0} (xs : List A) (n : ℕ) → n < length xs → (x : A) × (slice_get xs n ≡ Some x)
is_there [] n below = absurd (omega (arith, below))
is_there (x ∷ xs) n below = (get_or (x ∷ xs) n x, slice_get-get_or (x ∷ xs) n x below)

-- what a list is made of stands at the same place
pub made_of : {A B : Type 0} (f : A → B) (xs : List A) (n : ℕ) (y : B) → slice_get (map f xs) n ≡ Some y → (x : A) × (slice_get xs n ≡ Some x) × (f x ≡ y)
made_of f [] n y at = absurd (none-some y at)
made_of f (x ∷ xs) zero y at = (x, refl, same_Some (f x) y at)
made_of f (x ∷ xs) (suc n) y at = made_of f xs n y at
