-- Lists place by place: what stands beside one another, in two lists or three.
use Rattle.std.proofs.Common.{◌≡◌, ℕ, zero, suc, ◌+◌, ◌<◌, ◌≤◌, List, [], ◌∷◌, ◌++◌, All, drop, get_or, length, slice_get, Some, refl, sym, ap, ◌∙◌, subst, arith}
use Rattle.std.specs.List.{AllZip}
use Rattle.std.proofs.lemmas.List.{length-append}
use Rattle.std.proofs.lemmas.Option.{none-some, same_Some, slice_get_within, get_or_from_slice_get}
use Rattle.segclient.proofs.Places.{zip_at}
use Rattle.segshards.specs.Each.{AllThree}

-- beside what stands at a place of the first list stands one of the second
pub zip_beside : {A B : Type 0} (R : A → B → Type 0) (xs : List A) (ys : List B) (n : ℕ) (x : A) → AllZip R xs ys → slice_get xs n ≡ Some x → (y : B) × (slice_get ys n ≡ Some y) × R x y
zip_beside R [] [] n x zip at = absurd (none-some x at)
zip_beside R [] (b ∷ ys) n x zip at = absurd zip
zip_beside R (a ∷ xs) [] n x zip at = absurd zip
zip_beside R (a ∷ xs) (b ∷ ys) zero x zip at = (b, refl, subst (λ k. R k b) (same_Some a x at) zip.0)
zip_beside R (a ∷ xs) (b ∷ ys) (suc n) x zip at = zip_beside R xs ys n x zip.1 at

pub zip_both : {A B : Type 0} (R : A → B → Type 0) (xs : List A) (ys : List B) (n : ℕ) (x : A) (y : B) → AllZip R xs ys → slice_get xs n ≡ Some x → slice_get ys n ≡ Some y → R x y
zip_both R xs ys n x y zip at_x at_y = let there = zip_at R xs ys n y zip at_y in subst (λ a. R a y) (same_Some there.0 x (sym there.1 ∙ at_x)) there.2

pub zip_weaker : {A B : Type 0} (R Q : A → B → Type 0) (xs : List A) (ys : List B) → ((x : A) (y : B) → R x y → Q x y) → AllZip R xs ys → AllZip Q xs ys
zip_weaker R Q [] [] weaker zip = tt
zip_weaker R Q [] (b ∷ ys) weaker zip = absurd zip
zip_weaker R Q (a ∷ xs) [] weaker zip = absurd zip
zip_weaker R Q (a ∷ xs) (b ∷ ys) weaker zip = (weaker a b zip.0, zip_weaker R Q xs ys weaker zip.1)

pub zip_there : {A B : Type 0} (R : A → B → Type 0) (xs : List A) (ys : List B) (n : ℕ) (x : A) (y : B) → AllZip R xs ys → n < length xs → x ≡ get_or xs n x → y ≡ get_or ys n y → R x y
zip_there R [] ys n x y zip below is_x is_y = absurd (omega (arith, below))
zip_there R (a ∷ xs) [] n x y zip below is_x is_y = absurd zip
zip_there R (a ∷ xs) (b ∷ ys) zero x y zip below is_x is_y = subst (λ k. R k y) (sym is_x) (subst (R a) (sym is_y) zip.0)
zip_there R (a ∷ xs) (b ∷ ys) (suc n) x y zip below is_x is_y = zip_there R xs ys n x y zip.1 (omega (arith, below)) is_x is_y

-- two lists are as long as each other, and it is so at each place
pub zip_from : {A B : Type 0} (R : A → B → Type 0) (xs : List A) (ys : List B) → length ys ≡ length xs
    → ((n : ℕ) (x : A) (y : B) → slice_get xs n ≡ Some x → slice_get ys n ≡ Some y → R x y) → AllZip R xs ys
zip_from R [] [] long at = tt
zip_from R [] (b ∷ ys) long at = absurd (omega (arith, long))
zip_from R (a ∷ xs) [] long at = absurd (omega (arith, long))
zip_from R (a ∷ xs) (b ∷ ys) long at = (at 0 a b refl refl, zip_from R xs ys (omega (arith, long)) (λ n x y. at (suc n) x y))

one_on : (n : ℕ) → suc (n + 1) ≡ suc n + 1
one_on n = omega arith

-- the first of the rest stands beside the first of the other list
pub zip_first : {A B : Type 0} (R : A → B → Type 0) (xs : List A) (n : ℕ) (ys : List B) (y : B) (d : A)
    → AllZip R (drop n xs) (y ∷ ys) → (n < length xs) × R (get_or xs n d) y × AllZip R (drop (n + 1) xs) ys
zip_first R [] zero ys y d zip = absurd zip
zip_first R [] (suc n) ys y d zip = absurd zip
zip_first R (x ∷ xs) zero ys y d zip = (omega arith, zip.0, zip.1)
zip_first R (x ∷ xs) (suc n) ys y d zip = let next = zip_first R xs n ys y d zip in (omega (arith, next.0), next.1, subst (λ m. AllZip R (drop m (x ∷ xs)) ys) (one_on n) next.2)

pub zip_goes_on : {A B : Type 0} (R : A → B → Type 0) (xs : List A) (n : ℕ) (ys : List B) (y : B) → AllZip R (drop n xs) (y ∷ ys) → n < length xs
zip_goes_on R [] zero ys y zip = absurd zip
zip_goes_on R [] (suc n) ys y zip = absurd zip
zip_goes_on R (x ∷ xs) zero ys y zip = omega arith
zip_goes_on R (x ∷ xs) (suc n) ys y zip = let next = zip_goes_on R xs n ys y zip in omega (arith, next)

-- no more stands beside an empty list
pub zip_ends : {A B : Type 0} (R : A → B → Type 0) (xs : List A) (n : ℕ) → AllZip R (drop n xs) [] → length xs ≤ n
zip_ends R [] n zip = omega arith
zip_ends R (x ∷ xs) zero zip = absurd zip
zip_ends R (x ∷ xs) (suc n) zip = let rest = zip_ends R xs n zip in omega (arith, rest)

-- what stands beside one of the second list
pub three_at : {A B C : Type 0} (R : A → B → C → Type 0) (xs : List A) (ys : List B) (zs : List C) (n : ℕ) (y : B)
    → AllThree R xs ys zs → slice_get ys n ≡ Some y → (x : A) × (z : C) × (slice_get xs n ≡ Some x)
    × (slice_get zs n ≡ Some z) × R x y z
unfolding AllThree
three_at R [] [] [] n y three at = absurd (none-some y at)
three_at R [] [] (c ∷ zs) n y three at = absurd three
three_at R [] (b ∷ ys) zs n y three at = absurd three
three_at R (a ∷ xs) [] zs n y three at = absurd three
three_at R (a ∷ xs) (b ∷ ys) [] n y three at = absurd three
three_at R (a ∷ xs) (b ∷ ys) (c ∷ zs) zero y three at = (a, c, refl, refl, subst (λ k. R a k c) (same_Some b y at) three.0)
three_at R (a ∷ xs) (b ∷ ys) (c ∷ zs) (suc n) y three at = three_at R xs ys zs n y three.1 at

-- all of a list, at a place
pub all_at : {A : Type 0} (P : A → Type 0) (xs : List A) (n : ℕ) (x : A) → All P xs → slice_get xs n ≡ Some x → P x
all_at P xs n x all at = subst P (get_or_from_slice_get xs n x x at) (all n x (slice_get_within xs n x at))

-- a list that was gone through up to here
pub gone_through : {A : Type 0} (xs ys zs : List A) (y : A) → xs ≡ ys ++ y ∷ zs → (length ys < length xs) × (slice_get xs (length ys) ≡ Some y)
gone_through xs ys zs y is = (
  let long = ap length is in let parts = length-append ys (y ∷ zs) in
      omega (arith, long, parts),
  subst (λ l. slice_get l (length ys) ≡ Some y) (sym is) (there_behind ys zs y),
)
  where
    there_behind : {A : Type 0} (ys zs : List A) (y : A) → slice_get (ys ++ y ∷ zs) (length ys) ≡ Some y
    there_behind [] zs y = refl
    there_behind (x ∷ ys) zs y = there_behind ys zs y
