-- Two lists side by side, while the second is gone over from its beginning, and the first changed in place.
use Rattle.std.proofs.Common.{◌≡◌, ◌<◌, ℕ, zero, suc, List, [], ◌∷◌, ◌++◌, drop, get_or, length, take, ◌+◌, refl, sym, ap, ◌∙◌, subst, arith}
use Rattle.std.specs.List.{AllZip}
use Rattle.std.proofs.lemmas.List.{length-append, take_more}
use Rattle.segclient.proofs.Places.{zip_push}

module _ {A B : Type 0} (R : A → B → Type 0) where
  beside : (xs : List A) (done : List B) (b : B) (rest : List B) (d : A) → AllZip R xs (done ++ b ∷ rest) → (length done < length xs) × R (get_or xs (length done) d) b
  beside [] [] b rest d zip = absurd zip
  beside [] (y ∷ done) b rest d zip = absurd zip
  beside (x ∷ xs) [] b rest d zip = (omega arith, zip.0)
  beside (x ∷ xs) (y ∷ done) b rest d zip = let it = beside xs done b rest d zip.1 in (let below = it.0 in omega (arith, below), it.1)

  shorter : (xs : List A) (done : List B) (b : B) (rest : List B) → AllZip R xs (done ++ b ∷ rest) → length done < length xs
  shorter [] [] b rest zip = absurd zip
  shorter [] (y ∷ done) b rest zip = absurd zip
  shorter (x ∷ xs) [] b rest zip = omega arith
  shorter (x ∷ xs) (y ∷ done) b rest zip = let below = shorter xs done b rest zip.1 in omega (arith, below)

  -- there is a next one in the first list too
  pub within : (xs ys : List A) (all done : List B) (b : B) (rest : List B) (n : ℕ) → n ≡ length done → length ys ≡ length xs → all ≡ done ++ b ∷ rest → AllZip R xs all → n < length ys
  within xs ys all done b rest n at long split zip =
      let below = shorter xs done b rest (subst (λ l. AllZip R xs l) split zip) in omega (arith, below, at, long)

  -- and it stands beside the next of the second
  pub there : (xs ys : List A) (all done : List B) (b : B) (rest : List B) (n : ℕ) (x : A) → n ≡ length done
      → drop n ys ≡ drop n xs → all ≡ done ++ b ∷ rest → AllZip R xs all → x ≡ get_or ys n x → R x b
  there xs ys all done b rest n x at same split zip is =
      let beside_it = (beside xs done b rest x (subst (λ l. AllZip R xs l) split zip)).1 in
      let of : get_or xs (length done) x ≡ x = ap (λ m. get_or xs m x) (sym at) ∙ sym (first xs n x) ∙ ap (λ l. get_or l 0 x) (sym same) ∙ first ys n x ∙ sym is in
      subst (λ a. R a b) of beside_it
    where
      first : (l : List A) (m : ℕ) (d : A) → get_or (drop m l) 0 d ≡ get_or l m d
      first [] zero d = refl
      first [] (suc m) d = refl
      first (y ∷ l) zero d = refl
      first (y ∷ l) (suc m) d = first l m d

  -- one more of both is so
  pub more : (xs : List A) (ys : List B) (n : ℕ) (x : A) (y : B) → n < length xs → n < length ys → x ≡ get_or xs n x
      → y ≡ get_or ys n y → AllZip R (take n xs) (take n ys) → R x y → AllZip R (take (n + 1) xs) (take (n + 1) ys)
  more xs ys n x y in_xs in_ys is_x is_y were one =
      subst (λ l. AllZip R l (take (n + 1) ys)) (sym (subst (λ k. take (n + 1) xs ≡ take n xs ++ k ∷ []) (sym is_x) (take_more xs n x in_xs)))
      (subst (λ l. AllZip R (take n xs ++ x ∷ []) l) (sym (subst (λ k. take (n + 1) ys ≡ take n ys ++ k ∷ []) (sym is_y) (take_more ys n y in_ys)))
      (zip_push R (take n xs) (take n ys) x y were one))

  -- what is so of all is so at a place
  pub at_place : (xs : List A) (ys : List B) (n : ℕ) (x : A) (y : B) → n < length xs → x ≡ get_or xs n x → y ≡ get_or ys n y → AllZip R xs ys → R x y
  at_place [] ys n x y below is_x is_y zip = absurd (omega (arith, below))
  at_place (a ∷ xs) [] n x y below is_x is_y zip = absurd zip
  at_place (a ∷ xs) (b ∷ ys) zero x y below is_x is_y zip = subst (λ k. R k y) (sym is_x) (subst (R a) (sym is_y) zip.0)
  at_place (a ∷ xs) (b ∷ ys) (suc n) x y below is_x is_y zip = at_place xs ys n x y (omega (arith, below)) is_x is_y zip.1

-- one more was gone over
pub longer : {B : Type 0} (done : List B) (b : B) (n : ℕ) → n ≡ length done → n + 1 ≡ length (done ++ b ∷ [])
longer done b n at = let long = length-append done (b ∷ []) in omega (arith, long, at)

-- there is a next one
pub below_all : {B : Type 0} (all done : List B) (b : B) (rest : List B) (n : ℕ) → n ≡ length done → all ≡ done ++ b ∷ rest → n < length all
below_all all done b rest n at split =
    let long = length-append done (b ∷ rest) in
    let same = ap length split in
    omega (arith, long, same, at)
