-- The places of a cache: empty, with one pass more, and full.
use Rattle.std.proofs.Common.{◌≡◌, ℕ, zero, suc, ◌<◌, ◌⊎◌, inl, inr, List, [], ◌∷◌, length, map, option_map, slice_get, slice_set, Option, Some, refl, sym, ap, ◌∙◌, subst}
use Rattle.std.proofs.lemmas.Option.{same_Some, slice_get-map}
use Rattle.std.proofs.lemmas.List.{length-map, length-set}
use Rattle.segbase.specs.Words.{number_of, Pass}
use Rattle.segindex.specs.Words.{AreAllQuiet, board_of, Index, shape_of}
use Rattle.segstore.specs.Words.{IsQuiet}
use Rattle.segclient.proofs.Places.{is_there}
use Rattle.seghandles.specs.Places.{AreItsPlaces}

-- what stands at a place after one was set
set_get : {A : Type 0} (xs : List A) (n : ℕ) (x : A) (m : ℕ) (y : A) → slice_get (slice_set xs n x) m ≡ Some y → ((m ≡ n) × (x ≡ y)) ⊎ (slice_get xs m ≡ Some y)
set_get [] n x m y at = inr at
set_get (z ∷ xs) zero x zero y at = inl (refl, same_Some x y at)
set_get (z ∷ xs) zero x (suc m) y at = inr at
set_get (z ∷ xs) (suc n) x zero y at = inr at
set_get (z ∷ xs) (suc n) x (suc m) y at = elim (set_get xs n x m y at) [
  | inl here ↦ inl (ap suc here.0, here.1)
  | inr was ↦ inr was
]

pub put_place : (i : Index) (places : List (Option Pass)) (n : ℕ) (p : Pass) → AreItsPlaces i places → IsQuiet (board_of i) p → number_of p ≡ n → AreItsPlaces i (slice_set places n (Some p))
put_place i places n p are quiet is = (
  length-set places n (Some p) ∙ are.0,
  λ m q at. elim (set_get places n (Some p) m (Some q) at) [
    | inl here ↦ (let same = same_Some p q here.1 in (subst (IsQuiet (board_of i)) same quiet, ap number_of (sym same) ∙ is ∙ sym here.0))
    | inr was ↦ are.1 m q was
  ],
)

-- full places have all passes
pub all_quiet : (i : Index) (places : List (Option Pass)) (passes : List Pass) → map Some passes ≡ places → AreItsPlaces i places → AreAllQuiet (board_of i) passes
all_quiet i places passes full are = record {
  quiet = λ n p at. (stands n p at).0;
  all = λ n below.
      let there = is_there passes n (subst (λ count. n < count) (sym long) below) in
      let its = stands n there.0 there.1 in
      (n, there.0, there.1, sym its.0.pass.numbered ∙ its.1);
}
  where
    long : length passes ≡ (shape_of i).passes
    long = sym (length-map passes Some) ∙ ap length full ∙ are.0

    stands : (n : ℕ) (p : Pass) → slice_get passes n ≡ Some p → IsQuiet (board_of i) p × (number_of p ≡ n)
    stands n p at = are.1 n p (subst (λ l. slice_get l n ≡ Some (Some p)) full (slice_get-map Some passes n ∙ ap (λ q. option_map Some q) at))
