-- The passes of a server and their holds: lists of which one place changes, and a server that was just made.
use Rattle.std.proofs.Common.{◌≡◌, ℕ, zero, suc, ◌+◌, ◌<◌, ◌≤◌, List, [], ◌∷◌, ◌++◌, length, replicate, set, slice_get, Option, Some, None, refl, sym, ap, subst, subst₂, ◌∙◌, inl, inr, arith}
use Rattle.std.proofs.lemmas.Option.{same_Some, none-some, slice_get_within}
use Rattle.segmodel.proofs.ListPlaces.{last_of, front_of, found_set, elsewhere}
use Rattle.segword.specs.Words.{Shape}
use Rattle.segmodel.specs.Words.{fresh}
use Rattle.segbase.specs.Words.{Board, holding, IsNewPass, locked_of, number, Pass}
use Rattle.segread.specs.Words.{Hold}
use Rattle.segstore.specs.Words.{IsQuiet}
use Rattle.segsolo.specs.Words.{state_at}
use Rattle.segsolo.proofs.AloneStarts.{starts_alone, starts_fresh}
use Rattle.segscript.specs.Passes.{IsHoldKept, IsIdle, AreInOrder, first_state}

-- ---- one of a list

pub still_in_order : (b : Board) (passes : List Pass) (holds : List (Option Hold)) (n : ℕ) (p q : Pass) (was is : Option Hold) → AreInOrder b passes holds
    → slice_get passes n ≡ Some p → slice_get holds n ≡ Some was → number q ≡ number p → IsIdle b is q → AreInOrder b (set passes n q) (set holds n is)
still_in_order b passes holds n p q was is in_order at held same idle m x hold e k = elim (found_set passes n m q x e) [
  | inl found ↦ elim (found_set holds n m is hold k) [
    | inl kept ↦ subst₂ (λ y kept. IsIdle b kept y × (number y ≡ m)) (sym found.1) (sym kept.1) (idle, same ∙ (in_order n p was at held).1 ∙ sym found.0)
    | inr kept ↦ absurd (kept.0 found.0)
  ]
  | inr found ↦ elim (found_set holds n m is hold k) [
    | inl kept ↦ absurd (found.0 kept.0)
    | inr kept ↦ in_order m x hold found.1 kept.1
  ]
]

-- and the place that was set has the new element
pub set_there : {A : Type 0} (xs : List A) (n : ℕ) (a x : A) → slice_get xs n ≡ Some x → slice_get (set xs n a) n ≡ Some a
set_there [] n a x at = absurd (none-some x at)
set_there (y ∷ ys) zero a x at = refl
set_there (y ∷ ys) (suc n) a x at = set_there ys n a x at

-- ---- the state of the first pass

pub first_is : (shape : Shape) (passes : List Pass) (p : Pass) → slice_get passes 0 ≡ Some p → first_state shape passes ≡ state_at shape p
first_is shape [] p at = absurd (none-some p at)
first_is shape (x ∷ passes) p at = ap (state_at shape) (same_Some x p at)

pub first_then : (shape : Shape) (passes : List Pass) (p q : Pass) → slice_get passes 0 ≡ Some p → first_state shape (set passes 0 q) ≡ state_at shape q
first_then shape [] p q at = absurd (none-some p at)
first_then shape (x ∷ passes) p q at = refl

-- ---- a server that was just made

pub all_none : {A : Type 0} (count n : ℕ) (x : Option A) → slice_get (replicate {A = Option A} count None) n ≡ Some x → x ≡ None
all_none {A = A} zero n x e = absurd (none-some x e)
all_none {A = A} (suc count) zero x e = sym (same_Some None x e)
all_none {A = A} (suc count) (suc n) x e = all_none {A = A} count n x e

pub new_idle : (b : Board) (n : ℕ) (p : Pass) (hold : Option Hold) → n < b.shape.passes → IsNewPass b n p → IsQuiet b p → hold ≡ None → IsIdle b hold p
new_idle b n p hold few new quiet none = record {
  quiet = quiet;
  hold = subst (λ kept. IsHoldKept b.shape kept p) (sym none) new.holding;
  alone = λ one. (starts_alone b p (subst (λ k. IsNewPass b k p) (omega arith) new) one).0;
}

pub new_first : (b : Board) (passes : List Pass) → ((n : ℕ) (p : Pass) → slice_get passes n ≡ Some p → IsNewPass b n p × IsQuiet b p) → first_state b.shape passes ≡ fresh b.shape
new_first b [] each = refl
new_first b (p ∷ passes) each = starts_fresh b p (each 0 p refl).0

-- ---- a server that ends: its holds go one after another, the last first

pub last_idle : (b : Board) (passes : List Pass) (holds : List (Option Hold)) (hold : Option Hold) (p : Pass)
    → AreInOrder b passes (holds ++ hold ∷ []) → slice_get passes (length holds) ≡ Some p → IsIdle b hold p
last_idle b passes holds hold p in_order at = (in_order (length holds) p hold at (last_of holds hold)).0

pub rest_in_order : (b : Board) (passes : List Pass) (holds : List (Option Hold)) (hold : Option Hold) (q : Pass)
    → AreInOrder b passes (holds ++ hold ∷ []) → AreInOrder b (set passes (length holds) q) holds
rest_in_order b passes holds hold q in_order n x kept e k =
    let within = slice_get_within holds n kept k in
    in_order n x kept (sym (elsewhere passes (length holds) n q (λ same. omega arith)) ∙ e) (front_of holds (hold ∷ []) n kept k)

-- of the passes from here on none keeps anything
abbrev pub NoneKeepsFrom : ℕ → List Pass → Type 0
NoneKeepsFrom from passes = (n : ℕ) (p : Pass) → from ≤ n → slice_get passes n ≡ Some p → (holding p ≡ None) × (locked_of p ≡ None)

pub one_more_left : (passes : List Pass) (n : ℕ) (q : Pass) → (holding q ≡ None) × (locked_of q ≡ None) → NoneKeepsFrom (n + 1) passes → NoneKeepsFrom n (set passes n q)
one_more_left passes n q none before m p le e = elim (found_set passes n m q p e) [
  | inl found ↦ subst (λ y. (holding y ≡ None) × (locked_of y ≡ None)) (sym found.1) none
  | inr found ↦ before m p (let ne = found.0 in omega arith) found.1
]
