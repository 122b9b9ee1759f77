-- Calls with their points, put in order.
use Rattle.std.proofs.Common.{◌≡◌, ℕ, ◌<◌, ◌≤◌, ◌⊎◌, All, IsPermutation, List, [], ◌∷◌, inl, inr, ⊎_elim, arith}
use Rattle.std.proofs.lemmas.Bool.{cases_eq, cases_lt}
use Rattle.std.proofs.lemmas.List.Elements.{All-cons, All-nil, All-weaker}
use Rattle.std.proofs.lemmas.List.Sorted.{All-permutation, IsPermutation-cons, IsPermutation-middle, IsPermutation-refl, IsPermutation-trans}
use Rattle.segindex.specs.Linearizable.{Call, Placed}
use Rattle.segindex.specs.Linearizable as linear

abbrev pub place : Placed → ℕ
place placed = linear.place placed.call.effect placed.point

abbrev pub call_of : Placed → Call
call_of placed = placed.call

-- by the places, and at one place by when the calls began
abbrev pub Comes : Placed → Placed → Type 0
Comes one other = (place one < place other) ⊎ ((place one ≡ place other) × (one.call.began ≤ other.call.began))

comes_then : (a b c : Placed) → Comes a b → Comes b c → Comes a c
comes_then a b c (inl x) (inl y) = inl (omega (arith, x, y))
comes_then a b c (inl x) (inr y) = let e = y.0 in inl (omega (arith, x, e))
comes_then a b c (inr x) (inl y) = let e = x.0 in inl (omega (arith, y, e))
comes_then a b c (inr x) (inr y) = let e = x.0 in let f = y.0 in let i = x.1 in let j = y.1 in inr (omega (arith, e, f), omega (arith, i, j))

comes_or : (a b : Placed) → Comes a b ⊎ Comes b a
comes_or a b = ⊎_elim
    (λ lt. inl (inl lt))
    (λ le. ⊎_elim
    (λ e. ⊎_elim
    (λ lt. inl (inr (e, (omega (arith, lt)))))
    (λ le'. inr (inr ((omega (arith, e)), le')))
    (cases_lt a.call.began b.call.began))
    (λ ne. inr (inl (omega (arith, le, ne))))
    (cases_eq (place a) (place b)))
    (cases_lt (place a) (place b))

abbrev pub Sorted : List Placed → Type 0
Sorted [] = Unit {0}
Sorted (a ∷ more) = All (Comes a) more × Sorted more

all_then : (a b : Placed) (l : List Placed) → Comes a b → All (Comes b) l → All (Comes a) l
all_then a b l first all = All-weaker (Comes b) (Comes a) (λ c. comes_then a b c first) l all

record IsPut (l all : List Placed) : Type 0 where
  pub order : List Placed
  pub sorted : Sorted order
  pub same : IsPermutation all order

-- one more, at its place
put : (a : Placed) (l : List Placed) → Sorted l → IsPut l (a ∷ l)
put a [] s = record { order = a ∷ []; sorted = (All-nil (Comes a), tt); same = IsPermutation-refl (a ∷ []) }
put a (b ∷ l) s = ⊎_elim
    (λ first. record { order = a ∷ (b ∷ l); sorted = (All-cons (Comes a) b l first (all_then a b l first s.0), s); same = IsPermutation-refl (a ∷ (b ∷ l)) })
    (λ later. let rest = put a l s.1 in record {
      order = b ∷ rest.order;
      sorted = (All-permutation (Comes b) (a ∷ l) rest.order rest.same (All-cons (Comes b) a l later s.0), rest.sorted);
      same = IsPermutation-trans (a ∷ (b ∷ l)) (b ∷ (a ∷ l)) (b ∷ rest.order) (IsPermutation-middle (a ∷ []) b l) (IsPermutation-cons b (a ∷ l) rest.order rest.same);
    })
    (comes_or a b)

pub record IsInOrder (l : List Placed) : Type 0 where
  pub order : List Placed
  pub sorted : Sorted order
  pub same : IsPermutation l order

pub in_order : (l : List Placed) → IsInOrder l
in_order [] = record { order = []; sorted = tt; same = IsPermutation-refl [] }
in_order (a ∷ l) =
    let rest = in_order l in let more = put a rest.order rest.sorted in record {
      order = more.order;
      sorted = more.sorted;
      same = IsPermutation-trans (a ∷ l) (a ∷ rest.order) more.order (IsPermutation-cons a l rest.order rest.same) more.same;
    }
