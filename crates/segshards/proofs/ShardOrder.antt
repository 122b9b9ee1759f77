-- Calls of shards with their points, put in order.
use Rattle.std.proofs.Common.{◌≡◌, ℕ, ◌<◌, ◌≤◌, ◌⊎◌, ◌==◌, Bool, true, false, All, IsPermutation, List, [], ◌∷◌, inl, inr, ⊎_elim, arith}
use Rattle.std.proofs.lemmas.Bool.{cases_eq, cases_lt}
use Rattle.std.proofs.lemmas.List.Elements.{All-cons, All-nil, All-weaker}
use Rattle.std.proofs.lemmas.List.Sorted.{All-permutation, IsPermutation-cons, IsPermutation-middle, IsPermutation-refl, IsPermutation-trans}
use Rattle.segindex.specs.Linearizable as linear
use Rattle.segindex.specs.Linearizable.{Placed}
use Rattle.segshards.specs.Locality.{placed_in, ShardPlaced, with_one}

abbrev pub place : ShardPlaced → ℕ
place it = linear.place it.placed.call.effect it.placed.point

-- by the places, and at one place by when the calls began
abbrev pub Comes : ShardPlaced → ShardPlaced → Type 0
Comes one other = (place one < place other) ⊎ ((place one ≡ place other) × (one.placed.call.began ≤ other.placed.call.began))

comes_then : (a b c : ShardPlaced) → Comes a b → Comes b c → Comes a c
comes_then a b c (inl x) (inl y) = inl (omega (arith, x, y))
comes_then a b c (inl x) (inr y) = let e = y.0 in inl (omega (arith, x, e))
comes_then a b c (inr x) (inl y) = let e = x.0 in inl (omega (arith, y, e))
comes_then a b c (inr x) (inr y) = let e = x.0 in let f = y.0 in let i = x.1 in let j = y.1 in inr (omega (arith, e, f), omega (arith, i, j))

comes_or : (a b : ShardPlaced) → Comes a b ⊎ Comes b a
comes_or a b = ⊎_elim
    (λ lt. inl (inl lt))
    (λ le. ⊎_elim
    (λ e. ⊎_elim
    (λ lt. inl (inr (e, (omega (arith, lt)))))
    (λ le'. inr (inr ((omega (arith, e)), le')))
    (cases_lt a.placed.call.began b.placed.call.began))
    (λ ne. inr (inl (omega (arith, le, ne))))
    (cases_eq (place a) (place b)))
    (cases_lt (place a) (place b))

abbrev pub Sorted : List ShardPlaced → Type 0
Sorted [] = Unit {0}
Sorted (a ∷ more) = All (Comes a) more × Sorted more

-- the same calls, and the same of each shard
pub record AreSame (all order : List ShardPlaced) : Type 0 where
  pub same : IsPermutation all order
  pub parts : (n : ℕ) → IsPermutation (placed_in n all) (placed_in n order)

with_cons : (b : Bool) (p : Placed) (xs ys : List Placed) → IsPermutation xs ys → IsPermutation (with_one b p xs) (with_one b p ys)
with_cons true p xs ys s = IsPermutation-cons p xs ys s
with_cons false p xs ys s = s

with_swap : (b c : Bool) (p q : Placed) (l : List Placed) → IsPermutation (with_one b p (with_one c q l)) (with_one c q (with_one b p l))
with_swap true true p q l = IsPermutation-middle (p ∷ []) q l
with_swap true false p q l = IsPermutation-refl (p ∷ l)
with_swap false true p q l = IsPermutation-refl (q ∷ l)
with_swap false false p q l = IsPermutation-refl l

same_refl : (l : List ShardPlaced) → AreSame l l
same_refl l = record { same = IsPermutation-refl l; parts = λ n. IsPermutation-refl (placed_in n l) }

same_then : (xs ys zs : List ShardPlaced) → AreSame xs ys → AreSame ys zs → AreSame xs zs
same_then xs ys zs s t = record {
  same = IsPermutation-trans xs ys zs s.same t.same;
  parts = λ n. IsPermutation-trans (placed_in n xs) (placed_in n ys) (placed_in n zs) (s.parts n) (t.parts n);
}

same_cons : (a : ShardPlaced) (xs ys : List ShardPlaced) → AreSame xs ys → AreSame (a ∷ xs) (a ∷ ys)
same_cons a xs ys s = record {
  same = IsPermutation-cons a xs ys s.same;
  parts = λ n. with_cons (a.shard == n) a.placed (placed_in n xs) (placed_in n ys) (s.parts n);
}

same_swap : (a b : ShardPlaced) (l : List ShardPlaced) → AreSame (a ∷ (b ∷ l)) (b ∷ (a ∷ l))
same_swap a b l = record {
  same = IsPermutation-middle (a ∷ []) b l;
  parts = λ n. with_swap (a.shard == n) (b.shard == n) a.placed b.placed (placed_in n l);
}

pub record IsPut (all : List ShardPlaced) : Type 0 where
  pub order : List ShardPlaced
  pub sorted : Sorted order
  pub same : AreSame all order

-- one more, at its place
put : (a : ShardPlaced) (l : List ShardPlaced) → Sorted l → IsPut (a ∷ l)
put a [] s = record { order = a ∷ []; sorted = (All-nil (Comes a), tt); same = same_refl (a ∷ []) }
put a (b ∷ l) s = ⊎_elim
    (λ first. record { order = a ∷ (b ∷ l); sorted = (All-cons (Comes a) b l first (All-weaker (Comes b) (Comes a) (λ c. comes_then a b c first) l s.0), s); same = same_refl (a ∷ (b ∷ l)) })
    (λ later. let rest = put a l s.1 in record {
      order = b ∷ rest.order;
      sorted = (All-permutation (Comes b) (a ∷ l) rest.order rest.same.same (All-cons (Comes b) a l later s.0), rest.sorted);
      same = same_then (a ∷ (b ∷ l)) (b ∷ (a ∷ l)) (b ∷ rest.order) (same_swap a b l) (same_cons b (a ∷ l) rest.order rest.same);
    })
    (comes_or a b)

pub in_order : (l : List ShardPlaced) → IsPut l
in_order [] = record { order = []; sorted = tt; same = same_refl [] }
in_order (a ∷ l) =
    let rest = in_order l in let more = put a rest.order rest.sorted in record {
      order = more.order;
      sorted = more.sorted;
      same = same_then (a ∷ l) (a ∷ rest.order) more.order (same_cons a l rest.order rest.same) more.same;
    }
