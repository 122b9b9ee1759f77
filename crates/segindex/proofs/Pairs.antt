-- Lists of pairs: one that grows by a pair, and two in the order of their keys that have the same value under each key.
use Rattle.std.proofs.Common.{◌≡◌, ℕ, ◌+◌, ◌<◌, true, false, ◌⊎◌, List, [], ◌∷◌, ◌++◌, length, get_or, Some, None, is_some, refl, sym, ap, ◌∙◌, subst, inl, inr, ⊎_elim, arith}
use Rattle.std.proofs.lemmas.Bool.{cases_Bool, cond-true, cond-false, false≢true}
use Rattle.std.proofs.lemmas.Option.{none-some, same_Some}
use Rattle.std.proofs.lemmas.Cmp.{nat_list_cmp_total, eq_by_cmp_equiv}
use Rattle.std.proofs.lemmas.List.{length-map, get_or-map, map-append}
use Rattle.std.proofs.lemmas.List.Sorted.{IsPermutation-map, IsPermutation-sym, Contains-permutation}
use Rattle.std.proofs.lemmas.Map.{lookup-none}
use Rattle.std.proofs.lemmas.Map.Entries.{lookup_head, lookup_tail, none_past_head, none_below_head}
use Rattle.std.proofs.lemmas.Map.Keys.{sorted_tail, IsDistinct-from_sorted, IsDistinct-push, apart_from_distinct, IsDistinct-IsPermutation, sorted_from_all_adjacent}
use Rattle.std.proofs.lemmas.Map.Lookups.{exact_bytes}
use Rattle.std.proofs.lemmas.Map.Made.{is_some-lookup}
use Rattle.std.proofs.lemmas.Map.Views.{Contains-from_lookup, lookup-from_Contains}
use Rattle.std.specs.declared.cmp.Ordering.{Ordering}
use Rattle.std.specs.declared.cmp.Ordering.TheVariants.{Less, Equal, Greater}
use Rattle.std.specs.Ordering.{is_eq, is_lt, eq_by_cmp, ordering_reverse}
use Rattle.std.specs.List.{IsDistinct}
use Rattle.std.specs.List.Sorted.{IsStrictlySortedBy, IsSortedBy, IsPermutation}
use Rattle.std.specs.Map.{keys_of}
use Rattle.std.specs.BTreeMap.{is_at}
use Rattle.segmodel.specs.Words.{key_cmp}
use Rattle.segmodel.proofs.Keys.{same_key, at_self}
use Rattle.segindex.specs.Closing.{Pairs, listed}

abbrev pub IsOrdered : Pairs → Type 0
IsOrdered pairs = IsStrictlySortedBy key_cmp (keys_of pairs)

abbrev pub AreDistinct : Pairs → Type 0
AreDistinct pairs = IsDistinct (eq_by_cmp key_cmp) (keys_of pairs)

pub none_distinct : AreDistinct []
unfolding IsDistinct
none_distinct = tt

-- ---- one pair more

pub listed_before : (pairs : Pairs) (k v key value : List ℕ) → listed pairs key ≡ Some value → listed (pairs ++ (k, v) ∷ []) key ≡ Some value
listed_before [] k v key value e = absurd (none-some value e)
listed_before (p ∷ pairs) k v key value e = ⊎_elim
    (λ t. cond-true (is_at (key_cmp key) p.0) (Some p.1) (listed (pairs ++ (k, v) ∷ []) key) t ∙ (sym (cond-true (is_at (key_cmp key) p.0) (Some p.1) (listed pairs key) t) ∙ e))
    (λ f. cond-false (is_at (key_cmp key) p.0) (Some p.1) (listed (pairs ++ (k, v) ∷ []) key) f
    ∙ listed_before pairs k v key value (sym (cond-false (is_at (key_cmp key) p.0) (Some p.1) (listed pairs key)
    f) ∙ e))
    (cases_Bool (is_at (key_cmp key) p.0))

pub listed_last : (pairs : Pairs) (k v : List ℕ) → listed pairs k ≡ None → listed (pairs ++ (k, v) ∷ []) k ≡ Some v
listed_last [] k v e = cond-true (is_at (key_cmp k) k) (Some v) None (at_self k)
listed_last (p ∷ pairs) k v e = ⊎_elim
    (λ t. absurd (none-some p.1 (sym e ∙ cond-true (is_at (key_cmp k) p.0) (Some p.1) (listed pairs k) t)))
    (λ f. cond-false (is_at (key_cmp k) p.0) (Some p.1) (listed (pairs ++ (k, v) ∷ []) k) f ∙ listed_last pairs k v (sym (cond-false (is_at (key_cmp k) p.0) (Some p.1) (listed pairs k) f) ∙ e))
    (cases_Bool (is_at (key_cmp k) p.0))

-- a pair that is listed then was before, or is the new one
pub listed_then : (pairs : Pairs) (k v key value : List ℕ) → listed (pairs ++ (k, v) ∷ []) key ≡ Some value → (listed pairs key ≡ Some value) ⊎ ((key ≡ k) × (v ≡ value))
listed_then [] k v key value e = ⊎_elim
    (λ t. inr (same_key key k t, same_Some v value (sym (cond-true (is_at (key_cmp key) k) (Some v) None t) ∙ e)))
    (λ f. absurd (none-some value (sym (cond-false (is_at (key_cmp key) k) (Some v) None f) ∙ e)))
    (cases_Bool (is_at (key_cmp key) k))
listed_then (p ∷ pairs) k v key value e = ⊎_elim
    (λ t. inl (cond-true (is_at (key_cmp key) p.0) (Some p.1) (listed pairs key) t ∙ (sym (cond-true (is_at (key_cmp key) p.0) (Some p.1) (listed (pairs ++ (k, v) ∷ []) key) t) ∙ e)))
    (λ f. ⊎_elim
    (λ old. inl (cond-false (is_at (key_cmp key) p.0) (Some p.1) (listed pairs key) f ∙ old))
    (λ new. inr new)
    (listed_then pairs k v key value (sym (cond-false (is_at (key_cmp key) p.0) (Some p.1) (listed (pairs ++ (k, v) ∷ []) key) f) ∙ e)))
    (cases_Bool (is_at (key_cmp key) p.0))

pub distinct_then : (pairs : Pairs) (k v : List ℕ) → AreDistinct pairs → listed pairs k ≡ None → AreDistinct (pairs ++ (k, v) ∷ [])
distinct_then pairs k v distinct none = subst (λ ks. IsDistinct (eq_by_cmp key_cmp) ks) (sym (map-append (λ (p : List ℕ × List ℕ). p.0) pairs ((k, v) ∷ [])))
    (IsDistinct-push (eq_by_cmp_equiv nat_list_cmp_total) (keys_of pairs) k distinct (sym (is_some-lookup (is_at (key_cmp k)) pairs) ∙ ap is_some none))

-- ---- in order

-- the same pairs, distinct and in order
not_above : (a b : List ℕ) (r : Ordering) → key_cmp a b ≡ r → is_lt (key_cmp b a) ≡ false → eq_by_cmp key_cmp a b ≡ false → key_cmp a b ≡ Less
not_above a b Less is low apart = is
not_above a b Equal is low apart = absurd (false≢true (sym apart ∙ ap is_eq is))
not_above a b Greater is low apart = absurd (false≢true (sym low ∙ ap is_lt (nat_list_cmp_total.antisymm b a ∙ ap ordering_reverse is)))

pub ordered : (pairs sorted : Pairs) → AreDistinct pairs → IsPermutation pairs sorted → IsSortedBy (λ p q. is_lt (key_cmp p.0 q.0)) sorted → AreDistinct sorted × IsOrdered sorted
ordered pairs sorted distinct moves up =
    let first : List ℕ × List ℕ → List ℕ = λ p. p.0 in
    let apart : AreDistinct sorted = IsDistinct-IsPermutation (eq_by_cmp key_cmp)
    (eq_by_cmp_equiv nat_list_cmp_total).symm (keys_of pairs) (keys_of sorted)
    (IsPermutation-map first pairs sorted moves) distinct in
    let nil : List ℕ = [] in let none : List ℕ × List ℕ = (nil, nil) in
    let long = length-map sorted first in
    let at : (n : ℕ) → n < length sorted → get_or (keys_of sorted) n nil ≡ (get_or sorted n none).0 = λ n lt. get_or-map first sorted n none nil lt in (
      apart,
      sorted_from_all_adjacent nat_list_cmp_total (keys_of sorted) nil (λ n lt.
          let a = get_or (keys_of sorted) n nil in let b = get_or (keys_of sorted) (n + 1) nil in
          let low : is_lt (key_cmp b a) ≡ false = (λ i. is_lt
          (key_cmp (at (n + 1) (omega (arith, lt, long)) i) (at n (omega (arith, lt, long)) i)))
          ∙ up n none (omega arith) (omega (arith, lt, long)) in
          not_above a b (key_cmp a b) refl low (apart_from_distinct (eq_by_cmp key_cmp) (keys_of sorted) n (n + 1) nil apart (omega arith) lt)),
    )

-- and then the same value is under each key
pub listed_sorted : (pairs sorted : Pairs) (key value : List ℕ) → AreDistinct sorted → IsPermutation pairs sorted → listed pairs key ≡ Some value → listed sorted key ≡ Some value
listed_sorted pairs sorted key value distinct moves is =
    lookup-from_Contains (eq_by_cmp_equiv nat_list_cmp_total) key value sorted distinct
    (Contains-permutation pairs sorted (key, value) moves (Contains-from_lookup same_key key value pairs is))

pub listed_unsorted : (pairs sorted : Pairs) (key value : List ℕ) → AreDistinct pairs → IsPermutation pairs sorted → listed sorted key ≡ Some value → listed pairs key ≡ Some value
listed_unsorted pairs sorted key value distinct moves is = listed_sorted sorted pairs key value distinct (IsPermutation-sym pairs sorted moves) is

-- ---- one list

module _ (x y : List ℕ × List ℕ) (xs ys : Pairs) (s : IsOrdered (x ∷ xs)) (t : IsOrdered (y ∷ ys)) (same : (key : List ℕ) → listed (x ∷ xs) key ≡ listed (y ∷ ys) key) where
  at_head : (p : List ℕ × List ℕ) (ps : Pairs) → listed (p ∷ ps) p.0 ≡ Some p.1
  at_head p ps = lookup_head (is_at (key_cmp p.0)) p ps (at_self p.0)

  head_by : (r : Ordering) → key_cmp x.0 y.0 ≡ r → x.0 ≡ y.0
  head_by Less is = absurd (none-some x.1 (sym (lookup-none (is_at (key_cmp x.0)) (y ∷ ys) (none_below_head nat_list_cmp_total x.0 y ys t is)) ∙ (sym (same x.0) ∙ at_head x xs)))
  head_by Equal is = exact_bytes x.0 y.0 is
  head_by Greater is = absurd (none-some y.1
      (sym (lookup-none (is_at (key_cmp y.0)) (x ∷ xs)
      (none_below_head nat_list_cmp_total y.0 x xs s (nat_list_cmp_total.antisymm y.0 x.0
      ∙ ap ordering_reverse is))) ∙ (same y.0 ∙ at_head y ys)))

  heads : x.0 ≡ y.0
  heads = head_by (key_cmp x.0 y.0) refl

  values : x.1 ≡ y.1
  values = same_Some x.1 y.1 (sym (at_head x xs) ∙ (same x.0 ∙ (ap (listed (y ∷ ys)) heads ∙ at_head y ys)))

  past_head : (p : List ℕ × List ℕ) (ps : Pairs) (key : List ℕ) → IsOrdered (p ∷ ps) → is_at (key_cmp key) p.0 ≡ true → listed ps key ≡ None
  past_head p ps key u is = lookup-none (is_at (key_cmp key)) ps (none_past_head (eq_by_cmp_equiv nat_list_cmp_total) key p ps (IsDistinct-from_sorted key_cmp (keys_of (p ∷ ps)) u) is)

  tails : (key : List ℕ) → listed xs key ≡ listed ys key
  tails key = let e : is_at (key_cmp key) x.0 ≡ is_at (key_cmp key) y.0 = ap (is_at (key_cmp key)) heads in ⊎_elim
      (λ yes. past_head x xs key s yes ∙ sym (past_head y ys key t (sym e ∙ yes)))
      (λ no. sym (lookup_tail (is_at (key_cmp key)) x xs no) ∙ (same key ∙ lookup_tail (is_at (key_cmp key)) y ys (sym e ∙ no)))
      (cases_Bool (is_at (key_cmp key) x.0))

-- two lists in order with the same value under each key are one
pub one_list : (xs ys : Pairs) → IsOrdered xs → IsOrdered ys → ((key : List ℕ) → listed xs key ≡ listed ys key) → xs ≡ ys
one_list [] [] s t same = refl
one_list [] (y ∷ ys) s t same = absurd (none-some y.1 (same y.0 ∙ lookup_head (is_at (key_cmp y.0)) y ys (at_self y.0)))
one_list (x ∷ xs) [] s t same = absurd (none-some x.1 (sym (same x.0) ∙ lookup_head (is_at (key_cmp x.0)) x xs (at_self x.0)))
one_list (x ∷ xs) (y ∷ ys) s t same =
    let rest = one_list xs ys (sorted_tail key_cmp x.0 (keys_of xs) s) (sorted_tail key_cmp y.0 (keys_of ys) t) (tails x y xs ys s t same) in
    λ i. (heads x y xs ys s t same i, values x y xs ys s t same i) ∷ rest i
