-- How many elements pass a test, after one more, after a filter, and after an entry was put into a map; and whether all pass.
use Rattle.std.proofs.Common.{◌≡◌, ℕ, ◌+◌, ◌≤◌, ◌==◌, ◌&&◌, Bool, true, false, cond, List, [], ◌∷◌, length, suc, refl, arith, not, filter, count_by, subst}
use Rattle.std.specs.declared.cmp.Ordering.TheVariants.{Less, Equal, Greater}
use Rattle.std.specs.declared.cmp.Ordering.{Ordering}
use Rattle.std.proofs.lemmas.Bool.{false≢true}
use Rattle.std.proofs.lemmas.List.Sums.{sum_by-cons}
use Rattle.std.proofs.lemmas.Map.Lookups.{exact_bytes}
use Rattle.std.specs.List.{list_all}
use Rattle.std.specs.Ordering.{match_ordering}
use Rattle.std.specs.BTreeMap.{insert_entry}
use Rattle.segmodel.specs.Words.{Cached}
use Rattle.segmodel.specs.State.{is_in}
use Rattle.segmodel.specs.Cache.{key_cmp}

abbrev pub item : List ℕ → ℕ → Cached
item v t = record { value = v; segment = t }

-- one more element
pub count_by-cons : {X : Type 0} (p : X → Bool) (x : X) (xs : List X) → count_by p (x ∷ xs) ≡ cond (p x) 1 0 + count_by p xs
count_by-cons p x xs = sum_by-cons (λ y. cond (p y) 1 0) x xs

-- a key that is put into a segment adds one there at most, and none elsewhere
pub count-insert_entry : (s t : ℕ) (k v : List ℕ) (es : List (List ℕ × Cached))
    → count_by (is_in s) (insert_entry key_cmp es k (item v t)) ≤ count_by (is_in s) es + cond (t == s) 1 0
count-insert_entry s t k v [] = rw (count_by-cons (is_in s) (k, item v t) []) (omega arith)
count-insert_entry s t k v (e ∷ es) =
    let rest = count-insert_entry s t k v es in
    let new = item v t in
    elim (key_cmp k e.0) as (λ r. count_by (is_in s) (match_ordering r ((k, item v t) ∷ e ∷ es) ((e.0, item v t) ∷ es) (e ∷ insert_entry key_cmp es k (item v t)))
    ≤ count_by (is_in s) (e ∷ es) + cond (t == s) 1 0) [
      | Less ↦ rw (count_by-cons (is_in s) (k, new) (e ∷ es)) (omega arith)
      | Equal ↦ rw (count_by-cons (is_in s) (e.0, new) es, count_by-cons (is_in s) e es) (omega arith)
      | Greater ↦ rw (count_by-cons (is_in s) e (insert_entry key_cmp es k new), count_by-cons (is_in s) e es) (omega arith)
    ]

pub count-filter : {X : Type 0} (p test : X → Bool) (es : List X) → count_by p (filter test es) ≤ count_by p es
count-filter p test [] = omega arith
count-filter p test (e ∷ es) =
    let rest = count-filter p test es in
    elim (test e) as (λ b. count_by p (cond b (e ∷ filter test es) (filter test es)) ≤ count_by p (e ∷ es)) [
      | true ↦ rw (count_by-cons p e (filter test es), count_by-cons p e es) (omega arith)
      | false ↦ rw (count_by-cons p e es) (omega arith)
    ]

-- what stays and what goes are all
pub count-split : {X : Type 0} (p : X → Bool) (xs : List X) → count_by p xs + length (filter (λ x. not (p x)) xs) ≡ length xs
count-split p [] = refl
count-split p (x ∷ xs) =
    let rest = count-split p xs in
    let head = count_by-cons p x xs in
    elim (p x) as (λ b. count_by p (x ∷ xs) ≡ cond b 1 0 + count_by p xs
    → count_by p (x ∷ xs) + length (cond (not b) (x ∷ filter (λ y. not (p y)) xs) (filter (λ y. not (p y)) xs))
    ≡ length (x ∷ xs)) [
      | true ↦ λ h. let sum : count_by p (x ∷ xs) + length (filter (λ y. not (p y)) xs) ≡ suc (length xs) = omega arith in sum
      | false ↦ λ h. let sum : count_by p (x ∷ xs) + suc (length (filter (λ y. not (p y)) xs)) ≡ suc (length xs) = omega arith in sum
    ] head

pub both : (a b : Bool) → (a && b) ≡ true → (a ≡ true) × (b ≡ true)
both true b h = (refl, h)
both false b h = absurd (false≢true h)

pub and_true : (a b : Bool) → a ≡ true → b ≡ true → (a && b) ≡ true
and_true a b ea eb = (λ i. ea i && eb i)

-- what passes one test passes another
pub all_also : {X : Type 0} (p q : X → Bool) → ((x : X) → p x ≡ true → q x ≡ true) → (xs : List X) → list_all p xs ≡ true → list_all q xs ≡ true
all_also p q implies [] all = refl
all_also p q implies (x ∷ xs) all =
    let parts = both (p x) (list_all p xs) all in
    and_true (q x) (list_all q xs) (implies x parts.0) (all_also p q implies xs parts.1)

-- what passes one test passes another, of those that a filter keeps
pub all_filter : {X : Type 0} (p q keep : X → Bool) → ((x : X) → p x ≡ true → keep x ≡ true → q x ≡ true) → (xs : List X)
    → list_all p xs ≡ true → list_all q (filter keep xs) ≡ true
all_filter p q keep implies [] all = refl
all_filter {X = X} p q keep implies (x ∷ xs) all =
    let parts = both (p x) (list_all p xs) all in
    by (keep x) refl (implies x parts.0) (all_filter p q keep implies xs parts.1)
  where
    by : (b : Bool) → keep x ≡ b → (keep x ≡ true → q x ≡ true) → list_all q (filter keep xs) ≡ true → list_all q (cond b (x ∷ filter keep xs) (filter keep xs)) ≡ true
    by true is here rest = and_true (q x) _ (here is) rest
    by false is here rest = rest

-- an entry that passes is put in
pub all-insert_entry : (p : List ℕ × Cached → Bool) (k : List ℕ) (x : Cached) (es : List (List ℕ × Cached))
    → p (k, x) ≡ true → list_all p es ≡ true → list_all p (insert_entry key_cmp es k x) ≡ true
all-insert_entry p k x [] here all = and_true (p (k, x)) true here refl
all-insert_entry p k x (e ∷ es) here all =
    let parts = both (p e) (list_all p es) all in
    by (key_cmp k e.0) refl parts (all-insert_entry p k x es here parts.1)
  where
    by : (r : Ordering) → key_cmp k e.0 ≡ r → (p e ≡ true) × (list_all p es ≡ true) → list_all p (insert_entry key_cmp es k x) ≡ true
        → list_all p (match_ordering r ((k, x) ∷ e ∷ es) ((e.0, x) ∷ es) (e ∷ insert_entry key_cmp es k x)) ≡ true
    by Less is parts rest = and_true (p (k, x)) _ here (and_true (p e) _ parts.0 parts.1)
    by Equal is parts rest = and_true (p (e.0, x)) _ (subst (λ y. p (y, x) ≡ true) (exact_bytes k e.0 is) here) parts.1
    by Greater is parts rest = and_true (p e) _ parts.0 rest

-- none passes
pub count_none : {X : Type 0} (p : X → Bool) (xs : List X) → list_all (λ x. not (p x)) xs ≡ true → count_by p xs ≡ 0
count_none p [] none = refl
count_none {X = X} p (x ∷ xs) none = by (p x) (both (not (p x)) (list_all (λ y. not (p y)) xs) none) (count_by-cons p x xs) (count_none p xs (both (not (p x)) (list_all (λ y. not (p y)) xs) none).1)
  where
    by : (b : Bool) → (not b ≡ true) × (list_all (λ y. not (p y)) xs ≡ true) → count_by p (x ∷ xs) ≡ cond b 1 0 + count_by p xs → count_by p xs ≡ 0 → count_by p (x ∷ xs) ≡ 0
    by true parts head rest = absurd (false≢true parts.0)
    by false parts head rest = omega arith
