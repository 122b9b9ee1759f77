-- How many positions of a chain have an item: after one position changed, past the end of the chain, and by its buckets.
use Rattle.std.proofs.Common.{◌≡◌, ◌≢◌, ℕ, zero, suc, ◌+◌, ◌*◌, ◌<◌, ◌≤◌, List, cond, eqb, sym, refl, ap, ◌∙◌, subst, ⊎_elim, arith, add-one}
use Rattle.std.proofs.lemmas.Bool.{cases_eq, cond-true, cond-false, eq-eqb, ne_eqb}
use Rattle.segword.specs.Words.{Shape}
use Rattle.segcore.specs.Words.{Event}
use Rattle.segcore.specs.Bucket.{Slot, Content, nothing, item, next, copy, Bucket, IsPosition, bucket_after}
use Rattle.segcore.specs.Lawful.{IsLawful}
use Rattle.segcore.specs.Filled.{item_count, items_below, HasNoEmptyWord}
use Rattle.segcore.proofs.Coherent.{IsContent}
use Rattle.segcore.proofs.Chains.{chain_of}
use Rattle.segcore.proofs.Homes.{joins}

-- one position more
one_more : (u : Bucket) (n m : ℕ) → m ≡ n + 1 → items_below u m ≡ items_below u n + item_count (u.items n)
one_more u n m e = rw (e, add-one n) refl

-- the same items below a position
pub same_below : (u v : Bucket) (n : ℕ) → ((m : ℕ) → m < n → item_count (v.items m) ≡ item_count (u.items m)) → items_below v n ≡ items_below u n
same_below u v zero same = refl
same_below u v (suc n) same =
    let rest = same_below u v n (λ m lt. same m (omega arith)) in
    let here = same n (omega arith) in
    omega arith

-- another content at one position
pub changed_below : (u v : Bucket) (p : ℕ) (o : Content) (n : ℕ) → ((m : ℕ) → v.items m ≡ cond (eqb p m) o (u.items m)) → p < n
    → items_below v n + item_count (u.items p) ≡ items_below u n + item_count o
changed_below u v p o zero is lt = absurd (omega arith)
changed_below u v p o (suc n) is lt = ⊎_elim
    (λ e. let rest = same_below u v n (λ m less. ap item_count (is m ∙ cond-false (eqb p m) o (u.items m) (ne_eqb p m (λ q. omega arith)))) in
    let here : item_count (v.items n) ≡ item_count o = ap item_count (is n ∙ cond-true (eqb p n) o (u.items n) (eq-eqb p n e)) in
    let old : item_count (u.items p) ≡ item_count (u.items n) = ap (λ m. item_count (u.items m)) e in
    omega arith)
    (λ ne. let rest = changed_below u v p o n is (omega arith) in
    let here : item_count (v.items n) ≡ item_count (u.items n) = ap item_count (is n ∙ cond-false (eqb p n) o (u.items n) (ne_eqb p n ne)) in
    omega arith)
    (cases_eq p n)

-- past a position that no item is at or behind
pub none_past : (u : Bucket) (m n : ℕ) → m ≤ n → ((p : ℕ) → m ≤ p → item_count (u.items p) ≡ 0) → items_below u n ≡ items_below u m
none_past u m zero le none = let e : 0 ≡ m = omega arith in ap (items_below u) e
none_past u m (suc n) le none = ⊎_elim
    (λ e. ap (items_below u) (sym e))
    (λ ne. let rest = none_past u m n (omega arith) none in
    let here = none n (omega arith) in
    omega arith)
    (cases_eq m (suc n))

-- ---- the buckets of a chain

at_most_one : (c : Content) → item_count c ≤ 1
at_most_one nothing = omega arith
at_most_one (item a) = omega arith
at_most_one (next m) = omega arith
at_most_one (copy w) = omega arith

no_item_at : (c : Content) → ((a : Slot) → c ≡ item a → ⊥) → item_count c ≡ 0
no_item_at nothing none = refl
no_item_at (item a) none = absurd (none a refl)
no_item_at (next m) none = refl
no_item_at (copy w) none = refl

-- a position of the chain that doesn't lead on has an item, or nothing
item_at : (h : List Event) (b : ℕ) (u : Bucket) (n : ℕ) (c : Content) → IsContent h b u n c → IsPosition u n → c ≢ nothing → ((d : ℕ) → d < u.chained → n ≢ 8 * d + 7) → item_count c ≡ 1
item_at h b u n nothing i here some apart = absurd (some refl)
item_at h b u n (item a) i here some apart = refl
item_at h b u n (next m) i here some apart = absurd (apart i.0 i.1 i.2)
item_at h b u n (copy w) i here some apart = let e = i.0 in let lt = here.0 in absurd (omega arith)

module _ (z : Shape) (h : List Event) (b : ℕ) (l : IsLawful z h) where
  abbrev u : Bucket
  u = bucket_after z h b

  position_of : (n : ℕ) (a : Slot) → u.items n ≡ item a → IsPosition u n
  position_of n a is = subst (IsContent h b u n) is ((chain_of z h l b).contents n)

  -- the items between the first word of a bucket and its last
  abbrev inner : ℕ → ℕ
  inner d = item_count (u.items (8 * d + 1)) + item_count (u.items (8 * d + 2)) + item_count (u.items (8 * d + 3))
      + item_count (u.items (8 * d + 4)) + item_count (u.items (8 * d + 5)) + item_count (u.items (8 * d + 6))

  one_bucket : (d : ℕ) → items_below u (8 * d + 8) ≡ items_below u (8 * d) + inner d + item_count (u.items (8 * d + 7))
  one_bucket d =
      let n = 8 * d in
      let none : item_count (u.items n) ≡ 0 = no_item_at (u.items n) (λ a is. let i = (position_of n a is).1 in omega arith) in
      let s1 = one_more u n (n + 1) (omega arith) in
      let s2 = one_more u (n + 1) (n + 2) (omega arith) in
      let s3 = one_more u (n + 2) (n + 3) (omega arith) in
      let s4 = one_more u (n + 3) (n + 4) (omega arith) in
      let s5 = one_more u (n + 4) (n + 5) (omega arith) in
      let s6 = one_more u (n + 5) (n + 6) (omega arith) in
      let s7 = one_more u (n + 6) (n + 7) (omega arith) in
      let s8 = one_more u (n + 7) (n + 8) (omega arith) in
      omega arith

  next_bucket : (d : ℕ) → items_below u (8 * suc d) ≡ items_below u (8 * d + 8)
  next_bucket d = let e : 8 * suc d ≡ 8 * d + 8 = omega arith in ap (items_below u) e

  -- the last word of a bucket that leads on has no item
  leads_on : (d : ℕ) → d < u.chained → item_count (u.items (8 * d + 7)) ≡ 0
  leads_on d lt = ap item_count (joins z h b d l lt).1

  inner_few : (d : ℕ) → inner d ≤ 6
  inner_few d =
      let e1 = at_most_one (u.items (8 * d + 1)) in
      let e2 = at_most_one (u.items (8 * d + 2)) in
      let e3 = at_most_one (u.items (8 * d + 3)) in
      let e4 = at_most_one (u.items (8 * d + 4)) in
      let e5 = at_most_one (u.items (8 * d + 5)) in
      let e6 = at_most_one (u.items (8 * d + 6)) in
      omega arith

  few_before : (d : ℕ) → d ≤ u.chained → items_below u (8 * d) ≤ 6 * d
  few_before zero le = omega arith
  few_before (suc d) le = omega (arith, few_before d (omega arith), next_bucket d, one_bucket d, inner_few d, leads_on d (omega arith))

  pub few : items_below u (8 * u.chained + 8) ≤ 6 * u.chained + 7
  few = omega (arith, few_before u.chained (omega arith), one_bucket u.chained, inner_few u.chained, at_most_one (u.items (8 * u.chained + 7)))

  -- no item stands past the end
  pub to_end : (n : ℕ) → 8 * u.chained + 8 ≤ n → items_below u n ≡ items_below u (8 * u.chained + 8)
  to_end n le = none_past u (8 * u.chained + 8) n le (λ p past. no_item_at (u.items p) (λ a is. let i = (position_of p a is).0 in omega arith))

  module _ (all : HasNoEmptyWord u) where
    has_item : (n : ℕ) → IsPosition u n → ((d : ℕ) → d < u.chained → n ≢ 8 * d + 7) → item_count (u.items n) ≡ 1
    has_item n here apart = item_at h b u n (u.items n) ((chain_of z h l b).contents n) here (all n here) apart

    inner_item : (d w : ℕ) → d ≤ u.chained → 0 < w → w < 7 → item_count (u.items (8 * d + w)) ≡ 1
    inner_item d w le some lt = has_item (8 * d + w) (omega arith, omega arith) (λ e less same. omega arith)

    inner_full : (d : ℕ) → d ≤ u.chained → inner d ≡ 6
    inner_full d le =
        let e1 = inner_item d 1 le (omega arith) (omega arith) in
        let e2 = inner_item d 2 le (omega arith) (omega arith) in
        let e3 = inner_item d 3 le (omega arith) (omega arith) in
        let e4 = inner_item d 4 le (omega arith) (omega arith) in
        let e5 = inner_item d 5 le (omega arith) (omega arith) in
        let e6 = inner_item d 6 le (omega arith) (omega arith) in
        omega arith

    full_before : (d : ℕ) → d ≤ u.chained → items_below u (8 * d) ≡ 6 * d
    full_before zero le = refl
    full_before (suc d) le = omega (arith, full_before d (omega arith), next_bucket d, one_bucket d, inner_full d (omega arith), leads_on d (omega arith))

    pub full : items_below u (8 * u.chained + 8) ≡ 6 * u.chained + 7
    full =
        let end = has_item (8 * u.chained + 7) (omega arith, omega arith) (λ d lt same. omega arith) in
        omega (arith, full_before u.chained (omega arith), one_bucket u.chained, inner_full u.chained (omega arith))
