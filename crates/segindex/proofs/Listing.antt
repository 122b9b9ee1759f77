-- The way along all words of all chains: which pairs are listed so far.
use Rattle.std.proofs.Common.{◌≡◌, ℕ, ◌+◌, ◌*◌, ◌<◌, ◌≤◌, ◌⊎◌, List, [], ◌∷◌, ◌++◌, Option, Some, None, refl, sym, ap, ◌∙◌, subst, inl, inr, ⊎_elim, arith, append-nil}
use Rattle.std.proofs.lemmas.Bool.{cases_eq}
use Rattle.std.proofs.lemmas.Option.{none-some, same_Some}
use Rattle.std.specs.Prelude.{option_map, Result, Ok, Err, OnErr}
use Rattle.std.specs.Option.{option_to_list}
use Rattle.segword.specs.Words.{Shape}
use Rattle.segmodel.specs.Words.{after, bucket_of, Cached, value_under, standing}
use Rattle.segcore.specs.Words.{bucket_after, Event, IsLawful, IsPosition, item, KeyAt, seen, Slot}
use Rattle.segcore.proofs.Chains.{same_item}
use Rattle.segcore.proofs.Coherent.{place}
use Rattle.segcore.proofs.Standing.{coherent}
use Rattle.segindex.specs.Closing.{Pairs, listed, Lists, IsBefore, IsPairAt}
use Rattle.segindex.proofs.Pairs.{none_distinct, listed_before, listed_last, listed_then, distinct_then}

-- what is so anyway is so where there is an error
pub on_err : {T E P : Type 0} (r : Result T E) → P → OnErr r P
on_err (Ok done) here = tt
on_err (Err fault) here = here

module _ (z : Shape) (h : List Event) (l : IsLawful z h) where
  abbrev read : List ℕ → Option (List ℕ)
  read key = value_under (after z (seen h)) key

  abbrev ListsBefore : ℕ → ℕ → Pairs → Type 0
  ListsBefore home at pairs = Lists z h (IsBefore z h home at) pairs

  -- ---- keys and their positions

  position : (key : List ℕ) (at : ℕ) → KeyAt z key h at → IsPosition (bucket_after z h (bucket_of z key)) at
  position key at there = ((coherent z h l).items (bucket_of z key) at there.0 there.1).position

  one_position : (key : List ℕ) (m n : ℕ) → KeyAt z key h m → KeyAt z key h n → m ≡ n
  one_position key m n a b = let c = coherent z h l in let k = bucket_of z key in
      same_Some m n (sym (c.placed k m a.0 a.1) ∙ (ap (place z h) (a.2 ∙ sym b.2) ∙ c.placed k n b.0 b.1))

  one_key : (home at : ℕ) (key other : List ℕ) → bucket_of z key ≡ home → bucket_of z other ≡ home → KeyAt z key h at → KeyAt z other h at → key ≡ other
  one_key home at key other of of' a b =
      let one = subst (λ k. (bucket_after z h k).items at ≡ item a.0) of a.1 in
      let two = subst (λ k. (bucket_after z h k).items at ≡ item b.0) of' b.1 in
      sym a.2 ∙ (ap (λ (s : Slot). s.key) (same_item a.0 b.0 (sym one ∙ two)) ∙ b.2)

  stands : (key value : List ℕ) → read key ≡ Some value → (x : Cached) × (standing (after z (seen h)) key ≡ Some x)
  stands key value is = by (standing (after z (seen h)) key) refl is
    where
      by : (o : Option Cached) → standing (after z (seen h)) key ≡ o → option_map (λ (x : Cached). x.value) o ≡ Some value → (x : Cached) × (standing (after z (seen h)) key ≡ Some x)
      by None e s = absurd (none-some value s)
      by (Some x) e s = (x, e)

  -- ---- lists

  -- the same list, of keys that are told otherwise
  lists_as : (Of Of' : List ℕ → Type 0) (pairs : Pairs) → ((key : List ℕ) → Of key → Of' key)
      → ((key value : List ℕ) → read key ≡ Some value → Of' key → Of key) → Lists z h Of pairs → Lists z h Of' pairs
  lists_as Of Of' pairs on back lists = record {
    distinct = lists.distinct;
    only = λ key value is. let x = lists.only key value is in (on key x.0, x.1);
    all = λ key value of is. lists.all key value (back key value is of) is;
  }

  unlisted : (Of : List ℕ → Type 0) (pairs : Pairs) (key : List ℕ) → ¬ (Of key) → Lists z h Of pairs → listed pairs key ≡ None
  unlisted Of pairs key none lists = by (listed pairs key) refl
    where
      by : (o : Option (List ℕ)) → listed pairs key ≡ o → listed pairs key ≡ None
      by None e = e
      by (Some value) e = absurd (none (lists.only key value e).0)

  -- one pair more
  lists_more : (Of Of' : List ℕ → Type 0) (pairs : Pairs) (k v : List ℕ) → read k ≡ Some v → ¬ (Of k) → Of' k → ((key : List ℕ) → Of key → Of' key) → ((key : List ℕ) → Of' key → Of key ⊎ (key ≡ k))
      → Lists z h Of pairs → Lists z h Of' (pairs ++ (k, v) ∷ [])
  lists_more Of Of' pairs k v reads_v new here on back lists =
      let none = unlisted Of pairs k new lists in record {
        distinct = distinct_then pairs k v lists.distinct none;
        only = λ key value is. ⊎_elim
            (λ old. let x = lists.only key value old in (on key x.0, x.1))
            (λ (last : (key ≡ k) × (v ≡ value)). (subst Of' (sym last.0) here, ap read last.0 ∙ (reads_v ∙ ap Some last.1)))
            (listed_then pairs k v key value is);
        all = λ key value of is. ⊎_elim
            (λ old. listed_before pairs k v key value (lists.all key value old is))
            (λ (same : key ≡ k). ap (listed (pairs ++ (k, v) ∷ [])) same ∙ (listed_last pairs k v none ∙ (sym reads_v ∙ (ap read (sym same) ∙ is))))
            (back key of);
      }

  -- ---- on the way

  pub lists_none : ListsBefore 0 1 []
  lists_none = record {
    distinct = none_distinct;
    only = λ key value is. absurd (none-some value is);
    all = λ key value of is. ⊎_elim
        (λ lt. absurd (omega (arith, lt)))
        (λ (x : (bucket_of z key ≡ 0) × ((at : ℕ) × (at < 1) × KeyAt z key h at)). absurd (let p = (position key x.1.0 x.1.2).1 in let first = x.1.1 in omega (arith, p, first)))
        of;
  }

  -- a position at which no key is
  pub lists_skip : (home at : ℕ) (pairs : Pairs) → ((key : List ℕ) → bucket_of z key ≡ home → ¬ (KeyAt z key h at)) → ListsBefore home at pairs → ListsBefore home (at + 1) pairs
  lists_skip home at pairs none lists = lists_as (IsBefore z h home at) (IsBefore z h home (at + 1)) pairs
      (λ key of. ⊎_elim (λ lt. inl lt) (λ (x : (bucket_of z key ≡ home) × ((n : ℕ) × (n < at) × KeyAt z key h n)). inr (x.0, (x.1.0, omega (arith, x.1.1), x.1.2))) of)
      (λ key value is of. ⊎_elim
      (λ lt. inl lt)
      (λ (x : (bucket_of z key ≡ home) × ((n : ℕ) × (n < at + 1) × KeyAt z key h n)). ⊎_elim
      (λ same. absurd (none key x.0 (subst (KeyAt z key h) same x.1.2)))
      (λ other. inr (x.0, (x.1.0, omega (arith, x.1.1, other), x.1.2)))
      (cases_eq x.1.0 at))
      of)
      lists

  -- a word after the others
  pub lists_word : (home at : ℕ) (found : Option (List ℕ × List ℕ)) (pairs : Pairs) → IsPairAt z h home at found → ListsBefore home at pairs → ListsBefore home (at + 1) (pairs ++ option_to_list found)
  lists_word home at None pairs none lists = subst (ListsBefore home (at + 1)) (sym (append-nil pairs)) (lists_skip home at pairs none lists)
  lists_word home at (Some pair) pairs there lists = lists_more (IsBefore z h home at) (IsBefore z h home (at + 1)) pairs pair.0 pair.1 there.2
      (λ of. ⊎_elim
      (λ lt. let e = there.0 in omega (arith, lt, e))
      (λ (x : (bucket_of z pair.0 ≡ home) × ((n : ℕ) × (n < at) × KeyAt z pair.0 h n)). let e = one_position pair.0 x.1.0 at x.1.2 there.1 in let lt = x.1.1 in omega (arith, e, lt))
      of)
      (inr (there.0, (at, omega arith, there.1)))
      (λ key of. ⊎_elim (λ lt. inl lt) (λ (x : (bucket_of z key ≡ home) × ((n : ℕ) × (n < at) × KeyAt z key h n)). inr (x.0, (x.1.0, omega (arith, x.1.1), x.1.2))) of)
      (λ key of. ⊎_elim
      (λ lt. inl (inl lt))
      (λ (x : (bucket_of z key ≡ home) × ((n : ℕ) × (n < at + 1) × KeyAt z key h n)). ⊎_elim
      (λ same. inr (one_key home at key pair.0 x.0 there.0 (subst (KeyAt z key h) same x.1.2) there.1))
      (λ other. inl (inr (x.0, (x.1.0, omega (arith, x.1.1, other), x.1.2))))
      (cases_eq x.1.0 at))
      of)
      lists

  -- word 0 of a bucket is no item word
  pub lists_bucket : (home depth : ℕ) (pairs : Pairs) → ListsBefore home (8 * depth + 8) pairs → ListsBefore home (8 * (depth + 1) + 1) pairs
  lists_bucket home depth pairs lists = subst (λ n. ListsBefore home n pairs) (let e : 8 * depth + 8 + 1 ≡ 8 * (depth + 1) + 1 = omega arith in e)
      (lists_skip home (8 * depth + 8) pairs (λ key of there. let p = (position key (8 * depth + 8) there).1 in omega (arith, p)) lists)

  -- at the end of a chain
  pub lists_chain : (home depth : ℕ) (pairs : Pairs) → (bucket_after z h home).chained ≤ depth → ListsBefore home (8 * depth + 8) pairs → ListsBefore (home + 1) 1 pairs
  lists_chain home depth pairs short lists = lists_as (IsBefore z h home (8 * depth + 8)) (IsBefore z h (home + 1) 1) pairs
      (λ key of. ⊎_elim (λ lt. inl (omega (arith, lt))) (λ (x : (bucket_of z key ≡ home) × ((n : ℕ) × (n < 8 * depth + 8) × KeyAt z key h n)). inl (omega (arith, x.0))) of)
      (λ key value is of. ⊎_elim
      (λ lt. ⊎_elim
      (λ same. let x = stands key value is in let there = (coherent z h l).all key x.0 x.1 in let at : KeyAt z key h there.0 = (there.1, there.2, there.3) in
      let p = (position key there.0 at).0 in let few = subst (λ b. there.0 < 8 * (bucket_after z h b).chained + 8) same p in
      inr (same, (there.0, omega (arith, few, short), at)))
      (λ other. inl (omega (arith, lt, other)))
      (cases_eq (bucket_of z key) home))
      (λ (x : (bucket_of z key ≡ home + 1) × ((n : ℕ) × (n < 1) × KeyAt z key h n)). absurd (let p = (position key x.1.0 x.1.2).1 in let first = x.1.1 in omega (arith, p, first)))
      of)
      lists
