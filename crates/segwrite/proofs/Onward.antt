-- A search goes on along its chain, or comes to the end of it.
use Rattle.std.proofs.Common.{◌≡◌, ◌≢◌, ℕ, ◌+◌, ◌-◌, ◌*◌, ◌/◌, ◌^◌, ◌<◌, ◌≤◌, Bool, true, false, cond, eqb, ltb, List, Option, Some, None, refl, sym, ap, ◌∙◌, subst, inl, ⊎_elim, arith}
use Rattle.std.proofs.lemmas.Bool.{cases_lt, ne_eqb}
use mir.Val.{bool_byte}
use Rattle.std.proofs.lemmas.Option.{none-some, same_Some}
use Rattle.std.specs.Prelude.{MatchOption}
use Rattle.segword.specs.Words.{IsValid, Shape}
use Rattle.segmodel.specs.Words.{after, bucket_of, Cached, standing}
use Rattle.segcore.specs.declared.cell.Cell.TheVariants.{OfBucket, OfOverflow}
use Rattle.segcore.specs.Words.{Bucket, bucket_after, Content, copy, Event, home, home_of, IsAt}
use Rattle.segcore.specs.Words.{IsItemAt, IsLawful, IsPosition, IsWordOf, item, last, next, nothing}
use Rattle.segcore.specs.Words.{Slot}
use Rattle.segcore.proofs.Chains.{chain_of}
use Rattle.segcore.proofs.Coherent.{IsContent}
use Rattle.segcore.proofs.Homes.{joins}
use Rattle.segcore.proofs.Limits.{few_drawn, home_in}
use Rattle.segcore.proofs.Standing.{coherent}
use Rattle.segbase.specs.Words.{Board, cell_at, IsPassOf, IsPlace, IsWordOfContent, Pass, Place}
use Rattle.segbase.specs.Words.{position, trace}
use Rattle.segbase.specs.Passes as passes
use Rattle.segwrite.specs.Words.{Target}
use Rattle.segwrite.specs.Writing.{Finds}
use Rattle.segstore.specs.Words.{first_word, IsNext, LeadsNowhere, LeadsTo, next_word}
use Rattle.segwrite.proofs.Places.{position_at, overflow_at}
use Rattle.segwrite.proofs.Searching.{Searching, Passed, NoneBelow, IsFirstEmpty, position_of_item}

-- ---- the places of a chain

pub depth_of_place : (z : Shape) (h : List Event) (b n : ℕ) (place : Place) (t : Bool)
    → IsAt h b n (cond t (OfBucket place.bucket place.word) (OfOverflow (place.bucket - z.buckets) place.word))
    → (d : ℕ) × (n ≡ 8 * d + place.word)
depth_of_place z h b n place true at = (0, let e = at.1 in omega arith)
depth_of_place z h b n place false at = (at.0, at.2)

pub next_at : (z : Shape) (h : List Event) (b n : ℕ) (place : Place) (t : Bool) → place.word < 7
    → IsAt h b n (cond t (OfBucket place.bucket place.word) (OfOverflow (place.bucket - z.buckets) place.word))
    → IsAt h b (n + 1) (cond t (OfBucket place.bucket (place.word + 1)) (OfOverflow (place.bucket - z.buckets) (place.word + 1)))
next_at z h b n place true lt at = (at.0, ap (λ w. w + 1) at.1, omega arith)
next_at z h b n place false lt at = (at.0, at.1, (let e = at.2 in omega arith), omega arith)

-- a chain word is that of the next bucket of the chain
pub leads_to : (z : Shape) (h : List Event) (b n word number : ℕ) (x : Content) → IsLawful z h → IsContent h b (bucket_after z h b) n x → IsWordOfContent x word → number < 65536 → word ≡ number + 1
    → (d : ℕ) × (d < (bucket_after z h b).chained) × (n ≡ 8 * d + 7) × (home_of h number ≡ Some (home b (d + 1)))
leads_to z h b n word number nothing l is reads lt e = absurd (omega (arith, reads, e))
leads_to z h b n word number (item a) l is reads lt e = let tag : 1 ≤ word / 2 ^ 52 = reads.1 in absurd (omega (arith, tag, lt, e))
leads_to z h b n word number (next m) l is reads lt e =
    let same : m ≡ number = omega (arith, reads, e) in (is.0, is.1, is.2, subst (λ k. home_of h k ≡ Some (home b (is.0 + 1))) same is.3)
leads_to z h b n word number (copy w) l is reads lt e = absurd reads

pub first_at : (z : Shape) (h : List Event) (b d number : ℕ) → home_of h number ≡ Some (home b (d + 1)) → IsAt h b (8 * d + 9) (cell_at z (first_word z number))
first_at z h b d number is = subst (λ n. IsAt h b n (cell_at z (first_word z number))) (omega arith) (overflow_at z h b (d + 1) number 1 is (omega arith))

-- a last word that leads nowhere ends the chain
pub chain_ends : (z : Shape) (h : List Event) (b n d word : ℕ) → IsValid z → IsLawful z h → n ≡ 8 * d + 7
    → IsWordOfContent ((bucket_after z h b).items n) word → LeadsNowhere word → (bucket_after z h b).chained ≤ d
chain_ends z h b n d word v l e reads nowhere = let u = bucket_after z h b in ⊎_elim
    (λ lt.
    let j = joins z h b d l lt in
    let here : u.items n ≡ next j.0 = ap u.items e ∙ j.1 in
    let content : IsContent h b u n (next j.0) = subst (IsContent h b u n) here ((chain_of z h l b).contents n) in
    let few = few_drawn z v in
    let in_table = home_in z h j.0 (home b (content.0 + 1)) l content.3 in
    absurd (nowhere j.0 (omega (arith, few, in_table)) (subst (λ x. IsWordOfContent x word) here reads)))
    (λ le. le)
    (cases_lt d u.chained)

module _ (b : Board) (key : List ℕ) (first p : Pass) (place : Place) (word : ℕ) (empty : Option Target) (passed : Passed b key first p place empty)
    (reads : IsWordOfContent ((bucket_after b.shape (trace p) (bucket_of b.shape key)).items (position b.shape (trace p) place)) word) where
  abbrev z : Shape
  z = b.shape

  abbrev k : ℕ
  k = bucket_of b.shape key

  abbrev u : Bucket
  u = bucket_after b.shape (trace p) k

  abbrev n : ℕ
  n = position b.shape (trace p) place

  abbrev IsOn : Place → Type 0
  IsOn after = Searching b key first p after empty × (n < position z (trace p) after) × (position z (trace p) after / 8 ≡ n / 8 + bool_byte (eqb after.word 1))

  is : IsPassOf b p
  is = passed.idles.moved.pass

  depth : (d : ℕ) × (n ≡ 8 * d + place.word)
  depth = depth_of_place z (trace p) k n place (ltb place.bucket z.buckets) passed.chain.at.1

  -- no position lies between
  none_between : (n' : ℕ) → ((m : ℕ) → n + 1 ≤ m → m < n' → ¬ (IsPosition u m)) → NoneBelow b key n' p × IsFirstEmpty b key n' empty p
  none_between n' gap = (
    (λ m a lt here same. ⊎_elim (λ less. passed.none m a less here same) (λ le. gap m le lt (position_of_item z (trace p) k m a is.lawful here)) (cases_lt m (n + 1))),
    first_empty empty passed.empty_is,
  )
    where
      first_empty : (o : Option Target) → IsFirstEmpty b key (n + 1) o p → IsFirstEmpty b key n' o p
      first_empty None e = λ m lt here. ⊎_elim (λ less. e m less here) (λ le. absurd (gap m le lt here)) (cases_lt m (n + 1))
      first_empty (Some target) e = e

  on_to : (after : Place) (n' : ℕ) → IsPlace z after → IsPosition u n' → IsAt (trace p) k n' (cell_at z after)
      → n < n' → n' / 8 ≡ n / 8 + bool_byte (eqb after.word 1) → ((m : ℕ) → n + 1 ≤ m → m < n' → ¬ (IsPosition u m))
      → IsOn after
  on_to after n' within here at lt deep gap =
      let there : position z (trace p) after ≡ n' = position_at z (trace p) k n' after at in
      let below = none_between n' gap in (
        record {
          idles = passed.idles;
          chain = record { in_table = within; at = subst (λ i. IsItemAt z (trace p) k i (cell_at z after)) (sym there) (here, at) };
          none = subst (λ i. NoneBelow b key i p) (sym there) below.0;
          empty_is = subst (λ i. IsFirstEmpty b key i empty p) (sym there) below.1;
        },
        subst (λ i. n < i) (sym there) lt,
        subst (λ i. i / 8 ≡ n / 8 + bool_byte (eqb after.word 1)) (sym there) deep,
      )

  inner : place.word < 7 → IsOn (next_word place)
  inner lt = let d = depth in let t = passed.chain.in_table in let here = passed.chain.at.0 in
      on_to (next_word place) (n + 1) (t.0, omega arith, omega (arith, lt)) (omega (arith, here.0, d.1, lt), (let e : n + 1 ≡ 8 * d.0 + (place.word + 1) = omega (arith, d.1) in omega (arith, e, lt)))
      (next_at z (trace p) k n place (ltb place.bucket z.buckets) lt passed.chain.at.1) (omega arith)
      (subst (λ t. (n + 1) / 8 ≡ n / 8 + bool_byte t)
      (sym (ne_eqb (place.word + 1) 1 (λ e. omega (arith, e, t.1)))) (omega (arith, d.1, lt)))
      (λ m le less here'. omega (arith, le, less))

  leads : (after : Place) → LeadsTo z word after → IsOn after
  leads after to =
      let on = leads_to z (trace p) k n word to.0 (u.items n) is.lawful ((chain_of z (trace p) is.lawful k).contents n) reads to.1 to.2 in
      let in_table = home_in z (trace p) to.0 (home k (on.0 + 1)) is.lawful on.3 in
      subst IsOn (sym to.3) (on_to (first_word z to.0) (8 * on.0 + 9) (
        omega (arith, in_table),
        omega arith,
        omega arith,
      ) (omega (arith, on.1), omega arith) (first_at z (trace p) k on.0 to.0 on.3)
      (omega (arith, on.2)) (omega (arith, on.2))
      (λ m le less here'. let x = here'.1 in omega (arith, on.2, le, less, x)))

  pub onward : (following : Option Place) (after : Place) → IsNext z place word following → following ≡ Some after → IsOn after
  onward following after next_is same = ⊎_elim
      (λ lt. subst IsOn (same_Some (next_word place) after (sym (next_is.inner lt) ∙ same)) (inner lt))
      (λ le. leads after (subst (λ o. MatchOption o (LeadsNowhere word) (LeadsTo z word)) same (next_is.last le)))
      (cases_lt place.word 7)

  -- ---- at the end

  ends : 7 ≤ place.word → LeadsNowhere word → u.chained ≤ depth.0
  ends le nowhere = let w = passed.chain.in_table in chain_ends z (trace p) k n depth.0 word is.valid is.lawful (omega (arith, depth.1, le, w.2)) reads nowhere

  past_inner : (following : Option Place) → IsNext z place word following → following ≡ None → 7 ≤ place.word
  past_inner following next_is same = ⊎_elim (λ lt. absurd (none-some (next_word place) (sym same ∙ next_is.inner lt))) (λ x. x) (cases_lt place.word 7)

  leads_nowhere : (following : Option Place) → IsNext z place word following → following ≡ None → LeadsNowhere word
  leads_nowhere following next_is same = subst (λ o. MatchOption o (LeadsNowhere word) (LeadsTo z word)) same (next_is.last (past_inner following next_is same))

  absent_if : (o : Option Cached) → ((x : Cached) → o ≡ Some x → ⊥) → o ≡ None
  absent_if None none = refl
  absent_if (Some x) none = absurd (none x refl)

  -- no word was found empty, and an item stands in the last one
  pub last_item : ((m : ℕ) → m < n + 1 → IsPosition u m → u.items m ≢ nothing) → n ≡ last u → (named : Slot) × (u.items (last u) ≡ item named) × IsWordOf named word
  last_item none ends =
      let lt : last u < n + 1 = omega (arith, ends) in
      item_of (u.items (last u)) refl (subst (λ m. IsWordOfContent (u.items m) word) ends reads)
      ((chain_of z (trace p) is.lawful k).contents (last u))
      (none (last u) lt (subst (IsPosition u) ends passed.chain.at.0))
    where
      item_of : (x : Content) → u.items (last u) ≡ x → IsWordOfContent x word → IsContent (trace p) k u (last u) x
          → x ≢ nothing → (named : Slot) × (u.items (last u) ≡ item named) × IsWordOf named word
      item_of nothing here read at some = absurd (some refl)
      item_of (item a) here read at some = (a, here, read.0)
      item_of (next m) here read at some = absurd (omega (arith, at.1, at.2))
      item_of (copy w) here read at some = absurd read

  pub ends_at : (following : Option Place) → IsNext z place word following → following ≡ None → n ≡ last u
  ends_at following next_is same =
      let le = past_inner following next_is same in
      let short = ends le (leads_nowhere following next_is same) in
      let d = depth in let t = passed.chain.in_table in let here = passed.chain.at.0 in omega (arith, d.1, t.2, le, short, here.0)

  found_empty : (o : Option Target) → IsFirstEmpty b key (n + 1) o p → standing (after z (passes.seen p)) key ≡ None → ((m : ℕ) → IsPosition u m → m < n + 1) → Finds b key o p
  found_empty None e absent all = record { absent = absent; taken = λ m here. e m (all m here) here }
  found_empty (Some target) e absent all = record { chain = e.1; is = inl (e.0, e.2, absent, e.3) }

  pub ended : (following : Option Place) → IsNext z place word following → following ≡ None → Finds b key empty p
  ended following next_is same =
      let le = past_inner following next_is same in
      let nowhere = leads_nowhere following next_is same in
      let short = ends le nowhere in
      let d = depth in
      let all : (m : ℕ) → IsPosition u m → m < n + 1 = λ m here. omega (arith, here.0, short, d.1, le) in
      let absent : standing (after z (passes.seen p)) key ≡ None = absent_if (standing (after z (passes.seen p)) key) (λ x stands.
      let there = (coherent z (trace p) is.lawful).all key x stands in
      passed.none there.0 there.1 (all there.0 (position_of_item z (trace p) k there.0 there.1 is.lawful there.2)) there.2 there.3) in
      found_empty empty passed.empty_is absent all
