-- A search along a chain under the bucket's bit: what it knows of the words that it has passed.
use Rattle.std.proofs.Common.{◌≡◌, ◌≢◌, ◌⊎◌, ℕ, ◌+◌, ◌-◌, ◌/◌, ◌<◌, ◌≤◌, Bool, true, false, ltb, is_some, List, [], Option, Some, None, refl, sym, ap, ◌∙◌, subst, inl, inr, ⊎_elim, arith}
use mir.Val.{bool_byte}
use Rattle.std.proofs.lemmas.Bool.{cases_eq, cond-true, lt-ltb, false≢true}
use Rattle.segword.specs.Words.{Shape}
use Rattle.segmodel.specs.Words.{bucket_of}
use Rattle.segcore.specs.declared.cell.Cell.TheVariants.{OfBucket, OfOverflow}
use Rattle.segcore.specs.Words.{Bucket, bucket_after, Content, copy, Event, HasBit, IsAt, IsItemAt}
use Rattle.segcore.specs.Words.{IsLawful, IsPosition, item, next, nothing, Slot}
use Rattle.segcore.proofs.Chains.{chain_of}
use Rattle.segcore.proofs.Coherent.{IsContent}
use Rattle.segbase.specs.Words.{Board, cell_at, HasItemOf, IsFree, IsPassOf, IsWordOfContent}
use Rattle.segbase.specs.Words.{number, Pass, Place, position, trace}
use Rattle.segstore.specs.Words.{Idles}
use Rattle.segstore.proofs.Refills.{idles}
use Rattle.segwrite.specs.Words.{Target}
use Rattle.segwrite.specs.FirstEmpty.{AreTakenBefore}
use Rattle.segwrite.specs.Writing.{IsInChain, IsFirst, Updates}
use Rattle.segwrite.proofs.Places.{idles_then, idle_bucket, position_at, same_position, chain_later}

-- an item is at a position of the chain
pub position_of_item : (z : Shape) (h : List Event) (b n : ℕ) (a : Slot) → IsLawful z h → (bucket_after z h b).items n ≡ item a → IsPosition (bucket_after z h b) n
position_of_item z h b n a l here = subst (IsContent h b (bucket_after z h b) n) here ((chain_of z h l b).contents n)

-- no word below this position has an item of the key
abbrev pub NoneBelow : Board → List ℕ → ℕ → Pass → Type 0
NoneBelow b key n p = (m : ℕ) (a : Slot) → m < n → (bucket_after b.shape (trace p) (bucket_of b.shape key)).items m ≡ item a → a.key ≢ key

-- the first empty word was found, or none below this position is
abbrev pub IsFirstEmpty : Board → List ℕ → ℕ → Option Target → Pass → Type 0
IsFirstEmpty b key n None p = AreTakenBefore (bucket_after b.shape (trace p) (bucket_of b.shape key)) n
IsFirstEmpty b key n (Some target) p = (target.word ≡ 0) × IsInChain b (bucket_of b.shape key) target.place p × IsFree b key target.place p × IsFirst b key target.place p

pub record Searching (b : Board) (key : List ℕ) (first p : Pass) (place : Place) (empty : Option Target) : Type 0 where
  pub idles : Idles b first p
  pub chain : IsInChain b (bucket_of b.shape key) place p
  pub none : NoneBelow b key (position b.shape (trace p) place) p
  pub empty_is : IsFirstEmpty b key (position b.shape (trace p) place) empty p

-- the word at the place is passed as well
pub record Passed (b : Board) (key : List ℕ) (first p : Pass) (place : Place) (empty : Option Target) : Type 0 where
  pub idles : Idles b first p
  pub chain : IsInChain b (bucket_of b.shape key) place p
  pub none : NoneBelow b key (position b.shape (trace p) place + 1) p
  pub empty_is : IsFirstEmpty b key (position b.shape (trace p) place + 1) empty p

-- ---- the first word

pub begins_at : (b : Board) (p : Pass) (bucket : ℕ) → bucket < b.shape.buckets → IsInChain b bucket (record { bucket = bucket; word = 1 }) p
begins_at b p bucket lt =
    let z = b.shape in let place : Place = record { bucket = bucket; word = 1 } in
    let at : IsAt (trace p) bucket 1 (cell_at z place) =
    subst (IsAt (trace p) bucket 1) (sym (cond-true (ltb bucket z.buckets) (OfBucket bucket 1)
    (OfOverflow (bucket - z.buckets) 1) (lt-ltb bucket z.buckets lt))) (
      refl,
      refl,
      (let s : 1 < 8 = omega arith in s),
    ) in record {
      in_table = (omega (arith, lt), omega arith, omega arith);
      at = subst (λ n. IsItemAt z (trace p) bucket n (cell_at z place)) (sym (position_at z (trace p) bucket 1 place at)) ((omega arith, omega arith), at);
    }

pub searching_first : (b : Board) (key : List ℕ) (p : Pass) (bucket : ℕ) → bucket ≡ bucket_of b.shape key
    → IsPassOf b p → bucket < b.shape.buckets → Searching b key p p (record { bucket = bucket; word = 1 }) None
searching_first b key p bucket of is lt =
    let z = b.shape in let place : Place = record { bucket = bucket; word = 1 } in
    let chain = begins_at b p bucket lt in
    let one : position z (trace p) place ≡ 1 = cond-true (ltb bucket z.buckets) 1 _ (lt-ltb bucket z.buckets lt) in record {
      idles = idles b p is;
      chain = subst (λ k. IsInChain b k place p) of chain;
      none = λ m a less here. let i = position_of_item z (trace p) (bucket_of z key) m a is.lawful here in absurd (omega (arith, less, one, i.1));
      empty_is = λ m less here. absurd (omega (arith, less, one, here.1));
    }

-- it is in the first bucket of its chain
pub first_bucket : (z : Shape) (h : List Event) (bucket : ℕ) → bucket < z.buckets → 1 ≡ position z h (record { bucket = bucket; word = 1 }) / 8 + 1
first_bucket z h bucket lt = ap (λ n. n / 8 + 1) (sym (cond-true (ltb bucket z.buckets) 1 _ (lt-ltb bucket z.buckets lt)))

-- and in one of the first four, wherever it came to
pub few_buckets : (b : Board) (key : List ℕ) (first p : Pass) (place : Place) (empty : Option Target) → Searching b key first p place empty → position b.shape (trace p) place / 8 < 4
few_buckets b key first p place empty s = let short = (chain_of b.shape (trace p) s.idles.moved.pass.lawful (bucket_of b.shape key)).short in let within = s.chain.at.0.0 in omega arith

pub one_at_most : (t : Bool) → bool_byte t ≤ 1
one_at_most true = omega arith
one_at_most false = omega arith

-- ---- looking leaves what is known

module _ (b : Board) (key : List ℕ) (first p r : Pass) (i : Idles b p r) (bit : HasBit b.shape (trace p) (number p) (bucket_of b.shape key)) where
  abbrev k : ℕ
  k = bucket_of b.shape key

  same : bucket_after b.shape (trace r) k ≡ bucket_after b.shape (trace p) k
  same = idle_bucket b p r k i bit

  at_place : (place : Place) → IsInChain b k place p → position b.shape (trace r) place ≡ position b.shape (trace p) place
  at_place place chain = same_position b [] p r k place i.moved chain

  empty_later : (n : ℕ) (empty : Option Target) → IsFirstEmpty b key n empty p → IsFirstEmpty b key n empty r
  empty_later n None is = subst (λ (u : Bucket). AreTakenBefore u n) (sym same) is
  empty_later n (Some target) is = (
    is.0,
    chain_later b [] p r k target.place i.moved is.1,
    (λ t. (same t).items (at_place target.place is.1 t)) ∙ is.2,
    (λ m lt here. subst (λ (u : Bucket). u.items m ≢ nothing) (sym same) (is.3 m (subst (λ n. m < n) (at_place target.place is.1) lt) (subst (λ (u : Bucket). IsPosition u m) same here))),
  )

  pub searching_later : (place : Place) (empty : Option Target) → Searching b key first p place empty → Searching b key first r place empty
  searching_later place empty s = record {
    idles = idles_then b first p r s.idles i;
    chain = chain_later b [] p r k place i.moved s.chain;
    none = λ m a lt here. s.none m a (subst (λ n. m < n) (at_place place s.chain) lt) (ap (λ (u : Bucket). u.items m) (sym same) ∙ here);
    empty_is = subst (λ n. IsFirstEmpty b key n empty r) (sym (at_place place s.chain)) (empty_later (position b.shape (trace p) place) empty s.empty_is);
  }

  pub reads_later : (place : Place) (word : ℕ) → IsInChain b k place p → IsWordOfContent ((bucket_after b.shape (trace p) k).items (position b.shape (trace p) place)) word
      → IsWordOfContent ((bucket_after b.shape (trace r) k).items (position b.shape (trace r) place)) word
  reads_later place word chain reads = subst (λ x. IsWordOfContent x word) (λ t. (sym same t).items (sym (at_place place chain) t)) reads

-- ---- a word that isn't the key's

read_empty : (x : Content) (word : ℕ) → IsWordOfContent x word → word ≡ 0 → x ≡ nothing
read_empty nothing word reads none = refl
read_empty (item a) word reads none = let tag = reads.1 in absurd (omega (arith, tag, none))
read_empty (next m) word reads none = absurd (omega (arith, reads, none))
read_empty (copy w) word reads none = absurd reads

module _ (b : Board) (key : List ℕ) (first p : Pass) (place : Place) (word : ℕ)
    (reads : IsWordOfContent ((bucket_after b.shape (trace p) (bucket_of b.shape key)).items
    (position b.shape (trace p) place)) word) where
  abbrev u : Bucket
  u = bucket_after b.shape (trace p) (bucket_of b.shape key)

  abbrev n : ℕ
  n = position b.shape (trace p) place

  last_or : (m : ℕ) → m < n + 1 → (m < n) ⊎ (n ≡ m)
  last_or m lt = ⊎_elim (λ e. inr e) (λ other. inl (omega (arith, lt, other))) (cases_eq n m)

  kept_empty : (old : Option Target) → IsFirstEmpty b key n old p → (word ≢ 0) ⊎ (is_some old ≡ true) → IsFirstEmpty b key (n + 1) old p
  kept_empty (Some target) is why = is
  kept_empty None is why = λ m lt here none. ⊎_elim
      (λ less. is m less here none)
      (λ e. ⊎_elim
      (λ full. full (subst (λ x. IsWordOfContent x word) (ap (λ a. u.items a) e ∙ none) reads))
      (λ some. false≢true some)
      why)
      (last_or m lt)

  pub passes : (old new : Option Target) → Searching b key first p place old → ¬ (HasItemOf b key place p) → Updates (record { place = place; word = word }) old new → Passed b key first p place new
  passes old new s other updates = record {
    idles = s.idles;
    chain = s.chain;
    none = λ m a lt here same. ⊎_elim
        (λ less. s.none m a less here same)
        (λ e. other (a, ap (λ x. u.items x) e ∙ here, same))
        (last_or m lt);
    empty_is = ⊎_elim
        (λ now. subst (λ o. IsFirstEmpty b key (n + 1) o p) (sym now.1) (now.0, s.chain, read_empty (u.items n) word reads now.0, subst (λ o. IsFirstEmpty b key n o p) now.2 s.empty_is))
        (λ kept. subst (λ o. IsFirstEmpty b key (n + 1) o p) (sym kept.0) (kept_empty old s.empty_is kept.1))
        updates;
  }
