-- A walk along a chain, word by word, under the bucket's bit or without it: which place comes next.
use Rattle.std.proofs.Common.{◌≡◌, ℕ, ◌+◌, ◌-◌, ◌*◌, ◌/◌, ◌<◌, ltb, [], Option, Some, refl, sym, ◌∙◌, subst, inl, inr, ◌⊎◌, ⊎_elim, arith}
use Rattle.std.proofs.lemmas.Bool.{cases_lt}
use Rattle.std.proofs.lemmas.Option.{same_Some}
use Rattle.std.specs.Prelude.{MatchOption}
use Rattle.segcore.specs.Words.{bucket_after, home, IsAt, IsItemAt, IsPosition}
use Rattle.segcore.proofs.Chains.{chain_of}
use Rattle.segcore.proofs.Limits.{home_in}
use Rattle.segbase.specs.Words.{Board, cell_at, IsPassOf, IsPlace, IsWordOfContent}
use Rattle.segbase.specs.Words.{Pass, Place, position, trace}
use Rattle.segstore.specs.Words.{first_word, Idles, IsNext, LeadsNowhere, LeadsTo, next_word}
use Rattle.segwrite.specs.Words.{IsInChain}
use Rattle.segwrite.proofs.Onward.{depth_of_place, next_at, leads_to, first_at}
use Rattle.segwrite.proofs.Places.{chain_later, position_at, same_position}

-- how many item words of a chain come before a position: seven of each bucket
abbrev pub words_before : ℕ → ℕ
words_before at = at - 1 - (at - 1) / 8

-- a chain has four buckets at most
pub place_left : (b : Board) (bucket : ℕ) (place : Place) (p : Pass) → IsPassOf b p → IsInChain b bucket place p → position b.shape (trace p) place < 32
place_left b bucket place p is chain = let short = (chain_of b.shape (trace p) is.lawful bucket).short in let low = chain.at.0.0 in omega arith

-- a look at the word of a place of the chain
module _ (b : Board) (bucket : ℕ) (p q : Pass) (place : Place) (word : ℕ) (chain : IsInChain b bucket place p) (look : Idles b p q)
    (tells : (k n : ℕ) → IsItemAt b.shape (trace q) k n (cell_at b.shape place) → IsWordOfContent ((bucket_after b.shape (trace q) k).items n) word) where
  abbrev n : ℕ
  n = position b.shape (trace q) place

  is : IsPassOf b q
  is = look.moved.pass

  pub chain_looked : IsInChain b bucket place q
  chain_looked = chain_later b [] p q bucket place look.moved chain

  pub same_looked : position b.shape (trace q) place ≡ position b.shape (trace p) place
  same_looked = same_position b [] p q bucket place look.moved chain

  pub reads_looked : IsWordOfContent ((bucket_after b.shape (trace q) bucket).items n) word
  reads_looked = tells bucket n chain_looked.at

  pub depth : (d : ℕ) × (n ≡ 8 * d + place.word)
  depth = depth_of_place b.shape (trace q) bucket n place (ltb place.bucket b.shape.buckets) chain_looked.at.1

  -- The place is in the chain: the next word of the bucket, or the first item word of the next one.
  pub record ComesNext (after : Place) : Type 0 where
    pub there : IsInChain b bucket after q
    pub at : (position b.shape (trace q) after ≡ n + 1)
        ⊎ ((position b.shape (trace q) after ≡ n + 1 + 1) × (d : ℕ) × (n ≡ 8 * d + 7))

  comes_to : (after : Place) (m : ℕ) → IsPlace b.shape after → IsPosition (bucket_after b.shape (trace q) bucket) m
      → IsAt (trace q) bucket m (cell_at b.shape after) → (m ≡ n + 1) ⊎ ((m ≡ n + 1 + 1) × (d : ℕ) × (n ≡ 8 * d + 7)) → ComesNext after
  comes_to after m within here at which =
      let there : position b.shape (trace q) after ≡ m = position_at b.shape (trace q) bucket m after at in record {
        there = record { in_table = within; at = subst (λ i. IsItemAt b.shape (trace q) bucket i (cell_at b.shape after)) (sym there) (here, at) };
        at = subst (λ i. (i ≡ n + 1) ⊎ ((i ≡ n + 1 + 1) × (d : ℕ) × (n ≡ 8 * d + 7))) (sym there) which;
      }

  inner : place.word < 7 → ComesNext (next_word place)
  inner lt = let d = depth in let t = chain_looked.in_table in let here = chain_looked.at.0 in
      comes_to (next_word place) (n + 1) (t.0, omega arith, omega (arith, lt)) (
        omega (arith, here.0, d.1, lt),
        (let e : n + 1 ≡ 8 * d.0 + (place.word + 1) = omega (arith, d.1) in omega (arith, e, lt)),
      )
      (next_at b.shape (trace q) bucket n place (ltb place.bucket b.shape.buckets) lt chain_looked.at.1) (inl refl)

  leads : (after : Place) → LeadsTo b.shape word after → ComesNext after
  leads after to =
      let z = b.shape in let h = trace q in
      let on = leads_to z h bucket n word to.0 ((bucket_after z h bucket).items n) is.lawful ((chain_of z h is.lawful bucket).contents n) reads_looked to.1 to.2 in
      let in_table = home_in z h to.0 (home bucket (on.0 + 1)) is.lawful on.3 in
      subst ComesNext (sym to.3) (comes_to (first_word b.shape to.0) (8 * on.0 + 9) (
        omega (arith, in_table),
        omega arith,
        omega arith,
      ) (omega (arith, on.1), omega arith) (first_at b.shape (trace q) bucket on.0 to.0 on.3)
      (inr (omega (arith, on.2), on.0, on.2)))

  module _ (following : Option Place) (next : IsNext b.shape place word following) where
    pub onward : (after : Place) → following ≡ Some after → ComesNext after
    onward after is' = ⊎_elim
        (λ lt. subst ComesNext (same_Some (next_word place) after (sym (next.inner lt) ∙ is')) (inner lt))
        (λ le. leads after (subst (λ o. MatchOption o (LeadsNowhere word) (LeadsTo b.shape word)) is' (next.last le)))
        (cases_lt place.word 7)

    pub less_left : (after : Place) → following ≡ Some after → 32 - position b.shape (trace q) after < 32 - position b.shape (trace p) place
    less_left after is' =
        let on = onward after is' in let left = place_left b bucket after q is on.there in let same = same_looked in
        ⊎_elim (λ one. omega (arith, one, left, same)) (λ two. omega (arith, two.0, left, same)) on.at

    pub one_more : (after : Place) → following ≡ Some after → words_before (position b.shape (trace q) after) ≡ words_before (position b.shape (trace p) place) + 1
    one_more after is' = let on = onward after is' in let same = same_looked in let d = depth in let low = chain_looked.at.0 in
        ⊎_elim (λ one. omega (arith, one, same, d.1, low.0, low.1)) (λ two. omega (arith, two.0, two.2, same)) on.at
