-- One turn of the search for a key's word: the word is looked at, and its row is read where it may be the key's.
use Rattle.std.proofs.Common.{◌≡◌, ℕ, ◌+◌, ◌-◌, ◌*◌, ◌/◌, ◌<◌, ◌≤◌, eqb, List, [], Option, Some, None, refl, sym, ap, ◌∙◌, subst, inr, arith}
use mir.Val.{bool_byte}
use Rattle.std.proofs.lemmas.Bool.{eq-eqb, ne_eqb}
use Rattle.std.specs.Prelude.{MatchOption}
use Rattle.segword.specs.Words.{IsSameItem, Shape}
use Rattle.segmodel.specs.Words.{bucket_of}
use Rattle.segcore.specs.Words.{bucket_after, HasBit, IsItemAt, item, Slot, word as word_at}
use Rattle.segbase.specs.Words.{Board, cell_at, HasItemOf, IsWordOfContent, number, Pass, Place}
use Rattle.segbase.specs.Words.{position, trace}
use Rattle.segstore.specs.Words.{Idles}
use Rattle.segwrite.specs.Words.{Target}
use Rattle.segwrite.specs.Writing.{IsInChain, IsEarlier, IsTarget, Updates, Finds}
use Rattle.segstore.specs.Words.{IsNext, LeadsNowhere, LeadsTo, next_word}
use Rattle.segwrite.specs.Growing.{IsChainEnd, Searches, or_end}
use Rattle.segwrite.proofs.Places.{idles_then, idle_bucket, idle_bit, same_position}
use Rattle.segwrite.proofs.Searching.{Searching, Passed, IsFirstEmpty, searching_later, reads_later, passes}
use Rattle.segwrite.proofs.Onward.{onward, last_item, ends_at, ended}
use Rattle.segwrite.proofs.Rising.{word_rose}

module _ (b : Board) (key : List ℕ) (first p q : Pass) (place : Place) (word : ℕ) (empty : Option Target) (s : Searching b key first p place empty)
    (bit : HasBit b.shape (trace first) (number first) (bucket_of b.shape key)) (look : Idles b p q)
    (tells : (bucket n : ℕ) → IsItemAt b.shape (trace q) bucket n (cell_at b.shape place) → IsWordOfContent ((bucket_after b.shape (trace q) bucket).items n) word) where
  abbrev k : ℕ
  k = bucket_of b.shape key

  pub bit_before : HasBit b.shape (trace p) (number p) k
  bit_before = idle_bit b first p k s.idles bit

  pub bit_looked : HasBit b.shape (trace q) (number q) k
  bit_looked = idle_bit b p q k look bit_before

  looked : Searching b key first q place empty
  looked = searching_later b key first p q look bit_before place empty s

  pub chain_looked : IsInChain b k place q
  chain_looked = looked.chain

  pub reads_looked : IsWordOfContent ((bucket_after b.shape (trace q) k).items (position b.shape (trace q) place)) word
  reads_looked = tells k (position b.shape (trace q) place) looked.chain.at

  module _ (r : Pass) (read : Idles b q r) where
    pub all_idle : Idles b first r
    all_idle = idles_then b first q r looked.idles read

    now : Searching b key first r place empty
    now = searching_later b key first q r read bit_looked place empty looked

    reads_now : IsWordOfContent ((bucket_after b.shape (trace r) k).items (position b.shape (trace r) place)) word
    reads_now = reads_later b key first q r read bit_looked place word looked.chain reads_looked

    -- the word is one that an item of the place had
    earlier_now : (a : Slot) → (bucket_after b.shape (trace r) k).items (position b.shape (trace r) place) ≡ item a
        → word ≡ word_at b.shape (trace q) (cell_at b.shape place) → IsEarlier b place word r
    earlier_now a here is =
        let before = (λ t. (sym (idle_bucket b q r k read bit_looked) t).items (sym (same_position b [] q r k place read.moved looked.chain) t)) ∙ here in
        let rose = word_rose b [] q r k place read.moved bit_looked tt looked.chain a looked.idles.moved.pass.valid looked.idles.moved.pass.lawful before in
        subst (λ w. IsSameItem w (word_at b.shape (trace r) (cell_at b.shape place)) × (w ≤ word_at b.shape (trace r) (cell_at b.shape place))) (sym is) rose

    -- it is the key's
    pub is_target : HasItemOf b key place r → word ≡ word_at b.shape (trace q) (cell_at b.shape place) → IsTarget b key (record { place = place; word = word }) r
    is_target has is = record { chain = now.chain; is = inr (has, earlier_now has.0 has.1 is) }

    -- it isn't, and the chain goes on or ends
    module _ (new : Option Target) (following : Option Place) (other : ¬ (HasItemOf b key place r))
        (updates : Updates (record { place = place; word = word }) empty new)
        (next : IsNext b.shape place word following) where
      pub go_on : (after : Place) → following ≡ Some after → Searching b key first r after new
      go_on after same = (onward b key first r place word new (passes b key first r place word reads_now empty new now other updates) reads_now following after next same).0

      pub smaller : (after : Place) → following ≡ Some after
          → 8 * (bucket_after b.shape (trace first) k).chained + 8 - position b.shape (trace r) after < 8 *
          (bucket_after b.shape (trace first) k).chained + 8 - position b.shape (trace p) place
      smaller after same =
          let on = onward b key first r place word new (passes b key first r place word reads_now empty new now other updates) reads_now following after next same in
          let within = on.0.chain.at.0.0 in
          let long : (bucket_after b.shape (trace r) k).chained ≡ (bucket_after b.shape (trace first) k).chained = ap (λ u. u.chained) (idle_bucket b first r k all_idle bit) in
          let there = same_position b [] p q k place look.moved s.chain in
          let still = same_position b [] q r k place read.moved looked.chain in
          omega (arith, on.1, within, long, there, still)

      -- the depth of the next place
      pub deeper : (buckets : ℕ) (after : Place) → buckets ≡ position b.shape (trace p) place / 8 + 1
          → following ≡ Some after → buckets + bool_byte (eqb after.word 1) ≡ position b.shape (trace r) after / 8 +
          1
      deeper buckets after deep same =
          let on = onward b key first r place word new (passes b key first r place word reads_now empty new now other updates) reads_now following after next same in
          let there = same_position b [] p q k place look.moved s.chain in
          let still = same_position b [] q r k place read.moved looked.chain in
          let e : position b.shape (trace r) after / 8 ≡ position b.shape (trace p) place / 8 + bool_byte
          (eqb after.word 1) = on.2 ∙ ap (λ n. n / 8 + bool_byte (eqb after.word 1)) (still ∙ there) in
          omega (arith, deep, e)

      -- or it ends here
      abbrev all_passed : Passed b key first r place new
      all_passed = passes b key first r place word reads_now empty new now other updates

      last_is : (buckets : ℕ) → following ≡ None → new ≡ None
          → word ≡ word_at b.shape (trace q) (cell_at b.shape place)
          → buckets ≡ position b.shape (trace p) place / 8 + 1
          → IsChainEnd b k (record { place = place; word = word; buckets = buckets }) r
      last_is buckets same none is deep =
          let ends = ends_at b key first r place word new all_passed reads_now following next same in
          let item_is = last_item b key first r place word new all_passed reads_now (subst (λ o. IsFirstEmpty b key (position b.shape (trace r) place + 1) o r) none all_passed.empty_is) ends in
          let still = same_position b [] p q k place look.moved s.chain in let later = same_position b [] q r k place read.moved looked.chain in record {
            last = record {
              chain = now.chain;
              ends = ends;
              named = item_is.0;
              here = item_is.1;
              is = item_is.2;
              earlier = earlier_now item_is.0 (ap (bucket_after b.shape (trace r) k).items ends ∙ item_is.1) is;
            };
            buckets = deep ∙ (let e : position b.shape (trace p) place ≡ 8 * (bucket_after b.shape (trace r) k).chained + 7 = sym (later ∙ still) ∙ ends in omega (arith, e));
          }

      pub found_end : (buckets : ℕ) → following ≡ None → word ≡ word_at b.shape (trace q) (cell_at b.shape place)
          → buckets ≡ position b.shape (trace p) place / 8 + 1
          → Searches b key (or_end (record { place = place; word = word; buckets = buckets }) new) r
      found_end buckets same is deep = with_end new refl (ended b key first r place word new all_passed reads_now following next same)
        where
          with_end : (o : Option Target) → new ≡ o → Finds b key o r → Searches b key (or_end (record { place = place; word = word; buckets = buckets }) o) r
          with_end None none found = (found, last_is buckets same none is deep)
          with_end (Some target) some found = found

-- ---- from word to word, and from bucket to bucket

-- below word 7 the next word of the bucket comes next
pub next_inner : (z : Shape) (place : Place) (here : ℕ) → place.word < 7 → IsNext z place here (Some (next_word place))
next_inner z place here lt = record { inner = λ lt. refl; last = λ le. absurd (omega (arith, lt, le)) }

-- behind word 7 word 1 of another bucket
pub next_first : (z : Shape) (place : Place) (here : ℕ) (next : Option Place) (after : Place) → place.word ≡ 7 → IsNext z place here next → next ≡ Some after → after.word ≡ 1
next_first z place here next after last is same = let to = subst (λ o. MatchOption o (LeadsNowhere here) (LeadsTo z here)) same (is.last (omega (arith, last))) in ap (λ (x : Place). x.word) to.3

-- the last word of a bucket
pub at_last : (b : Board) (key : List ℕ) (first p : Pass) (bucket word : ℕ) (empty : Option Target) → word ≡ 7
    → Searching b key first p (record { bucket = bucket; word = word }) empty
    → Searching b key first p (record { bucket = bucket; word = 7 }) empty
at_last b key first p bucket word empty last s = subst (λ w. Searching b key first p (record { bucket = bucket; word = w }) empty) last s

pub deep_last : (b : Board) (p : Pass) (bucket word buckets : ℕ) → word ≡ 7
    → buckets ≡ position b.shape (trace p) (record { bucket = bucket; word = word }) / 8 + 1
    → buckets ≡ position b.shape (trace p) (record { bucket = bucket; word = 7 }) / 8 + 1
deep_last b p bucket word buckets last deep = subst (λ w. buckets ≡ position b.shape (trace p) (record { bucket = bucket; word = w }) / 8 + 1) last deep

-- at the first word of the next bucket
pub at_first : (b : Board) (key : List ℕ) (first p : Pass) (after : Place) (empty : Option Target) → after.word ≡ 1
    → Searching b key first p after empty → Searching b key first p (record { bucket = after.bucket; word = 1 })
    empty
at_first b key first p after empty one s = subst (λ w. Searching b key first p (record { bucket = after.bucket; word = w }) empty) one s

pub deep_inner : (b : Board) (p : Pass) (bucket word buckets : ℕ) → 1 ≤ word
    → buckets + bool_byte (eqb (word + 1) 1) ≡ position b.shape (trace p)
    (record { bucket = bucket; word = word + 1 }) / 8 + 1
    → buckets ≡ position b.shape (trace p) (record { bucket = bucket; word = word + 1 }) / 8 + 1
deep_inner b p bucket word buckets some deep = let same = ap bool_byte (ne_eqb (word + 1) 1 (λ e. omega (arith, e, some))) in omega (arith, deep, same)

pub deep_first : (b : Board) (p : Pass) (after : Place) (buckets : ℕ) → after.word ≡ 1
    → buckets + bool_byte (eqb after.word 1) ≡ position b.shape (trace p) after / 8 + 1
    → buckets + 1 ≡ position b.shape (trace p) (record { bucket = after.bucket; word = 1 }) / 8 + 1
deep_first b p after buckets one deep =
    let same = ap bool_byte (eq-eqb after.word 1 one) in
    subst (λ w. buckets + 1 ≡ position b.shape (trace p) (record { bucket = after.bucket; word = w }) / 8 + 1) one (omega (arith, deep, same))
