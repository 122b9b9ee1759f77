-- What the word at a chain's position says to one who reads it without the bit: not the key, not the row, or on to the next bucket.
use Rattle.std.proofs.Common.{◌≡◌, ◌≢◌, ℕ, ◌+◌, ◌*◌, ◌/◌, ◌%◌, ◌^◌, ◌<◌, ◌≤◌, ◌⊎◌, List, Some, sym, ap, ◌∙◌, subst, ⊎_elim, arith}
use Rattle.std.proofs.lemmas.Bool.{cases_lt}
use Rattle.segword.specs.Words.{chain_word, IsValid, Shape}
use Rattle.segmodel.specs.Words.{Begins, bucket_of, tag_of}
use Rattle.segcore.specs.Words.{Cell, Event}
use Rattle.segcore.specs.Bucket.{bucket_after}
use Rattle.segcore.specs.Overflow.{home, home_of}
use Rattle.segcore.specs.ItemWord.{packed}
use Rattle.segcore.specs.Lawful.{IsLawful}
use Rattle.segcore.specs.Word.{word, IsAt, IsItemAt}
use Rattle.segcore.specs.Standing.{Names, ChainsOn, IsOfKey}
use Rattle.segcore.specs.Search.{KeyAt, RowAt, key_item, row_item}
use Rattle.segcore.proofs.Quiet.{chained_grows, position_stays}
use Rattle.segcore.proofs.Cells.{at_stays}
use Rattle.segcore.proofs.Marked.{chained_marked}
use Rattle.segcore.proofs.Limits.{bucket_in, few_drawn, low_row, low_segment}
use Rattle.segcore.proofs.Buckets.{joined}
use Rattle.segcore.proofs.Exact.{says_of_keys}
use Rattle.segcore.proofs.Searches.{sought_word}

-- the parts of an item word
tag_in : (t f s r w : ℕ) → f < 256 → s < 2 ^ 24 → r < 2 ^ 20 → w ≡ packed t f s r → w / 2 ^ 52 ≡ t
tag_in t f s r w a b c e = omega arith

place_in : (t f s r w : ℕ) → f < 256 → s < 2 ^ 24 → r < 2 ^ 20 → w ≡ packed t f s r → w % 2 ^ 44 ≡ s * 2 ^ 20 + r
place_in t f s r w a b c e = omega arith

module _ (z : Shape) (h : List Event) (v : IsValid z) (l : IsLawful z h) where
  names_tag : (b n : ℕ) (c : Cell) (t s r : ℕ) (x : Names z h b n c t s r) → word z h c / 2 ^ 52 ≡ t
  names_tag b n c t s r x = tag_in t x.frequency s r (word z h c) x.small (low_segment z s v x.in_segment.0) (low_row z r v x.in_segment.1) x.reads

  names_place : (b n : ℕ) (c : Cell) (t s r : ℕ) (x : Names z h b n c t s r) → word z h c % 2 ^ 44 ≡ s * 2 ^ 20 + r
  names_place b n c t s r x = place_in t x.frequency s r (word z h c) x.small (low_segment z s v x.in_segment.0) (low_row z r v x.in_segment.1) x.reads

-- a word with another tag isn't the key's
pub other_tag : (z : Shape) (k : List ℕ) (h : List Event) (n : ℕ) (c : Cell) → IsValid z → IsLawful z h → IsAt h (bucket_of z k) n c → word z h c / 2 ^ 52 ≢ tag_of k → ¬ (KeyAt z k h n)
other_tag z k h n c v l at ne i = let x = sought_word z (key_item k) h n c (bucket_in z k v) l at i in
    ne (names_tag z h v l (bucket_of z k) n c (tag_of x.0.key) x.0.segment x.0.row x.2 ∙ ap tag_of x.1)

-- a word that names another row isn't the row's
pub other_place : (z : Shape) (b s r : ℕ) (h : List Event) (n : ℕ) (c : Cell) → IsValid z → b < z.buckets → IsLawful z h → IsAt h b n c → word z h c % 2 ^ 44 ≢ s * 2 ^ 20 + r → ¬ (RowAt z b s r h n)
other_place z b s r h n c v lt l at ne i = let x = sought_word z (row_item b s r) h n c lt l at i in
    ne (names_place z h v l b n c (tag_of x.0.key) x.0.segment x.0.row x.2 ∙ (λ j. x.1.0 j * 2 ^ 20 + x.1.1 j))

-- the last word of a bucket that is neither empty nor an item leads to the next bucket
pub leads_on : (z : Shape) (h : List Event) (b d : ℕ) (c : Cell) → IsValid z → IsLawful z h → b < z.buckets → IsItemAt z h b (8 * d + 7) c → 0 < word z h c → word z h c < 2 ^ 52
    → (d < (bucket_after z h b).chained) × ((m : ℕ) × (word z h c ≡ chain_word m) × (home_of h m ≡ Some (home b (d + 1))) × (m < z.overflow))
leads_on z h b d c v l lt i low high = ⊎_elim
    (λ none. absurd (omega arith))
    (λ w. ⊎_elim
    (λ (x : ChainsOn z h b (8 * d + 7) c). let e = chained_marked z h b in let p = x.at_end in let q = x.inside in let same : x.depth ≡ d = omega arith in
    (omega arith, (x.number, x.reads, x.next ∙ ap (λ n. Some (home b (n + 1))) same, x.in_table)))
    (λ (x : IsOfKey z h b (8 * d + 7) c). let t = names_tag z h v l b (8 * d + 7) c (tag_of x.key) x.segment x.row x.names in let pos = x.names.tagged.0 in absurd (omega arith))
    w)
    ((says_of_keys z h v l).readings b (8 * d + 7) c lt i)

-- and one that is ends the chain
pub ends_there : (z : Shape) (h : List Event) (b d : ℕ) (c : Cell) → IsValid z → IsLawful z h → IsAt h b (8 * d + 7) c → (word z h c ≡ 0) ⊎ (2 ^ 52 ≤ word z h c) → (bucket_after z h b).chained ≤ d
ends_there z h b d c v l at out = ⊎_elim
    (λ lt. let j = joined z h b d l lt in let e = j.2 c at in let few = j.3 in let most = few_drawn z v in
    ⊎_elim (λ none. absurd (omega arith)) (λ big. absurd (omega arith)) out)
    (λ le. le)
    (cases_lt d (bucket_after z h b).chained)

-- a chain only grows
pub chain_grows : (z : Shape) (h g : List Event) (b : ℕ) → Begins h g → (bucket_after z h b).chained ≤ (bucket_after z g b).chained
chain_grows z h g b s = subst (λ x. (bucket_after z h b).chained ≤ (bucket_after z x b).chained) (sym s.1) (chained_grows z s.0 h b)

-- and its places stay
pub place_stays : (z : Shape) (h g : List Event) (b n : ℕ) (c : Cell) → IsLawful z g → Begins h g → IsItemAt z h b n c → IsItemAt z g b n c
place_stays z h g b n c l s i = subst (λ x. IsItemAt z x b n c) (sym s.1) (position_stays z s.0 h b n i.0, at_stays z s.0 h b n c (subst (IsLawful z) s.1 l) i.1)
