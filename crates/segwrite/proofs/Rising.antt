-- Under a bucket's bit the words of its items change in their frequencies alone, which only rise.
use Rattle.std.proofs.Common.{◌≡◌, ℕ, ◌^◌, ◌<◌, ◌≤◌, List, [], ◌∷◌, ◌++◌, sym, ap, ◌∙◌, subst, arith}
use Rattle.segword.specs.Words.{IsSameItem, IsValid, Shape}
use Rattle.segmodel.specs.Words.{tag_of}
use Rattle.segcore.specs.Words.{bucket_after, Cell, content_word, Event, frequency_of, HasBit}
use Rattle.segcore.specs.Words.{IsItemAt, IsLawful, item, NoneAt, packed, Slot, word}
use Rattle.segcore.proofs.Limits.{low_row, low_segment, low_frequency}
use Rattle.segcore.proofs.Meanwhile.{one_rise}
use Rattle.segcore.proofs.Standing.{coherent}
use Rattle.segbase.specs.Words.{AddsEvents, Board, cell_at, number, Pass, Place, position, trace}
use Rattle.segbase.proofs.Standing.{some_tag, tag_of_word, place_of_word}
use Rattle.segcore.proofs.Exact.{content_at}
use Rattle.segwrite.specs.Writing.{IsInChain, IsEarlier}
use Rattle.segstore.proofs.UnderBit.{unchanged, moved_none, moved_bucket}
use Rattle.segwrite.proofs.Places.{same_position, chain_later}

rise : (z : Shape) (more h : List Event) (b n : ℕ) (a : Slot) → IsLawful z (more ++ h) → NoneAt z b more
    → (bucket_after z h b).items n ≡ item a → frequency_of h a.segment a.row ≤ frequency_of (more ++ h) a.segment
    a.row
rise z [] h b n a l none here = omega arith
rise z (e ∷ more) h b n a l none here =
    let before = rise z more h b n a l.0 none.1 here in
    let stands = (coherent z (more ++ h) l.0).items b n a (ap (λ u. u.items n) (unchanged z more h b none.1) ∙ here) in
    let one = one_rise z e (more ++ h) a.segment a.row a.key l stands.linked in omega arith

-- two words of one item
pub rose : (t f g s r : ℕ) → 1 ≤ t → f < 2 ^ 8 → g < 2 ^ 8 → s < 2 ^ 24 → r < 2 ^ 20 → f ≤ g → IsSameItem (packed t f s r) (packed t g s r) × (packed t f s r ≤ packed t g s r)
rose t f g s r some lf lg ls lr le =
    let one = tag_of_word t f s r lf ls lr in let two = tag_of_word t g s r lg ls lr in
    ((subst (λ x. 1 ≤ x) (sym one) some, one ∙ sym two, place_of_word t f s r ls lr ∙ sym (place_of_word t g s r ls lr)), omega (arith, le))

-- the words of an item at two moments, whose frequency didn't fall
pub item_rose : (z : Shape) (h g : List Event) (b n : ℕ) (cell : Cell) (a : Slot) → IsValid z → IsLawful z h
    → IsLawful z g → IsItemAt z h b n cell → IsItemAt z g b n cell → (bucket_after z h b).items n ≡ item a
    → (bucket_after z g b).items n ≡ item a
    → frequency_of h a.segment a.row ≤ frequency_of g a.segment a.row → IsSameItem (word z h cell) (word z g cell) × (word z h cell ≤ word z g cell)
item_rose z h g b n cell a v l l' before after here there up =
    let stands = (coherent z h l).items b n a here in
    let was : word z h cell ≡ packed (tag_of a.key) (frequency_of h a.segment a.row) a.segment a.row = content_at z h b n cell before ∙ ap (content_word h) here in
    let now : word z g cell ≡ packed (tag_of a.key) (frequency_of g a.segment a.row) a.segment a.row = content_at z g b n cell after ∙ ap (content_word g) there in
    let two = rose (tag_of a.key) (frequency_of h a.segment a.row) (frequency_of g a.segment a.row) a.segment a.row (some_tag a.key)
    (low_frequency z h a.segment a.row l) (low_frequency z g a.segment a.row l') (low_segment z a.segment v stands.within.0) (low_row z a.row v stands.within.1) up in
    subst (λ x. IsSameItem x (word z g cell) × (x ≤ word z g cell)) (sym was)
    (subst (λ y. IsSameItem (packed (tag_of a.key) (frequency_of h a.segment a.row) a.segment a.row) y
    × (packed (tag_of a.key) (frequency_of h a.segment a.row) a.segment a.row ≤ y)) (sym now) two)

-- an earlier word of an item is one that it had also where its word rose since
pub earlier_yet : (old before now : ℕ) → IsSameItem old before → old ≤ before → IsSameItem before now × (before ≤ now) → IsSameItem old now × (old ≤ now)
earlier_yet old before now s le w = ((s.0, s.1 ∙ w.0.1, s.2 ∙ w.0.2), (let le' = w.1 in omega (arith, le, le')))

module _ (b : Board) (own : List Event) (p q : Pass) (bucket : ℕ) (place : Place) (m : AddsEvents b own p q)
    (bit : HasBit b.shape (trace p) (number p) bucket) (none : NoneAt b.shape bucket own)
    (chain : IsInChain b bucket place p) where
  abbrev cell : Cell
  cell = cell_at b.shape place

  abbrev n : ℕ
  n = position b.shape (trace p) place

  -- from one moment under the bit to a later one
  pub word_rose : (a : Slot) → IsValid b.shape → IsLawful b.shape (trace p) → (bucket_after b.shape (trace p) bucket).items n ≡ item a
      → IsSameItem (word b.shape (trace p) cell) (word b.shape (trace q) cell) × (word b.shape (trace p) cell ≤ word b.shape (trace q) cell)
  word_rose a v l here =
      let z = b.shape in let h = trace p in
      let later = subst (λ i. IsItemAt z (trace q) bucket i cell) (same_position b own p q bucket place m chain) (chain_later b own p q bucket place m chain).at in
      let up = rise z m.more h bucket n a (subst (IsLawful z) m.goes_on m.pass.lawful) (moved_none b own p q bucket m bit none) here in
      item_rose z h (trace q) bucket n cell a v l m.pass.lawful chain.at later here (ap (λ u. u.items n) (moved_bucket b own p q bucket m bit none) ∙ here)
      (subst (λ t. frequency_of h a.segment a.row ≤ frequency_of t a.segment a.row) (sym m.goes_on) up)

  -- an earlier word of the item is one at the later moment too
  pub earlier_later : (old : ℕ) (a : Slot) → IsValid b.shape → IsLawful b.shape (trace p) → (bucket_after b.shape (trace p) bucket).items n ≡ item a → IsEarlier b place old p → IsEarlier b place old q
  earlier_later old a v l here e = earlier_yet old (word b.shape (trace p) cell) (word b.shape (trace q) cell) e.0 e.1 (word_rose a v l here)
