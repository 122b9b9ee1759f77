-- What a word of a chain, read under the bucket's bit, says of the item there.
use Rattle.std.proofs.Common.{◌≡◌, ◌↔◌, ℕ, ◌+◌, ◌*◌, ◌/◌, ◌%◌, ◌^◌, ◌<◌, ◌≤◌, List, [], refl, sym, ap, ◌∙◌, subst, inr, true, arith}
use Rattle.segword.specs.Words.{covers, IsKey, IsValid, IsValue, Item, item_word, Shape}
use Rattle.segmodel.specs.Words.{tag_of}
use Rattle.segcore.specs.Words.{bucket_after, Content, copy, Event, HasBit, Holds, IsLawful}
use Rattle.segcore.specs.Words.{IsWordOf, item, next, nothing, row_after, Slot, span_in}
use Rattle.segcore.proofs.Chains.{chain_of, same_item}
use Rattle.segcore.proofs.Coherent.{IsContent}
use Rattle.segcore.proofs.Limits.{few_drawn, home_in, low_row, low_segment}
use Rattle.segcore.proofs.Standing.{coherent}
use Rattle.segbase.specs.Words.{Board, IsPassOf, IsWordOfContent, number, Pass, Place, position}
use Rattle.segbase.specs.Words.{trace}
use Rattle.segbase.proofs.Standing.{tag_of_word, place_of_word}
use Rattle.segstore.specs.Words.{Idles, IsReadable, MayReadItem}
use Rattle.segwrite.specs.Writing.{IsInChain}
use Rattle.segwrite.proofs.Places.{idle_bucket, same_position}

-- the item of a position whose word has a tag
pub item_here : (z : Shape) (h : List Event) (b n word : ℕ) (x : Content) → IsValid z → IsLawful z h
    → IsContent h b (bucket_after z h b) n x → IsWordOfContent x word → 1 ≤ word / 2 ^ 52 → (a : Slot)
    × (x ≡ item a) × IsWordOf a word
item_here z h b n word nothing v l is reads tag = absurd (omega (arith, reads, tag))
item_here z h b n word (item a) v l is reads tag = (a, refl, reads.0)
item_here z h b n word (next m) v l is reads tag =
    let few = few_drawn z v in let lt = home_in z h m _ l is.3 in absurd (omega (arith, reads, tag))
item_here z h b n word (copy w) v l is reads tag = absurd reads

-- the parts of its word
parts : (t f s r t' f' s' r' : ℕ) → f < 2 ^ 8 → s < 2 ^ 24 → r < 2 ^ 20 → f' < 2 ^ 8 → s' < 2 ^ 24 → r' < 2 ^ 20
    → t * 2 ^ 52 + f * 2 ^ 44 + s * 2 ^ 20 + r ≡ t' * 2 ^ 52 + f' * 2 ^ 44 + s' * 2 ^ 20 + r' → (t ≡ t') × (s ≡ s') × (r ≡ r')
parts t f s r t' f' s' r' lf ls lr lf' ls' lr' e =
    let tags : t ≡ t' = sym (tag_of_word t f s r lf ls lr) ∙ (ap (λ n. n / 2 ^ 52) e ∙ tag_of_word t' f' s' r' lf' ls' lr') in
    let places : s * 2 ^ 20 + r ≡ s' * 2 ^ 20 + r' = sym (place_of_word t f s r ls lr) ∙ (ap (λ n. n % 2 ^ 44) e ∙ place_of_word t' f' s' r' ls' lr') in
    (tags, omega (arith, places, lr, lr'), omega (arith, places, lr, lr'))

-- what an item word names
pub record IsNamed (z : Shape) (h : List Event) (b n : ℕ) (read : Item) : Type 0 where
  pub slot : Slot
  pub here : (bucket_after z h b).items n ≡ item slot
  pub tag : read.tag ≡ tag_of slot.key
  pub segment : slot.segment ≡ read.seg
  pub row : slot.row ≡ read.row

pub named : (z : Shape) (h : List Event) (b n word : ℕ) (read : Item) → IsValid z → IsLawful z h → IsWordOfContent ((bucket_after z h b).items n) word → item_word read ≡ word → IsNamed z h b n read
named z h b n word read v l reads is =
    let tagged : 1 ≤ word / 2 ^ 52 = subst (λ w. 1 ≤ w / 2 ^ 52) is
    (subst (λ t. 1 ≤ t) (sym (tag_of_word read.tag read.freq read.seg read.row read.freq_in_range
    read.seg_in_range read.row_in_range)) read.tag_above_zero) in
    let found = item_here z h b n word ((bucket_after z h b).items n) v l ((chain_of z h l b).contents n) reads tagged in
    let a = found.0 in let stands = (coherent z h l).items b n a found.1 in
    let same = parts read.tag read.freq read.seg read.row (tag_of a.key) found.2.0 a.segment a.row read.freq_in_range read.seg_in_range read.row_in_range
    (omega (arith, found.2.1)) (low_segment z a.segment v stands.within.0) (low_row z a.row v stands.within.1) (is ∙ found.2.2) in
    record { slot = a; here = found.1; tag = same.0; segment = sym same.1; row = sym same.2 }

pub named_later : (b : Board) (p q : Pass) (bucket : ℕ) (place : Place) (read : Item) → Idles b p q → HasBit b.shape (trace p) (number p) bucket → IsInChain b bucket place p
    → IsNamed b.shape (trace p) bucket (position b.shape (trace p) place) read → IsNamed b.shape (trace q) bucket (position b.shape (trace q) place) read
named_later b p q bucket place read i bit chain name = record {
  slot = name.slot;
  here = (λ t. (idle_bucket b p q bucket i bit t).items (same_position b [] p q bucket place i.moved chain t)) ∙ name.here;
  tag = name.tag;
  segment = name.segment;
  row = name.row;
}

-- with the bit of an item's bucket, a pass may read the item's row, and those behind it
may_read_named : (z : Shape) (h : List Event) (pass b n : ℕ) (a : Slot) (s r : ℕ) → HasBit z h pass b
    → (bucket_after z h b).items n ≡ item a → a.segment ≡ s → a.row ≡ r → MayReadItem z h pass s r
may_read_named z h pass b n a s r bit here es er = λ other covered within. inr (inr (
  b,
  n,
  a,
  bit,
  here,
  es,
  subst (λ f. covers f (span_in h s f) other ≡ true) (sym er) covered,
))

-- the pass may read its row
pub item_readable : (b : Board) (p : Pass) (bucket n : ℕ) (read : Item) → IsPassOf b p
    → HasBit b.shape (trace p) (number p) bucket → IsNamed b.shape (trace p) bucket n read
    → IsReadable b p read.seg read.row
item_readable b p bucket n read is bit name =
    let stands = (coherent b.shape (trace p) is.lawful).items bucket n name.slot name.here in (
      subst (λ s. s < b.shape.passes * b.shape.segments_each) name.segment stands.within.0,
      subst (λ r. r < b.shape.rows) name.row stands.within.1,
      may_read_named b.shape (trace p) (number p) bucket n name.slot read.seg read.row bit name.here name.segment name.row,
    )

-- where its row is that of the key, so is the item
pub row_tells : (z : Shape) (h : List Event) (b n : ℕ) (key : List ℕ) (read : Item) (found : Type 0) → IsLawful z h → IsNamed z h b n read
    → ((held value : List ℕ) → IsKey held → IsValue value → Holds (row_after h read.seg read.row) held value → found ↔ (held ≡ key))
    → found ↔ ((a : Slot) × ((bucket_after z h b).items n ≡ item a) × (a.key ≡ key))
row_tells z h b n key read found l name tells =
    let a = name.slot in let stands = (coherent z h l).items b n a name.here in
    let row : Holds (row_after h read.seg read.row) a.key stands.value =
    subst (λ s. Holds (row_after h s read.row) a.key stands.value) name.segment
    (subst (λ r. Holds (row_after h a.segment r) a.key stands.value) name.row stands.holds) in
    let same = tells a.key stands.value stands.valid.0 stands.valid.1 row in
    (λ y. (a, name.here, same.0 y), λ has. same.1 (ap (λ (x : Slot). x.key) (same_item a has.0 (sym name.here ∙ has.1)) ∙ has.2))

-- the word of the key's item has the key's tag
pub tag_is : (z : Shape) (h : List Event) (b n word : ℕ) (key : List ℕ) → IsValid z → IsLawful z h
    → IsWordOfContent ((bucket_after z h b).items n) word
    → ((a : Slot) × ((bucket_after z h b).items n ≡ item a) × (a.key ≡ key)) → word / 2 ^ 52 ≡ tag_of key
tag_is z h b n word key v l reads has =
    let a = has.0 in let stands = (coherent z h l).items b n a has.1 in
    let is = (subst (λ x. IsWordOfContent x word) has.1 reads).0 in
    ap (λ w. w / 2 ^ 52) is.2 ∙ (tag_of_word (tag_of a.key) is.0 a.segment a.row is.1 (low_segment z a.segment v stands.within.0) (low_row z a.row v stands.within.1) ∙ ap tag_of has.2)
