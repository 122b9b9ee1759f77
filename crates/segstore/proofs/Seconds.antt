-- A second look at an item word, and reads of the item's row after it.
use Rattle.std.proofs.Common.{◌≡◌, ℕ, ◌/◌, ◌^◌, ◌<◌, ◌≤◌, List, [], ◌++◌, Option, Some, refl, sym, ap, ◌∙◌, subst, append_assoc}
use Rattle.std.specs.Prelude.{IfSome}
use Rattle.segword.specs.Words.{IsKey, IsSameItem, IsValue, Item, item_word, Shape}
use Rattle.segcore.specs.Words.{Event, Holds, inside, IsSegment, look, NoneRefills, Row, row_after}
use Rattle.segbase.specs.Words.{AddsAtOnce, Board, cell_at, IsPassOf, number, Pass, Place, Stepped, trace}
use Rattle.segcore.proofs.Moments.{begins_on}
use Rattle.segbase.proofs.Alone.{moved_alone}
use Rattle.segbase.proofs.Moves.{moved_inside, moved_on}
use Rattle.segbase.proofs.Staying.{none_both}
use Rattle.segstore.specs.Reading.{OnlyLooks, IsReadable, ReadsRow}
use Rattle.segstore.specs.Linked.{segment_part, row_part, word_of_place, IsChained, WasLinked, SawItem, FoundItem, FoundKey, SeesAgain}
use Rattle.segstore.proofs.LinkedRows.{AllLinked, found_rows, may_read_linked, was_linked}
use Rattle.segstore.proofs.Looks.{looked_then}
use Rattle.segstore.proofs.Words.{segment_of_packed, row_of_packed, same_segment, chained_later, stood_item}

-- the segment and the row of an item are those of its word
pub segment_of_item : (item : Item) → item.seg ≡ segment_part (item_word item)
segment_of_item item = sym (segment_of_packed item.tag item.freq item.seg item.row item.seg_in_range item.row_in_range)

pub row_of_item : (item : Item) → item.row ≡ row_part (item_word item)
row_of_item item = sym (row_of_packed item.tag item.freq item.seg item.row item.row_in_range)

-- they name one row
same_names : (item : Item) (h : List Event) → row_after h item.seg item.row ≡ row_after h (segment_part (item_word item)) (row_part (item_word item))
same_names item h = λ j. row_after h (segment_of_item item j) (row_of_item item j)

pub unpacked : (o : Option Item) (item : Item) (w : ℕ) → IfSome o (λ item. item_word item ≡ w) → o ≡ Some item → item_word item ≡ w
unpacked o item w some is = subst (λ x. IfSome x (λ item. item_word item ≡ w)) is some

-- a look at a place
pub looked_at : (b : Board) (p q : Pass) (place : Place) (found : ℕ) → Stepped b (look (cell_at b.shape place)) found p q → OnlyLooks b p q
looked_at b p q place found st = record { did = st.did; plain = st.plain; memo = st.memo }

-- a pass that is in its segment may read all rows of an item that are linked to its key
pub at_item : (item : Item) (h : List Event) (key : List ℕ) → AllLinked h (segment_part (item_word item)) (row_part (item_word item)) key → AllLinked h item.seg item.row key
at_item item h key all =
    subst (λ s. AllLinked h s item.row key) (sym (segment_of_item item))
    (subst (λ r. AllLinked h (segment_part (item_word item)) r key) (sym (row_of_item item)) all)

may_read_item : (b : Board) (p : Pass) (place : Place) (item : Item) (key value : List ℕ) (at : List Event) → WasLinked b.shape place (item_word item) key value at
    → AllLinked (trace p) (segment_part (item_word item)) (row_part (item_word item)) key → 0 < inside (trace p) (number p) item.seg → IsReadable b p item.seg item.row
may_read_item b p place item key value at was all there = (
  subst (IsSegment b.shape) (sym (segment_of_item item)) was.in_segment.0,
  subst (λ r. r < b.shape.rows) (sym (row_of_item item)) was.in_segment.1,
  may_read_linked b.shape (trace p) (number p) item.seg item.row key there (at_item item (trace p) key all),
)

-- what the second look leaves, where it found the item that it was taken for
pub sees_again : (b : Board) (p q : Pass) (place : Place) (word now : ℕ) (item : Item) → AddsAtOnce b [] p q → IsChained b.shape (trace p) place → 0 < inside (trace p) (number p) (segment_part word)
    → now ≡ word_of_place b.shape (trace q) place → IsSameItem word now → item_word item ≡ now → SeesAgain b place word item q
sees_again b p q place word now item d c there is same of =
    let here : word_of_place b.shape (trace q) place ≡ item_word item = sym is ∙ sym of in
    let same' : IsSameItem word (item_word item) = subst (IsSameItem word) (sym of) same in
    let tag : 1 ≤ item_word item / 2 ^ 52 = subst (λ n. 1 ≤ n) same'.1 same'.0 in
    let s = stood_item b.shape (trace q) place (item_word item) d.moved.pass.valid d.moved.pass.lawful
    (chained_later b.shape (trace p) (trace q) place d.moved.pass.lawful (moved_on b [] p q d.moved) c) here tag
    in
    let es = segment_of_item item in
    let e : inside (trace q) (number q) item.seg ≡ inside (trace p) (number p) (segment_part word) =
    ap (λ n. inside (trace q) n item.seg) d.moved.same ∙ (ap (inside (trace q) (number p)) (es ∙ sym (same_segment word (item_word item) same')) ∙ moved_inside b [] p q (segment_part word) d.moved) in
    record {
      same = same';
      key = s.0;
      value = s.1;
      was = s.2;
      entered = subst (λ n. 0 < n) (sym e) there;
      readable = may_read_item b q place item s.0 s.1 (trace q) s.2
          (was_linked b.shape (trace q) place (item_word item) s.0 s.1 d.moved.pass.valid s.2) (subst (λ n. 0 < n) (sym e) there);
    }

-- ---- reads of the row after it

pub holds_item : (b : Board) (q t : Pass) (place : Place) (item : Item) (key value : List ℕ)
    → WasLinked b.shape place (item_word item) key value (trace q) → ReadsRow b q t item.seg item.row
    → Holds (row_after (trace t) item.seg item.row) key value
holds_item b q t place item key value was reads j lt =
    ap (λ (x : Row). x.words j) (reads.same ∙ same_names item (trace q)) ∙ was.holds j lt

abbrev pub saw_item : (b : Board) (p q t : Pass) (place : Place) (w : ℕ) (key value : List ℕ) → OnlyLooks b p q
    → OnlyLooks b q t → WasLinked b.shape place w key value (trace q)
    → SawItem b.shape place w key value (trace p) (trace t)
saw_item b p q t place w key value d l was = record { at = trace q; between = (moved_on b [] p q d.did.moved, moved_on b [] q t l.did.moved); was = was }

pub found_item : (b : Board) (p q t : Pass) (place : Place) (item : Item) (key value : List ℕ) → OnlyLooks b p q
    → WasLinked b.shape place (item_word item) key value (trace q) → 0 < inside (trace q) (number q) item.seg
    → ReadsRow b q t item.seg item.row → FoundItem b.shape place (item_word item) key value (trace p) (trace t)
found_item b p q t place item key value d was entered reads = let m = reads.looked.did.moved in record {
  saw = saw_item b p q t place (item_word item) key value d reads.looked was;
  kept = (m.more, m.goes_on, subst (λ s. NoneRefills s m.more) (segment_of_item item) (m.kept item.seg entered));
  still = sym (same_names item (trace t)) ∙ (reads.same ∙ same_names item (trace q));
  alone = moved_alone b [] q t m;
}

-- by other names
pub found_as : (z : Shape) (h g : List Event) (place : Place) (w : ℕ) (key value key' value' : List ℕ) → key ≡ key'
    → value' ≡ value → FoundItem z place w key value h g → FoundItem z place w key' value' h g
found_as z h g place w key value key' value' ek ev found = subst (λ k. FoundItem z place w k value' h g) ek (subst (λ v. FoundItem z place w key v h g) (sym ev) found)

pub then_row : (b : Board) (p q t : Pass) (s r : ℕ) → OnlyLooks b p q → ReadsRow b q t s r → OnlyLooks b p t
then_row b p q t s r l reads = looked_then b p q t l reads.looked

-- ---- the value of an item that was found, read later

pub found_readable : (b : Board) (p : Pass) (place : Place) (item : Item) (header : ℕ) (key : List ℕ)
    (h : List Event) → IsPassOf b p → 0 < inside (trace p) (number p) item.seg → FoundKey b.shape place item header key h (trace p)
    → IsReadable b p item.seg item.row
found_readable b p place item header key h is there f =
    may_read_item b p place item key f.value f.found.saw.at f.found.saw.was (found_rows b.shape h (trace p) place (item_word item) key f.value is.valid is.lawful f.found) there

-- the row of an item that was found holds the pair
pub found_holds : (place : Place) (item : Item) (key value : List ℕ) (z : Shape) (h g : List Event) → FoundItem z place (item_word item) key value h g → Holds (row_after g item.seg item.row) key value
found_holds place item key value z h g f j lt = ap (λ (x : Row). x.words j) (same_names item g ∙ f.still) ∙ f.saw.was.holds j lt

-- and holds it still
holds_still : (b : Board) (p q : Pass) (place : Place) (item : Item) (key value : List ℕ) (h : List Event)
    → FoundItem b.shape place (item_word item) key value h (trace p) → ReadsRow b p q item.seg item.row
    → Holds (row_after (trace q) item.seg item.row) key value
holds_still b p q place item key value h f reads j lt =
    ap (λ (x : Row). x.words j) (reads.same ∙ (same_names item (trace p) ∙ f.still)) ∙ f.saw.was.holds j lt

pub found_value : (b : Board) (p q : Pass) (place : Place) (item : Item) (header : ℕ) (key value : List ℕ)
    (h : List Event) → 0 < inside (trace p) (number p) item.seg → FoundKey b.shape place item header key h (trace p)
    → ReadsRow b p q item.seg item.row
    → ((k v : List ℕ) → IsKey k → IsValue v → Holds (row_after (trace q) item.seg item.row) k v → value ≡ v) → FoundItem b.shape place (item_word item) key value h (trace q)
found_value b p q place item header key value h there f reads is =
    let m = reads.looked.did.moved in let saw = f.found.saw in
    let same = is key f.value saw.was.valid.0 saw.was.valid.1 (holds_still b p q place item key f.value h f.found reads) in
    found_as b.shape h (trace q) place (item_word item) key f.value key value refl same (record {
      saw = record { at = saw.at; between = (saw.between.0, begins_on saw.at (trace p) (trace q) saw.between.1 (moved_on b [] p q m)); was = saw.was };
      kept = (
        m.more ++ f.found.kept.0,
        m.goes_on
            ∙ (ap (λ x. m.more ++ x) f.found.kept.1 ∙ sym (append_assoc m.more f.found.kept.0 saw.at)),
        none_both (segment_part (item_word item)) m.more f.found.kept.0
            (subst (λ s. NoneRefills s m.more) (segment_of_item item) (m.kept item.seg there)) f.found.kept.2,
      );
      still = sym (same_names item (trace q)) ∙ (reads.same ∙ (same_names item (trace p) ∙ f.found.still));
      alone = λ one. moved_alone b [] p q m one ∙ f.found.alone one;
    })
