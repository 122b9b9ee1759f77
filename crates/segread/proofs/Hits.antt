-- The value of a hit, read from within its segment, and what the hit raises.
use Rattle.std.proofs.Common.{◌≡◌, ℕ, ◌<◌, List, [], ◌++◌, sym, ap, ◌∙◌, subst, append_assoc, refl}
use Rattle.segword.specs.Words.{IsKey, IsValue, Item, item_word, Shape}
use Rattle.segmodel.specs.Words.{Begins}
use Rattle.segcore.specs.Words.{Event, Holds, inside, IsLawful, NoneRefills, Row, row_after}
use Rattle.segcore.proofs.Moments.{begins_on, lawful_before}
use Rattle.segbase.specs.Words.{AddsEvents, Board, number, Pass, Place, trace}
use Rattle.segbase.proofs.Alone.{moved_alone}
use Rattle.segbase.proofs.Moves.{moved_on, is_inside}
use Rattle.segbase.proofs.Staying.{none_both}
use Rattle.segstore.specs.Words.{FoundItem, FoundKey, HoldsPair, IsReadable, IsReader, IsReaderIn}
use Rattle.segstore.specs.Words.{LeavesSegment, RaisesNothing, ReadsRow, row_part, segment_part}
use Rattle.segstore.proofs.Readers.{looks, then_reader, leave_then}
use Rattle.segstore.proofs.Seconds.{segment_of_item, found_holds, found_readable, found_value, row_of_item}
use Rattle.segread.specs.Hits.{RaisesFrom}
use Rattle.segread.proofs.ItemRows.{found_rows, item_stays}
use Rattle.segread.proofs.Raising.{raises_after, raises_sooner}

-- with p the pass before the scan, q in the item's segment, and v after its row was read
pub hit_readable : (b : Board) (p q : Pass) (place : Place) (item : Item) (header : ℕ) (key : List ℕ)
    → IsReaderIn b p q item.seg → FoundKey b.shape place item header key (trace p) (trace q)
    → IsReadable b q item.seg item.row
hit_readable b p q place item header key i f = found_readable b q place item header key (trace p) i.reads.moved.pass (is_inside b p q item.seg i.reads) f

pub read_in : (b : Board) (p q v : Pass) (s r : ℕ) → IsReaderIn b p q s → ReadsRow b q v s r → IsReaderIn b p v s
read_in b p q v s r i reads = then_reader b p q v s i (looks b q v reads.looked)

-- its row holds a pair
pub holds_pair : (place : Place) (item : Item) (header : ℕ) (key : List ℕ) (z : Shape) (h g : List Event) → FoundKey z place item header key h g → HoldsPair (row_after g item.seg item.row)
holds_pair place item header key z h g f = let was = f.found.saw.was in record {
  key = key;
  value = f.value;
  is_key = was.valid.0;
  is_value = was.valid.1;
  holds = found_holds place item key f.value z h g f.found;
}

-- the whole way of a hit: its value is read, it is counted, and the segment left
pub read_and_left : (b : Board) (p q v t r : Pass) (segment row : ℕ) → IsReaderIn b p q segment → ReadsRow b q v segment row → IsReader b v t → LeavesSegment b t r segment → IsReader b p r
read_and_left b p q v t r segment row i reads counted out = leave_then b p t r segment (then_reader b p v t segment (read_in b p q v segment row i reads) counted) out

pub read_value : (b : Board) (p q v : Pass) (place : Place) (item : Item) (header : ℕ) (key value : List ℕ)
    → IsReaderIn b p q item.seg → FoundKey b.shape place item header key (trace p) (trace q)
    → ReadsRow b q v item.seg item.row
    → ((k w : List ℕ) → IsKey k → IsValue w → Holds (row_after (trace v) item.seg item.row) k w → value ≡ w) → FoundItem b.shape place (item_word item) key value (trace p) (trace v)
read_value b p q v place item header key value i f reads is = found_value b q v place item header key value (trace p) (is_inside b p q item.seg i.reads) f reads is

-- what was found is so still, while the pass only looks
pub found_on : (b : Board) (p q : Pass) (place : Place) (item : Item) (key value : List ℕ) (h : List Event)
    → 0 < inside (trace p) (number p) item.seg → AddsEvents b [] p q
    → FoundItem b.shape place (item_word item) key value h (trace p)
    → FoundItem b.shape place (item_word item) key value h (trace q)
found_on b p q place item key value h there m f =
    let s = segment_part (item_word item) in let r = row_part (item_word item) in
    let lawful : IsLawful b.shape (m.more ++ trace p) = subst (IsLawful b.shape) m.goes_on m.pass.lawful in
    let none : NoneRefills s m.more = subst (λ s. NoneRefills s m.more) (segment_of_item item) (m.kept item.seg there) in record {
      saw = record { at = f.saw.at; between = (f.saw.between.0, begins_on f.saw.at (trace p) (trace q) f.saw.between.1 (moved_on b [] p q m)); was = f.saw.was };
      kept = (m.more ++ f.kept.0, m.goes_on ∙ (ap (λ x. m.more ++ x) f.kept.1 ∙ sym (append_assoc m.more f.kept.0 f.saw.at)), none_both s m.more f.kept.0 none f.kept.2);
      still = ap (λ g. row_after g s r) m.goes_on
          ∙ (item_stays b.shape m.more (trace p) s r key lawful none
          (found_rows b.shape h (trace p) place (item_word item) key value m.pass.valid (lawful_before b.shape m.more (trace p) lawful) f) ∙ f.still);
      alone = λ one. moved_alone b [] p q m one ∙ f.alone one;
    }

-- the row of an item, by the item's word
pub same_row : (item : Item) (h : List Event) → row_after h item.seg item.row ≡ row_after h (segment_part (item_word item)) (row_part (item_word item))
same_row item h = λ j. row_after h (segment_of_item item j) (row_of_item item j)

unfoldable pub key_on : (b : Board) (p q : Pass) (place : Place) (item : Item) (header : ℕ) (key : List ℕ) (h : List Event)
    → 0 < inside (trace p) (number p) item.seg → AddsEvents b [] p q
    → FoundKey b.shape place item header key h (trace p) → FoundKey b.shape place item header key h (trace q)
unfolding found_on
key_on b p q place item header key h there m f = let on = found_on b p q place item key f.value h there m f.found in record {
  value = f.value;
  found = on;
  begins = f.begins ∙ ap (λ (row : Row). row.words 0) (same_row item (trace p) ∙ (f.found.still ∙ (sym on.still ∙ sym (same_row item (trace q)))));
}

-- the row holds what was found, and the item was found for that value
pub still_holds : (b : Board) (p q v : Pass) (place : Place) (item : Item) (header : ℕ) (key : List ℕ)
    → (f : FoundKey b.shape place item header key (trace p) (trace q))
    → ReadsRow b q v item.seg item.row → Holds (row_after (trace v) item.seg item.row) key f.value
still_holds b p q v place item header key f reads j lt =
    ap (λ (row : Row). row.words j) reads.same ∙ found_holds place item key f.value b.shape (trace p) (trace q) f.found j lt

pub still_found : (b : Board) (p q v : Pass) (place : Place) (item : Item) (header : ℕ) (key : List ℕ)
    → IsReaderIn b p q item.seg → (f : FoundKey b.shape place item header key (trace p) (trace q))
    → ReadsRow b q v item.seg item.row → FoundItem b.shape place (item_word item) key f.value (trace p) (trace v)
still_found b p q v place item header key i f reads =
    found_on b q v place item key f.value (trace p) (is_inside b p q item.seg i.reads) reads.looked.did.moved f.found

-- ---- what a hit raises

-- with p before the call, v before the frequency was raised, t after it, and r at the end
pub hit_raises : (b : Board) (key value : List ℕ) (draw : ℕ) (p v t r : Pass) → number v ≡ number p
    → Begins (trace p) (trace v) → Begins (trace t) (trace r) → RaisesNothing p v
    → RaisesFrom b.shape key value draw (trace p) v t → RaisesNothing t r
    → RaisesFrom b.shape key value draw (trace p) p r
hit_raises b key value draw p v t r same from to before one then =
    raises_sooner b.shape key value draw (trace p) p t r to
    (raises_after b.shape key value draw (trace p) (trace p) p v t same ([], refl) before one) then
