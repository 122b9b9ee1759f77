-- The deadline that a pass is told on coming into a segment lasts as long as it is there; so it says whether what was found there is present.
use Rattle.std.proofs.Common.{◌≡◌, ◌<◌, ◌≤◌, ℕ, List, [], ◌++◌, Option, Some, None, option_map, sym, ap, ◌∙◌, subst}
use Rattle.segword.specs.Words.{Item, item_word, Shape}
use Rattle.segmodel.specs.Words.{after, Begins, Cached, present}
use Rattle.segmodel.proofs.HistoryLemmas.{stands_present, stands_absent}
use Rattle.segcore.specs.Event as event
use Rattle.segcore.specs.Words.{cached, Event, inside, NoneRefills}
use Rattle.segcore.proofs.Deadlines.{same_deadline}
use Rattle.segcore.proofs.Moments.{begins_on, seen_begins}
use Rattle.segbase.specs.Words.{AddsEvents, Board, number, Pass, Place, seen, trace}
use Rattle.segbase.proofs.Moves.{is_inside, moved_on}
use Rattle.segstore.specs.Words.{FoundItem, IsReaderIn, LeavesSegment, ReadsRow, segment_part}
use Rattle.segstore.proofs.Seconds.{segment_of_item}
use Rattle.segread.specs.Reads.{ReadsBetween}
use Rattle.segread.specs.declared.scan.Hit.{Hit}
use Rattle.segread.specs.declared.scan.Scan.TheVariants as scan
use Rattle.segread.specs.Scanning.{HasDeadline, IsScanAnswer}

-- a segment that wasn't refilled since has the deadline that it had
pub deadline_since : (z : Shape) (more h : List Event) (segment deadline : ℕ) → NoneRefills segment more → HasDeadline z segment deadline h → HasDeadline z segment deadline (more ++ h)
deadline_since z more h segment deadline none had = same_deadline z more h segment none ∙ had

-- the pass is in the segment, and only looks
pub deadline_lasts : (b : Board) (p q : Pass) (segment deadline : ℕ) → AddsEvents b [] p q → 0 < inside (trace p) (number p) segment
    → HasDeadline b.shape segment deadline (trace p) → HasDeadline b.shape segment deadline (trace q)
deadline_lasts b p q segment deadline m there had =
    subst (HasDeadline b.shape segment deadline) (sym m.goes_on) (deadline_since b.shape m.more (trace p) segment deadline (m.kept segment there) had)

-- the segment of an item, by the item's word
pub by_word : (z : Shape) (item : Item) (deadline : ℕ) (h : List Event) → HasDeadline z item.seg deadline h → HasDeadline z (segment_part (item_word item)) deadline h
by_word z item deadline h had = subst (λ s. HasDeadline z s deadline h) (segment_of_item item) had

-- after the row of a hit was read, by the item's word
pub read_deadline : (b : Board) (p q v : Pass) (item : Item) (deadline : ℕ) → IsReaderIn b p q item.seg → ReadsRow b q v item.seg item.row
    → HasDeadline b.shape item.seg deadline (trace q) → HasDeadline b.shape (segment_part (item_word item)) deadline (trace v)
read_deadline b p q v item deadline i row had =
    by_word b.shape item deadline (trace v) (deadline_lasts b q v item.seg deadline row.looked.did.moved (is_inside b p q item.seg i.reads) had)

module _ (z : Shape) (place : Place) (w : ℕ) (key value : List ℕ) (h g : List Event) (found : FoundItem z place w key value h g) (deadline : ℕ) (has : HasDeadline z (segment_part w) deadline g) where
  -- the deadline at the moment at which the item was seen
  then : HasDeadline z (segment_part w) deadline found.saw.at
  then = sym (same_deadline z found.kept.0 found.saw.at (segment_part w) found.kept.2)
      ∙ subst (HasDeadline z (segment_part w) deadline) found.kept.1 has

  pub found_present : (now : ℕ) → now < deadline → present (after z (event.seen found.saw.at)) now key ≡ Some (cached value (segment_part w))
  found_present now before = stands_present (after z (event.seen found.saw.at)) key value (segment_part w) deadline now found.saw.was.stands then before

  moment : (f : List Event) → Begins g f → (now : ℕ) (read : Option (List ℕ)) → option_map (λ (item : Cached). item.value) (present (after z (event.seen found.saw.at)) now key) ≡ read
      → ReadsBetween z key now (event.seen h) (event.seen f) read
  moment f on now read is = let s = found.saw in
      (event.seen s.at, (seen_begins h s.at s.between.0, seen_begins s.at f (begins_on s.at g f s.between.1 on)), is)

  -- the item was read before its deadline
  pub found_reads : (f : List Event) → Begins g f → (now : ℕ) → now < deadline → ReadsBetween z key now (event.seen h) (event.seen f) (Some value)
  found_reads f on now before = moment f on now (Some value) (ap (option_map (λ (item : Cached). item.value)) (found_present now before))

  -- its deadline had come
  pub found_expired : (f : List Event) → Begins g f → (now : ℕ) → deadline ≤ now → ReadsBetween z key now (event.seen h) (event.seen f) None
  found_expired f on now past = moment f on now None
      (ap (option_map (λ (item : Cached). item.value)) (stands_absent (after z (event.seen found.saw.at)) key value (segment_part w) deadline now found.saw.was.stands then past))

-- a scan found an item whose deadline had come, and the pass left its segment
pub expired_reads : (b : Board) (key : List ℕ) (hit : Hit) (p q r : Pass) (now : ℕ)
    → IsScanAnswer b.shape key (scan.Found hit) (trace p) (trace q) → LeavesSegment b q r hit.item.seg
    → hit.deadline ≤ now
    → ReadsBetween b.shape key now (seen p) (seen r) None
expired_reads b key hit p q r now found gone past =
    found_expired b.shape hit.place (item_word hit.item) key found.0.value (trace p) (trace q) found.0.found
    hit.deadline (by_word b.shape hit.item hit.deadline (trace q) found.1) (trace r)
    (moved_on b _ q r gone.moved) now past
