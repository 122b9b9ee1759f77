-- A quiet pass that takes a hold, reads it, or ends it, is quiet.
use Rattle.std.proofs.Common.{◌≡◌, ◌≢◌, ◌↔◌, ℕ, ◌+◌, ◌-◌, ◌<◌, Bool, true, false, cond, eqb, ◌&&◌, is_some, List, [], ◌∷◌, ◌++◌, Option, Some, None, IfSome, option_map, refl, sym, ap, ◌∙◌, subst, append_assoc, arith}
use Rattle.std.proofs.lemmas.Bool.{cond-true, eq-eqb, false≢true}
use Rattle.std.proofs.lemmas.Option.{none-some, same_Some}
use Rattle.segword.specs.Words.{Item, item_word, Shape}
use Rattle.segmodel.specs.declared.entry.Entry.TheVariants as entry
use Rattle.segmodel.specs.Words.{after, Begins, Entry, standing}
use Rattle.segmodel.specs.History as history
use Rattle.segcore.specs.declared.event.Event.TheVariants.{Left, Unlinked, Refilled}
use Rattle.segcore.specs.Event as event
use Rattle.segcore.specs.Words.{cached, Event, inside, IsLawful, IsSegment, NoneRefills, Row}
use Rattle.segcore.specs.Words.{row_after, View}
use Rattle.segcore.specs.declared.event.Leaving.TheVariants.{Deletes, Evicts}
use Rattle.segcore.proofs.Entered.{no_refill}
use Rattle.segcore.proofs.Moments.{begins_on, seen_begins}
use Rattle.segbase.specs.declared.pass.PlainPart.{PlainPart}
use Rattle.segbase.specs.Words.{AddsAtOnce, AddsEvents, Board, HasHeld, Held, holding}
use Rattle.segbase.specs.Words.{is_holding_of, IsMemo, IsPassOf, Locked, locked, locked_of, Memo}
use Rattle.segbase.specs.Words.{mine, number, OnlyReads, Pass, Place, seen, StartsAt, trace, view}
use Rattle.segbase.specs.Words.{with_holding}
use Rattle.segbase.proofs.Owned.{still_pass}
use Rattle.segbase.proofs.Staying.{none_both}
use Rattle.segbase.proofs.Moves.{moved_inside, moved_mine}
use Rattle.segstore.specs.Words.{ChangesNothing, DrawsNothing, FoundItem, GoesOn, is_held_in}
use Rattle.segstore.specs.Words.{IsHold, IsLock, IsQuiet, IsReadable, IsReader, IsReaderIn, memo}
use Rattle.segstore.specs.Words.{row_part, segment_part, TakesAtMost, TakesNoBit}
use Rattle.segread.specs.Costs.{most_steps_of_get}
use Rattle.segstore.proofs.Keeping.{stored_in, keeps}
use Rattle.segstore.proofs.Seconds.{segment_of_item, row_of_item}
use Rattle.segread.specs.Words.{HeldRow, HoldAnswer}
use Rattle.segread.specs.declared.held.HoldAnswer.TheVariants as answer
use Rattle.segread.specs.Hits.{OnlyScans, TriesFew}
use Rattle.segread.specs.Holds.{AreLinked, IsRowOf, IsHeldRow, TakesHold, IsHoldAnswer, HoldsItem, NoneFills, IsUnfilled, Releases, SetsHold}
use Rattle.segstore.proofs.Still.{then_minds}
use Rattle.segstore.proofs.Bits.{none_at_both, bit_before}
use Rattle.segstore.proofs.Draws.{moved_undrawn, reads_undrawn}
use Rattle.segread.proofs.ComingIn.{glances_none, raises_none}
use Rattle.segread.specs.Looking.{LooksFirst}
use Rattle.segread.proofs.Looking.{out, reads_from}
use Rattle.segread.proofs.Answered.{costs_from, unset_from}
use Rattle.segstore.proofs.TakenBits.{reader_takes_none}
use Rattle.segread.proofs.Holding.{held_at, held_from, held_past, held_deadline, held_stood, has_held, is_hold, held_row, held_rows, row_of_hold, rows_of_hold}
use Rattle.segread.proofs.ItemRows.{all_linked, AllLinked, are_linked, at_item, may_read_linked, was_linked}
use Rattle.segstore.proofs.Quiet.{has_lock, goes_on, reads_none}
use Rattle.segread.proofs.Reading.{reads_calm, reads_unseen, read_on}
use Rattle.segstore.proofs.UnderBit.{moved_none}
use Rattle.segread.specs.Scanning.{HasDeadline}
use Rattle.segmodel.proofs.HistoryLemmas.{stands_present}

-- ---- what the pass may keep in mind

if_held : (P : Held → Type 0) (o : Option Held) (held : Held) → IfSome o P → o ≡ Some held → P held
if_held P o held some is = subst (λ x. IfSome x P) is some

pub minds_hold : (b : Board) (p q : Pass) (held : Option Held) (some : Bool) → IsPassOf b p
    → IfSome held (HasHeld b.shape (trace p)) → q ≡ record p { plain = with_holding some p.plain } → IsPassOf b q
    × IsMemo b q (record (memo q) { holding = held })
minds_hold b p q held some is has same = subst (λ x. IsPassOf b x × IsMemo b x (record (memo x) { holding = held })) (sym same)
    (still_pass b p (with_holding some p.plain) is refl, record { holding = λ x here. if_held (HasHeld b.shape (trace p)) held x has here; locked = is.minds.locked })

pub sets_now : (p r q : Pass) (held : Option Held) (some : Bool) → some ≡ is_some held
    → r ≡ record p { plain = with_holding some p.plain } → q.plain ≡ r.plain
    → memo q ≡ record (memo r) { holding = held } → SetsHold held p q
sets_now p r q held some is set plain minds = record {
  plain = plain ∙ (ap (λ (x : Pass). x.plain) set ∙ ap (λ t. with_holding t p.plain) is);
  memo = minds ∙ ap (λ (x : Pass). record (memo x) { holding = held }) set;
}

-- ---- what a hold says

no_hold : (o : Option Held) → false ≡ is_some o → o ≡ None
no_hold None e = refl
no_hold (Some held) e = absurd (false≢true e)

pub hold_of : (b : Board) (p : Pass) (hold : HeldRow) → IsQuiet b p → (is : IsHeldRow b.shape hold p) → IsHold b.shape (trace p) is.held
hold_of b p hold quiet is = quiet.hold is.held is.holds

module _ (b : Board) (p : Pass) (hold : HeldRow) (quiet : IsQuiet b p) (is : IsHeldRow b.shape hold p) where
  rows_then : AllLinked is.held.trace is.held.segment hold.row is.held.key
  rows_then = subst (λ s. AllLinked is.held.trace s hold.row is.held.key) is.segment
      (all_linked is.held.trace hold.segment hold.row is.held.key is.stands.linked)

  pub row_now : row_after (trace p) hold.segment hold.row ≡ row_after is.held.trace hold.segment hold.row
  row_now = subst (λ s. row_after (trace p) s hold.row ≡ row_after is.held.trace s hold.row) (sym is.segment)
      (row_of_hold b.shape (trace p) is.held hold.row quiet.pass.lawful (hold_of b p hold quiet is) rows_then)

  pub rows_now : AllLinked (trace p) hold.segment hold.row is.held.key
  rows_now = subst (λ s. AllLinked (trace p) s hold.row is.held.key) (sym is.segment)
      (rows_of_hold b.shape (trace p) is.held hold.row quiet.pass.lawful (hold_of b p hold quiet is) rows_then)

  pub has_row : IsRowOf (trace p) hold is.held
  has_row = record {
    linked = are_linked (trace p) hold.segment hold.row is.held.key rows_now;
    pair = λ j lt. ap (λ (u : Row). u.words j) row_now ∙ is.stands.pair j lt;
  }

-- the pass is in the segment
pub is_inside : (b : Board) (p : Pass) (hold : HeldRow) → IsQuiet b p → IsHeldRow b.shape hold p → 0 < inside (trace p) (number p) hold.segment
is_inside b p hold quiet is =
    let one : inside (trace p) (number p) hold.segment ≡ 1 = quiet.inside hold.segment
    ∙ (ap (λ o. cond (is_held_in o hold.segment) 1 0) is.holds ∙ cond-true (eqb is.held.segment hold.segment) 1 0 (eq-eqb is.held.segment hold.segment (sym is.segment))) in
    omega arith

pub may_read : (b : Board) (p : Pass) (hold : HeldRow) → IsQuiet b p → IsHeldRow b.shape hold p → IsReadable b p hold.segment hold.row
may_read b p hold quiet is = (
  is.in_table.0,
  is.in_table.1,
  may_read_linked b.shape (trace p) (number p) hold.segment hold.row is.held.key (is_inside b p hold quiet is) (rows_now b p hold quiet is),
)

pub stays : (shape : Shape) (hold : HeldRow) (p q : Pass) → IsHeldRow shape hold p → holding q ≡ holding p → IsHeldRow shape hold q
stays shape hold p q is same = record { held = is.held; holds = same ∙ is.holds; segment = is.segment; in_table = is.in_table; valid = is.valid; stands = is.stands }

-- ---- quiet again

-- what a reader does, and then what the pass says of its hold
module _ (b : Board) (own : List Event) (held : Option Held) (p r q : Pass) (quiet : IsQuiet b p)
    (m : AddsEvents b own p r) (only : OnlyReads own) (plain : r.plain ≡ p.plain) (same : memo r ≡ memo p)
    (is : IsPassOf b q) (view_is : view q ≡ view r) (sets : SetsHold held r q) where
  pub moved_to : AddsEvents b own p q
  moved_to = then_minds b own p r q m view_is is

  pub entries_stay : mine q ≡ mine p
  entries_stay = moved_mine b own p q moved_to ∙ ap (history.mine (number p)) (reads_unseen own (trace p) only)

  pub sets_hold : SetsHold held p q
  sets_hold = record { plain = sets.plain ∙ ap (with_holding (is_some held)) plain; memo = sets.memo ∙ ap (λ (m : Memo). record m { holding = held }) same }

  locked_stays : locked_of q ≡ locked_of p
  locked_stays = ap (λ (x : PlainPart). x.locked) sets_hold.plain

  holding_now : holding q ≡ held
  holding_now = ap (λ (m : Memo). m.holding) sets_hold.memo

  lock_stays : (lock : Locked) → locked q ≡ Some lock → IsLock b.shape (trace q) (number q) lock
  lock_stays lock here =
      let before : locked p ≡ Some lock = sym (ap (λ (m : Memo). m.locked) sets_hold.memo) ∙ here in
      let old = quiet.lock lock before in record {
        more = moved_to.more ++ old.more;
        since = moved_to.goes_on ∙ (ap (λ h. moved_to.more ++ h) old.since ∙ sym (append_assoc moved_to.more old.more lock.trace));
        bit = (old.bit.0, old.bit.1 ∙ ap Some (sym moved_to.same));
        unwritten = old.unwritten;
        undrawn = old.undrawn;
        still = none_at_both b.shape lock.bucket moved_to.more old.more
            (moved_none b own p q lock.bucket moved_to (has_lock b p lock quiet before).bit
            (reads_none b.shape lock.bucket own only)) old.still;
      }

  pub goes_on_holding : ((s : ℕ) → inside (trace q) (number p) s ≡ (let n : ℕ = cond (is_held_in held s) 1 0 in n)) → ((hold : Held) → held ≡ Some hold → IsHold b.shape (trace r) hold) → GoesOn b p q
  goes_on_holding readings hold = goes_on b own p q moved_to (record {
    pass = is;
    segments = keeps b own p q moved_to (reads_calm own only) (ap stored_in sets_hold.plain) quiet.segments;
    locks = locked_stays ∙ (quiet.locks ∙ ap (λ (m : Memo). option_map (λ (lock : Locked). lock.bucket) m.locked) (sym sets_hold.memo));
    bits = λ bucket has. locked_stays ∙ quiet.bits bucket (bit_before b own p q bucket moved_to (reads_none b.shape bucket own only) has);
    lock = lock_stays;
    holds = ap (λ (x : PlainPart). x.is_holding) sets_hold.plain ∙ ap is_some (sym holding_now);
    inside = λ s. ap (λ n. inside (trace q) n s) moved_to.same ∙ (readings s ∙ ap (λ o. cond (is_held_in o s) 1 0) (sym holding_now));
    hold = λ x here. subst (λ (v : View). IsHold b.shape v.trace x) (sym view_is) (hold x (sym holding_now ∙ here));
  })

  pub takes_no_bit : TakesNoBit p q
  takes_no_bit = reader_takes_none b own p q moved_to only

  pub draws_nothing : DrawsNothing p q
  draws_nothing = moved_undrawn b own p q moved_to (reads_undrawn own only)

-- ---- a hold

module _ (b : Board) (p r q : Pass) (place : Place) (item : Item) (key value : List ℕ) (hold : HeldRow) (quiet : IsQuiet b p) (free : false ≡ is_holding_of p) (reads : IsReaderIn b p r item.seg)
    (found : FoundItem b.shape place (item_word item) key value (trace p) (trace r)) (segment : hold.segment ≡ item.seg) (row : hold.row ≡ item.row) (is : IsPassOf b q)
    (view_is : view q ≡ view r) (sets : SetsHold (Some (held_at b.shape (trace r) key value item.seg)) r q) where
  abbrev z : Shape
  z = b.shape

  abbrev at : List Event
  at = found.saw.at

  abbrev held : Held
  held = held_at z (trace r) key value item.seg

  es : item.seg ≡ segment_part (item_word item)
  es = segment_of_item item

  same_row : row_after at item.seg item.row ≡ row_after at (segment_part (item_word item)) (row_part (item_word item))
  same_row = λ j. row_after at (es j) (row_of_item item j)

  lawful : IsLawful z (trace r)
  lawful = reads.reads.moved.pass.lawful

  kept : (more : List Event) × (trace r ≡ more ++ at) × NoneRefills item.seg more
  kept = (found.kept.0, found.kept.1, subst (λ s. NoneRefills s found.kept.0) (sym es) found.kept.2)

  stands : standing (after z (event.seen at)) key ≡ Some (cached value item.seg)
  stands = found.saw.was.stands ∙ ap (λ s. Some (cached value s)) (sym es)

  all_then : AllLinked at item.seg item.row key
  all_then = at_item item at key
      (was_linked z at place (item_word item) key value reads.reads.moved.pass.valid found.saw.was)

  row_then : row_after held.trace hold.segment hold.row ≡ row_after at (segment_part (item_word item)) (row_part (item_word item))
  row_then = (λ j. row_after held.trace (segment j) (row j))
      ∙ (held_row z key value item.seg item.row at (trace r) lawful kept stands all_then ∙ same_row)

  rows_held : AreLinked held.trace hold.segment hold.row key
  rows_held = are_linked held.trace hold.segment hold.row key
      (subst (λ s. AllLinked held.trace s hold.row key) (sym segment)
      (subst (λ n. AllLinked held.trace item.seg n key) (sym row)
      (held_rows z key value item.seg item.row at (trace r) lawful kept stands all_then)))

  abbrev is_hold_of : IsHeldRow z hold q
  is_hold_of = let was = found.saw.was in record {
    held = held;
    holds = ap (λ (m : Memo). m.holding) sets.memo;
    segment = segment;
    in_table = (subst (IsSegment z) (sym (segment ∙ es)) was.in_segment.0, subst (λ n. n < z.rows) (sym (row ∙ row_of_item item)) was.in_segment.1);
    valid = was.valid;
    stands = record { linked = rows_held; pair = λ j lt. ap (λ (u : Row). u.words j) row_then ∙ was.holds j lt };
  }

  in_no_segment : (s : ℕ) → inside (trace p) (number p) s ≡ 0
  in_no_segment s = quiet.inside s ∙ ap (λ o. cond (is_held_in o s) 1 0) (no_hold (holding p) (free ∙ quiet.holds))

  readings : (s : ℕ) → inside (trace q) (number p) s ≡ (let n : ℕ = cond (eqb item.seg s) 1 0 in n)
  readings s = ap (λ (v : View). inside v.trace (number p) s) view_is ∙ (reads.reads.inside s ∙ ap (λ n. cond (eqb item.seg s) (n + 1) n) (in_no_segment s))

  pub takes_hold : (now deadline : ℕ) → HasDeadline z item.seg deadline (trace r) → now < deadline
      → (start : List Event) → StartsAt p q start → Begins start at → GoesOn b p q × TakesHold z key now hold p q
  takes_hold now deadline had before start first since = (
    goes_on_holding b reads.reads.own (Some held) p r q quiet reads.reads.moved reads.reads.only reads.plain reads.memo is view_is sets readings
        (λ x here. subst (IsHold z (trace r)) (same_Some held x here) (is_hold z key value item.seg item.row at (trace r) lawful kept stands)),
    record {
      is = is_hold_of;
      of = refl;
      finds = stands_present (after z (event.seen held.trace)) key value item.seg deadline now (held_stood z key value item.seg item.row at (trace r) lawful kept stands).stands
          (held_deadline z key value item.seg item.row at (trace r) lawful kept stands deadline had) before;
      between = (
        start,
        first,
        (
          seen_begins start held.trace (begins_on start at held.trace since (held_from z key value item.seg item.row at (trace r) lawful kept stands)),
          seen_begins held.trace (trace q) (subst (λ (v : View). Begins held.trace v.trace) (sym view_is) (held_past z key value item.seg item.row at (trace r) lawful kept stands)),
        ),
      );
      entries = entries_stay b reads.reads.own (Some held) p r q quiet reads.reads.moved reads.reads.only reads.plain reads.memo is view_is sets;
      sets = sets_hold b reads.reads.own (Some held) p r q quiet reads.reads.moved reads.reads.only reads.plain reads.memo is view_is sets;
    },
  )

-- no item was found; with m right after the first look
pub holds_none : (b : Board) (key : List ℕ) (now : ℕ) (told : HoldAnswer) (p m q : Pass) → IsQuiet b p
    → LooksFirst b p m → IsReader b m q → TakesAtMost most_steps_of_get p q → TriesFew m q → OnlyScans m q
    → (ChangesNothing p q → IsHoldAnswer b.shape key now told p q)
    → ((told ≡ answer.AlreadyHolding) ↔ (is_holding_of p ≡ true)) → HoldsItem b key now told p q
holds_none b key now told p m q quiet l i steps few only then already = let on =
    read_on b p q quiet (reads_from b key p m l q i).reads (reads_from b key p m l q i).plain
    (reads_from b key p m l q i).memo in record {
      on = on.0;
      answer = then on.1;
      already = already;
      costs = record {
        looks = costs_from b key p m q l i few;
        steps = steps;
        glances_nothing = unset_from b key p m q l i (glances_none m q only);
        raises_nothing = raises_none p q (only ∙ (out b key p m l).1);
      };
    }

-- what the pass may keep in mind of what it found
pub has_found : (b : Board) (p r : Pass) (place : Place) (item : Item) (key value : List ℕ)
    → IsReaderIn b p r item.seg → FoundItem b.shape place (item_word item) key value (trace p) (trace r)
    → HasHeld b.shape (trace r) (held_at b.shape (trace r) key value item.seg)
has_found b p r place item key value reads found =
    let es = segment_of_item item in
    has_held b.shape key value item.seg item.row found.saw.at (trace r) reads.reads.moved.pass.lawful
    (found.kept.0, found.kept.1, subst (λ s. NoneRefills s found.kept.0) (sym es) found.kept.2)
    (found.saw.was.stands ∙ ap (λ s. Some (cached value s)) (sym es))

-- ---- its end

abbrev filled_in : Option Entry → Option ℕ
filled_in (Some (entry.Refilled p s d)) = Some s
filled_in o = None

no_entry : (e : Event) (s : ℕ) → ((p d : ℕ) → e ≢ Refilled p s d) → (p d : ℕ) → event.entry_of e ≢ Some (entry.Refilled p s d)
no_entry (Refilled q t f) s other p d same = other q f (ap (λ x. Refilled q x f) (same_Some t s (ap filled_in same)))
no_entry (Unlinked q k n (Deletes m)) s other p d same = none-some s (ap filled_in same)
no_entry (Unlinked q k n (Evicts t)) s other p d same = none-some s (ap filled_in same)
no_entry e s other p d same = none-some s (ap filled_in same)

none_filled : (s : ℕ) (o : Option Entry) (before now : List Entry) → ((p d : ℕ) → o ≢ Some (entry.Refilled p s d)) → (more : List Entry) × (now ≡ more ++ before) × NoneFills s more
    → (more : List Entry) × (event.with_entry o now ≡ more ++ before) × NoneFills s more
none_filled s None before now other x = x
none_filled s (Some e) before now other x = (e ∷ x.0, ap (λ h. e ∷ h) x.1, ((λ p d same. other p d (ap Some same)), x.2))

-- events that refill no segment add no such entry
unfilled : (s : ℕ) (more h : List Event) → NoneRefills s more → (entries : List Entry) × (event.seen (more ++ h) ≡ entries ++ event.seen h) × NoneFills s entries
unfilled s [] h none = ([], refl, tt)
unfilled s (e ∷ more) h none = none_filled s (event.entry_of e) (event.seen h) (event.seen (more ++ h)) (no_entry e s none.0) (unfilled s more h none.1)

left_once : (t : Bool) → (let n : ℕ = cond t (cond t 1 0 - 1) (cond t 1 0) in n) ≡ 0
left_once true = refl
left_once false = refl

module _ (b : Board) (p r q : Pass) (hold : HeldRow) (quiet : IsQuiet b p) (of : IsHeldRow b.shape hold p)
    (did : AddsAtOnce b (Left (number p) hold.segment ∷ []) p r) (plain : r.plain ≡ p.plain)
    (same : memo r ≡ memo p) (is : IsPassOf b q) (view_is : view q ≡ view r) (sets : SetsHold None r q) where
  abbrev own : List Event
  own = Left (number p) hold.segment ∷ []

  was_inside : (s : ℕ) → inside (trace p) (number p) s ≡ (let n : ℕ = cond (eqb hold.segment s) 1 0 in n)
  was_inside s = quiet.inside s ∙ (ap (λ o. cond (is_held_in o s) 1 0) of.holds ∙ ap (λ x. cond (eqb x s) 1 0) (sym of.segment))

  left : (s : ℕ) → inside (own ++ trace p) (number p) s ≡ 0
  left s = ap (λ t. cond (t && eqb hold.segment s) (inside (trace p) (number p) s - 1) (inside (trace p) (number p) s)) (eq-eqb (number p) (number p) refl)
      ∙ (ap (λ n. cond (eqb hold.segment s) (n - 1) n) (was_inside s) ∙ left_once (eqb hold.segment s))

  none_refilled : (held : Held) → holding p ≡ Some held → IsUnfilled held (seen q)
  none_refilled held here =
      let old = quiet.hold held here in
      let segment : hold.segment ≡ held.segment = of.segment ∙ ap (λ (x : Held). x.segment) (same_Some of.held held (sym of.holds ∙ here)) in
      let none : NoneRefills held.segment did.others =
      subst (λ s. NoneRefills s did.others) segment
      (no_refill b.shape did.others (trace p) (number p) hold.segment quiet.pass.one_of did.before did.none
      (is_inside b p hold quiet of)) in
      let x = unfilled held.segment (did.others ++ old.more) held.trace (none_both held.segment did.others old.more none old.kept) in
      let now : trace q ≡ Left (number p) hold.segment ∷ ((did.others ++ old.more) ++ held.trace) =
      ap (λ (v : View). v.trace) view_is ∙ (did.now ∙ ap (λ h. Left (number p) hold.segment ∷ h) (ap (λ h. did.others ++ h) old.since ∙ sym (append_assoc did.others old.more held.trace))) in
      (x.0, ap event.seen now ∙ x.1, x.2)

  pub releases : GoesOn b p q × Releases p q
  releases = (
    goes_on_holding b own None p r q quiet did.moved (tt, tt) plain same is view_is sets
        (λ s. ap (λ (v : View). inside v.trace (number p) s) view_is ∙ (moved_inside b own p r s did.moved ∙ left s))
        (λ x here. absurd (none-some x here)),
    record {
      entries = entries_stay b own None p r q quiet did.moved (tt, tt) plain same is view_is sets;
      sets = sets_hold b own None p r q quiet did.moved (tt, tt) plain same is view_is sets;
      unfilled = none_refilled;
    },
  )
