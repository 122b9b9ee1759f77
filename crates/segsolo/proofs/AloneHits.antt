-- With one pass, a hit with the draw 0 raises the frequency of the row that the key's item names, as the model does.
use Rattle.std.proofs.Common.{◌≡◌, ℕ, ◌+◌, ◌<◌, ◌≤◌, ◌%◌, ◌&&◌, ◌||◌, nat_lt, Bool, true, false, cond, eqb, List, [], ◌∷◌, ◌++◌, Option, Some, None, option_map, refl, sym, ap, subst, ◌∙◌, inl, inr, append_assoc, arith, eq-eqb}
use Rattle.std.proofs.lemmas.Bool.{and_from, cases_lt, eqb-true, false≢true, lt-ltb}
use Rattle.std.proofs.lemmas.List.{append_cancel_right}
use Rattle.std.proofs.lemmas.Option.{none-some, same_Some}
use Rattle.segword.specs.Words.{Shape}
use Rattle.segpolicy.specs.Words.{draw_raises}
use Rattle.segmodel.specs.Words.{after, after_hit, Begins, Cached, Filling, higher, present, raised_in}
use Rattle.segmodel.specs.Words.{reads, standing, unless_expired, with_at}
use Rattle.segcore.specs.declared.event.Event.TheVariants.{Bumped}
use Rattle.segcore.specs.Event as event
use Rattle.segcore.specs.Mark as mark
use Rattle.segcore.specs.Words.{cached, entries, Event, frequency_in, last_at, Mark}
use Rattle.segcore.specs.Words.{raised as pass_raised, slot}
use Rattle.segcore.proofs.Marked.{entries_marked}
use Rattle.segcore.proofs.Moments.{marked_begins, seen_begins}
use Rattle.segbase.specs.declared.pass.PlainPart.{PlainPart}
use Rattle.segbase.specs.Words.{Board, count, marked, Memo, number, own_segment, Pass, seen}
use Rattle.segbase.specs.Words.{state_in, state_of, trace}
use Rattle.segstore.specs.Words.{ChangesNothing, DrawsNothing, GoesOn, RaisesNothing}
use Rattle.segread.specs.Hits.{CountsHit, PassesHit, RaisesFrom, RaisesOne}
use Rattle.segindex.proofs.Since.{raises_since}
use Rattle.segsolo.specs.Alone.{frequencies_in, item_of, IsAlone, or_empty, state_at}
use Rattle.segsolo.specs.Stored.{came_with, frequencies_of, items_stored_in, keys_stored_in}
use Rattle.segsolo.proofs.AlonePass.{at_state, left, same_moment, same_seen}
use Rattle.segsolo.proofs.AloneRefills.{by_segment, with_at-other, with_at-same}
use Rattle.segsolo.proofs.AloneRows.{added_entries, frequencies_still, raised_alone}
use Rattle.segsolo.proofs.AloneWidths.{same_widths}
use Rattle.segsolo.proofs.Grown.{entries_joined}
use Rattle.segsolo.proofs.Marks.{BringNothing, keeps_came, keeps_frequencies, keeps_lasts}
use Rattle.segsolo.proofs.Pairs.{all_raised, IsPaired, marked_paired, raised_joined}
use Rattle.segsolo.proofs.Rows.{items_some, raised_last}

-- what is found at a moment stands
stood : (deadline : ℕ → ℕ) (now : ℕ) (o : Option Cached) (item : Cached) → unless_expired deadline now o ≡ Some item → o ≡ Some item
stood deadline now None item is = absurd (none-some item is)
stood deadline now (Some other) item is = by (nat_lt now (deadline other.segment)) is
  where
    by : (here : Bool) → cond here (Some other) None ≡ Some item → Some other ≡ Some item
    by true is = is
    by false is = absurd (none-some item is)

-- ---- the draw 0

raises_low : (frequency : ℕ) → draw_raises frequency 0 ≡ true → higher frequency ≡ frequency + 1
raises_low frequency is = elim (cases_lt frequency 255) [
  | inl low ↦ ap (λ t. cond t (frequency + 1) frequency) (lt-ltb frequency 255 low)
  | inr high ↦ absurd (false≢true (sym (never frequency high) ∙ is))
]
  where
    never : (f : ℕ) → 255 ≤ f → draw_raises f 0 ≡ false
    never f high =
        let low : nat_lt f 16 ≡ false = grind (arith, high) in
        let most : nat_lt f 255 ≡ false = grind (arith, high) in rw (low, most) refl

raises_high : (frequency : ℕ) → draw_raises frequency 0 ≡ false → higher frequency ≡ frequency
raises_high frequency is = elim (cases_lt frequency 255) [
  | inl low ↦ absurd (false≢true (sym is ∙ always frequency low))
  | inr high ↦ let most : nat_lt frequency 255 ≡ false = grind (arith, high) in ap (λ t. cond t (frequency + 1) frequency) most
]
  where
    or_true : (b : Bool) → (b || true) ≡ true
    or_true true = refl
    or_true false = refl

    always : (f : ℕ) → f < 255 → draw_raises f 0 ≡ true
    always f low =
        let zero_left : 0 % f ≡ 0 = omega arith in
        let even : eqb (0 % f) 0 ≡ true = ap (λ n. eqb n 0) zero_left in
        (λ i. nat_lt f 16 || (lt-ltb f 255 low i && even i)) ∙ or_true (nat_lt f 16)

-- ---- which row is raised

-- the row's frequency is higher, and no other is changed
record RaisesRow (segment row : ℕ) (p q : Pass) : Type 0 where
  here : frequency_in (marked q) segment row ≡ higher (frequency_in (marked p) segment row)
  others : (s r : ℕ) → ((segment ≡ s) × (row ≡ r) → ⊥) → frequency_in (marked q) s r ≡ frequency_in (marked p) s r

-- the item of a key that stands, with its value, is raised
record RaisesItem (shape : Shape) (key value : List ℕ) (p q : Pass) : Type 0 where
  segment : ℕ
  row : ℕ
  stands : standing (after shape (seen p)) key ≡ Some (cached value segment)
  last : last_at (marked p) key ≡ Some (slot key segment row)
  raises : RaisesRow segment row p q

module _ (b : Board) (p q : Pass) (was : IsAlone b p) (on : GoesOn b p q) (nothing : ChangesNothing p q) where
  same : seen q ≡ seen p
  same = same_seen b p q was on.quiet nothing.entries

  -- at a moment of the call nothing had come
  module _ (at : List Event) (since : Begins (trace p) at) (until : Begins at (trace q)) where
    then : event.seen at ≡ seen p
    then = same_moment (seen p) (seen q) (event.seen at) same (seen_begins (trace p) at since, seen_begins at (trace q) until)

    abbrev first : Begins (marked p) (mark.marked at)
    first = marked_begins (trace p) at since

    bring_first : BringNothing (entries first.0)
    bring_first = subst BringNothing (sym (append_cancel_right (entries first.0) [] (seen p)
        (ap (λ h. entries first.0 ++ h) (sym (entries_marked (trace p))) ∙ (sym (entries_joined first.0 (marked p)) ∙ (sym (ap entries first.1) ∙ (entries_marked at ∙ then)))))) tt

    paired_first : IsPaired None (first.0 ++ marked p)
    paired_first = subst (IsPaired None) first.1 (marked_paired at)

    last_then : (key : List ℕ) → last_at (mark.marked at) key ≡ last_at (marked p) key
    last_then key = ap (λ marks. last_at marks key) first.1 ∙ keeps_lasts first.0 (marked p) paired_first bring_first key

    frequency_then : all_raised first.0 ≡ 0 → (segment row : ℕ) → frequency_in (mark.marked at) segment row ≡ frequency_in (marked p) segment row
    frequency_then none segment row = ap (λ marks. frequency_in marks segment row) first.1 ∙ keeps_frequencies first.0 (marked p) paired_first bring_first none segment row

    raised_first : all_raised (mark.marked at) ≡ all_raised first.0 + all_raised (marked p)
    raised_first = ap all_raised first.1 ∙ raised_joined first.0 (marked p)

  -- a hit that counts
  counts_item : (key value : List ℕ) → count pass_raised q ≡ count pass_raised p + 1 → CountsHit b.shape key value 0 (number p) (trace p) (trace q) → RaisesItem b.shape key value p q
  counts_item key value one hit = record {
    segment = hit.segment;
    row = hit.row;
    stands = ap (λ h. standing (after b.shape h) key) (sym (then hit.at hit.since before)) ∙ hit.had.stands;
    last = sym (last_then hit.at hit.since before key) ∙ hit.had.last;
    raises = record {
      here = now_at hit.segment hit.row ∙ (ap (λ t. cond t (hit.frequency + 1)
          (frequency_in (marked p) hit.segment hit.row))
          (and_from (eqb hit.segment hit.segment) (eqb hit.row hit.row) (eq-eqb hit.segment hit.segment refl)
          (eq-eqb hit.row hit.row refl))
          ∙ (sym (raises_low hit.frequency hit.counted) ∙ ap higher (sym (sym (frequency_then hit.at hit.since before none_first hit.segment hit.row) ∙ hit.had.had))));
      others = λ s r apart. now_at s r ∙ ap (λ t. cond t (hit.frequency + 1) (frequency_in (marked p) s r)) (elsewhere hit.segment hit.row s r apart);
    };
  }
    where
      before : Begins hit.at (trace q)
      before = (
        hit.raise.0 ++ Bumped (number p) hit.segment hit.row (hit.frequency + 1) ∷ [],
        hit.raise.1
            ∙ sym (append_assoc hit.raise.0 (Bumped (number p) hit.segment hit.row (hit.frequency + 1) ∷ []) hit.at),
      )

      marks_then : List Mark
      marks_then = mark.bumped hit.segment hit.row (hit.frequency + 1) ∷ mark.marked hit.at

      second : Begins marks_then (marked q)
      second = marked_begins (Bumped (number p) hit.segment hit.row (hit.frequency + 1) ∷ hit.at) (trace q) hit.raise

      all_then : all_raised (marked q) ≡ all_raised second.0 + all_raised marks_then
      all_then = ap all_raised second.1 ∙ raised_joined second.0 marks_then

      none_first : all_raised (first hit.at hit.since before).0 ≡ 0
      none_first =
          let a = all_then in let f = raised_first hit.at hit.since before in
          let old = raised_alone b p was.quiet was.one in let new = raised_alone b q on.quiet was.one in omega (arith, one)

      none_second : all_raised second.0 ≡ 0
      none_second =
          let a = all_then in let f = raised_first hit.at hit.since before in
          let old = raised_alone b p was.quiet was.one in let new = raised_alone b q on.quiet was.one in omega (arith, one)

      bring_second : BringNothing (entries second.0)
      bring_second = subst BringNothing (sym (append_cancel_right (entries second.0) [] (event.seen hit.at)
          (ap (λ h. entries second.0 ++ h) (sym (entries_marked hit.at))
          ∙ (sym (entries_joined second.0 marks_then)
          ∙ (sym (ap entries second.1) ∙ (entries_marked (trace q)
          ∙ (same ∙ sym (then hit.at hit.since before)))))))) tt

      now_at : (s r : ℕ) → frequency_in (marked q) s r ≡ cond (eqb hit.segment s && eqb hit.row r) (hit.frequency + 1) (frequency_in (marked p) s r)
      now_at s r = ap (λ marks. frequency_in marks s r) second.1
          ∙ (keeps_frequencies second.0 marks_then (subst (IsPaired None) second.1 (marked_paired (trace q))) bring_second none_second s r
          ∙ ap (cond (eqb hit.segment s && eqb hit.row r) (hit.frequency + 1)) (frequency_then hit.at hit.since before none_first s r))

      elsewhere : (segment row s r : ℕ) → ((segment ≡ s) × (row ≡ r) → ⊥) → (eqb segment s && eqb row r) ≡ false
      elsewhere segment row s r apart = by (eqb segment s) (eqb row r) refl refl
        where
          by : (t u : Bool) → eqb segment s ≡ t → eqb row r ≡ u → (eqb segment s && eqb row r) ≡ false
          by true true first second = absurd (apart (eqb-true segment s first, eqb-true row r second))
          by true false first second = λ i. first i && second i
          by false u first second = ap (λ t. t && eqb row r) first

  -- and one that doesn't
  passes_item : (key value : List ℕ) → RaisesNothing p q → PassesHit b.shape key value 0 (trace p) (trace q) → RaisesItem b.shape key value p q
  passes_item key value still hit = record {
    segment = hit.segment;
    row = hit.row;
    stands = ap (λ h. standing (after b.shape h) key) (sym (then hit.at hit.since hit.until)) ∙ hit.had.stands;
    last = sym (last_then hit.at hit.since hit.until key) ∙ hit.had.last;
    raises = record {
      here = (frequencies_still b p q was on nothing.entries still hit.segment hit.row).0
          ∙ (sym (frequency_then hit.at hit.since hit.until none_first hit.segment hit.row) ∙ (hit.had.had
          ∙ (sym (raises_high hit.frequency hit.uncounted) ∙ ap higher (sym (sym (frequency_then hit.at hit.since hit.until none_first hit.segment hit.row) ∙ hit.had.had)))));
      others = λ s r apart. (frequencies_still b p q was on nothing.entries still s r).0;
    };
  }
    where
      none_first : all_raised (first hit.at hit.since hit.until).0 ≡ 0
      none_first =
          let f = raised_first hit.at hit.since hit.until in
          let second = marked_begins hit.at (trace q) hit.until in
          let a : all_raised (marked q) ≡ all_raised second.0 + all_raised (mark.marked hit.at) = ap all_raised second.1 ∙ raised_joined second.0 (mark.marked hit.at) in
          let old = raised_alone b p was.quiet was.one in let new = raised_alone b q on.quiet was.one in omega (arith, still)

  raises_item : (key value : List ℕ) → RaisesFrom b.shape key value 0 (trace p) p q → RaisesItem b.shape key value p q
  raises_item key value (inl (one, hit)) = counts_item key value one hit
  raises_item key value (inr (still, inl hit)) = passes_item key value still hit
  raises_item key value (inr (still, inr (several, over))) = absurd (omega (arith, was.one, several))

  -- ---- the state after it

  module _ (undrawn : DrawsNothing p q) (key value : List ℕ) (item : RaisesItem b.shape key value p q) where
    abbrev old : ℕ → Filling
    old = (state_at b.shape p).filling

    abbrev new : ℕ → Filling
    new = with_at old item.segment (raised_in key (old item.segment))

    states_then : (s : ℕ) → or_empty (state_of q s) ≡ (new s).state
    states_then s = ap (λ (x : PlainPart). or_empty (state_in (own_segment x s))) nothing.plain ∙ by (eqb item.segment s) (eqb-true item.segment s)
      where
        by : (here : Bool) → (here ≡ true → item.segment ≡ s) → (old s).state ≡ (cond here (raised_in key (old item.segment)) (old s)).state
        by true is = ap (λ s. (old s).state) (sym (is refl))
        by false is = refl

    keys_then : (s : ℕ) → keys_stored_in b.shape (seen q) s ≡ (new s).keys
    keys_then s = ap (λ h. keys_stored_in b.shape h s) same ∙ by (eqb item.segment s) (eqb-true item.segment s)
      where
        by : (here : Bool) → (here ≡ true → item.segment ≡ s) → (old s).keys ≡ (cond here (raised_in key (old item.segment)) (old s)).keys
        by true is = ap (λ s. (old s).keys) (sym (is refl))
        by false is = refl

    -- no item came
    came_still : (s row : ℕ) → came_with (marked q) s row ≡ came_with (marked p) s row
    came_still s row = ap (λ marks. came_with marks s row) on.marked.1
        ∙ keeps_came on.marked.0 (marked p) (subst (IsPaired None) on.marked.1 (marked_paired (trace q)))
        (subst BringNothing (sym (added_entries b p q was on [] nothing.entries)) tt) s row

    frequencies_now : (s : ℕ) → frequencies_in b.shape q s
        ≡ frequencies_of (came_with (marked p) s) (frequency_in (marked q) s) 0 (items_stored_in b.shape (seen p) s)
    frequencies_now s = λ i. frequencies_of (λ row. came_still s row i) (frequency_in (marked q) s) 0 (items_stored_in b.shape (same i) s)

    frequencies_then : (s : ℕ) → frequencies_in b.shape q s ≡ (new s).frequencies
    frequencies_then = by_segment (λ s. frequencies_in b.shape q s ≡ (new s).frequencies) item.segment
        (frequencies_now item.segment
        ∙ (raised_last key (came_with (marked p) item.segment) (frequency_in (marked p) item.segment) (frequency_in (marked q) item.segment)
        (items_stored_in b.shape (seen p) item.segment) item.row 0 (items_some b.shape (seen p) item.segment)
        (was.rows key value item.segment item.row item.stands item.last)
        item.raises.here
        (λ other apart. item.raises.others item.segment other (λ is. apart (sym is.1)))
        ∙ sym (ap (λ (f : Filling). f.frequencies) (with_at-same old item.segment item.segment (raised_in key (old item.segment)) refl))))
        (λ s apart. frequencies_now s
        ∙ ((λ i. frequencies_of (came_with (marked p) s) (λ row. item.raises.others s row (λ is. apart is.0) i) 0 (items_stored_in b.shape (seen p) s))
        ∙ sym (ap (λ (f : Filling). f.frequencies) (with_at-other old item.segment s (raised_in key (old item.segment)) apart))))

    at_hit : state_at b.shape q ≡ record (state_at b.shape p) { filling = new }
    at_hit = let widths = same_widths b p q was on undrawn in
        at_state b.shape q (record (state_at b.shape p) { filling = new }) (ap (after b.shape) same) states_then
        keys_then frequencies_then (ap (λ (x : PlainPart). x.current) nothing.plain) widths.wide widths.drawn
        (ap (λ (m : Memo). option_map item_of m.holding) nothing.memo) (ap (λ (x : PlainPart). x.locked) nothing.plain)

-- a hit leaves the state that the model's hit leaves
pub hit_leaves : (b : Board) (p q : Pass) (key value : List ℕ) (now : ℕ) → IsAlone b p → GoesOn b p q → DrawsNothing p q → ChangesNothing p q → RaisesOne b.shape key value 0 p q
    → reads (after b.shape (seen p)) now key ≡ Some value → state_at b.shape q ≡ after_hit key (present (after b.shape (seen p)) now key) (state_at b.shape p)
hit_leaves b p q key value now was on undrawn nothing raises is = by (present (after b.shape (seen p)) now key) refl is
  where
    by : (found : Option Cached) → present (after b.shape (seen p)) now key ≡ found
        → option_map (λ (item : Cached). item.value) found ≡ Some value
        → state_at b.shape q ≡ after_hit key found (state_at b.shape p)
    by None found none = absurd (none-some value none)
    by (Some x) found read =
        let item = raises_item b p q was on nothing key value (raises_since b.shape key value 0 p q raises) in
        let one : x ≡ cached value item.segment =
        same_Some x (cached value item.segment) (sym
        (stood (after b.shape (seen p)).deadline now (standing (after b.shape (seen p)) key) x found)
        ∙ item.stands) in
        at_hit b p q was on nothing undrawn key value item ∙ sym (ap (λ y. after_hit key (Some y) (state_at b.shape p)) one)

-- and a miss leaves the state as it was
pub miss_leaves : (b : Board) (p q : Pass) (key : List ℕ) (now : ℕ) → IsAlone b p → GoesOn b p q → DrawsNothing p q → ChangesNothing p q → RaisesNothing p q
    → reads (after b.shape (seen p)) now key ≡ None → state_at b.shape q ≡ after_hit key (present (after b.shape (seen p)) now key) (state_at b.shape p)
miss_leaves b p q key now was on undrawn nothing unraised is =
    left b p q was on nothing (same_widths b p q was on undrawn) (frequencies_still b p q was on nothing.entries unraised) ∙ by (present (after b.shape (seen p)) now key) is
  where
    by : (found : Option Cached) → option_map (λ (item : Cached). item.value) found ≡ None → state_at b.shape p ≡ after_hit key found (state_at b.shape p)
    by None none = refl
    by (Some x) none = absurd (none-some x.value (sym none))
