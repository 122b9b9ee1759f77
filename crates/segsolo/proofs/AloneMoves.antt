-- With one pass, whether the item of a row is to be moved, and the state that it is at once it was moved.
use Rattle.std.proofs.Common.{◌≡◌, ◌≢◌, ℕ, ◌+◌, ◌<◌, ◌≤◌, ◌&&◌, cond, eqb, nat_le, not, Bool, true, false, IsSomeAnd, List, [], ◌∷◌, ◌++◌, length, Option, Some, None, option_map, refl, sym, ap, ◌∙◌, subst, ⊎_elim, arith, eq-eqb}
use Rattle.std.specs.BTreeMap.{is_at}
use Rattle.std.proofs.lemmas.Bool.{and_from, and_right, cases_Bool, cond-false, eqb-true, false≢true, le-leb, lt-leb, ne_eqb}
use Rattle.std.proofs.lemmas.Option.{same_Some}
use Rattle.segmodel.specs.declared.entry.Entry.TheVariants as entry
use Rattle.segmodel.specs.Serving.{span_of_item}
use Rattle.segmodel.specs.Words.{after, bucket_of, Cached, entries_of, Entry, is_among, is_last_of, is_locked, is_named, is_of, IsSound, key_cmp, lacks_rows, moved_to, span_under, standing, stands_in, StandsIn, State, with_segment}
use Rattle.segmodel.proofs.Counts.{both, count_by-cons}
use Rattle.segmodel.proofs.Keeping.{in_there, IsKept-moved}
use Rattle.segmodel.proofs.Moves.{standing-moved}
use Rattle.segmodel.proofs.Spans.{left_rows, rows_left, under_is, under_some}
use Rattle.segcore.specs.Mark as mark
use Rattle.segcore.specs.Bucket.{Slot}
use Rattle.segcore.specs.Words.{cached, frequency_in, row_after, slot, span_in}
use Rattle.segcore.proofs.Caches.{has_value}
use Rattle.segcore.proofs.Exact.{stands_at}
use Rattle.segcore.proofs.Marked.{entries_marked}
use Rattle.segcore.proofs.Moments.{marked_begins}
use Rattle.segcore.proofs.Spans.{header_span}
use Rattle.segbase.specs.Words.{Board, Locked, locked, marked, Memo, number, Pass, seen, trace, used_of}
use Rattle.segstore.specs.Words.{ChangesNothing, DrawsNothing, GoesOn, RaisesNothing}
use Rattle.segstore.proofs.Keeping.{stored_in}
use Rattle.segevict.specs.Words.{CarriesItem, HadFrequency, HadThen, IsKeepTarget, IsNamed, UsesRows}
use Rattle.segsolo.specs.Alone.{IsAlone, item_of, state_at}
use Rattle.segsolo.specs.Stored.{came_with, items_stored_in, keys_of_rows, keys_stored_in, last_row_of}
use Rattle.segindex.proofs.QuietPass.{none_since}
use Rattle.segsolo.proofs.AloneBrought.{counts, frequencies_then, keys_then, named, state_then, stored_elsewhere}
use Rattle.segsolo.proofs.AloneMoments.{brings_moved, names_moved, names_still, NamesRow}
use Rattle.segsolo.proofs.AlonePass.{at_state, counts_still, left, more_seen, same_seen, SameFrequencies}
use Rattle.segsolo.proofs.AloneRows.{frequencies_still, still_named}
use Rattle.segsolo.proofs.AloneWidths.{same_widths}
use Rattle.segsolo.proofs.Marks.{BringsItem}
use Rattle.segsolo.proofs.Rows.{at_other, last_none, none_last}
use Rattle.segsolo.proofs.Walks.{BeginsAt, has_them}

-- ---- a row that leaves all as it was

-- the pass is alone again, and at the state at which it was
pub record StaysAlone (b : Board) (p q : Pass) : Type 0 where
  pub alone : IsAlone b q
  pub state : state_at b.shape q ≡ state_at b.shape p
  pub items : (s : ℕ) → items_stored_in b.shape (seen q) s ≡ items_stored_in b.shape (seen p) s
  pub frequencies : SameFrequencies p q

-- nothing was changed, drawn or raised
pub stays : (b : Board) (p q : Pass) → IsAlone b p → GoesOn b p q → DrawsNothing p q → RaisesNothing p q → ChangesNothing p q → StaysAlone b p q
stays b p q was on undrawn unraised nothing =
    let told = frequencies_still b p q was on nothing.entries unraised in
    let same = left b p q was on nothing (same_widths b p q was on undrawn) told in record {
      alone = record {
        one = was.one;
        quiet = on.quiet;
        used = counts_still b.shape p q was.used (same_seen b p q was on.quiet nothing.entries) (ap stored_in nothing.plain);
        rows = still_named b p q [] was on nothing.entries tt;
        kept = subst (IsSound b.shape) (sym same) was.kept;
      };
      state = same;
      items = λ s. ap (λ h. items_stored_in b.shape h s) (same_seen b p q was on.quiet nothing.entries);
      frequencies = told;
    }

-- ---- whether an item is to be moved

-- the item is the last one of a key that stands there, and its frequency isn't below the cutoff
abbrev pub is_to_move : ℕ → ℕ → List ℕ → List (List ℕ) → ℕ → State → Bool
is_to_move segment cutoff key keys frequency state = is_last_of state segment key keys && nat_le cutoff frequency

-- ---- a row that no item names

-- the item that begins there isn't to be moved, since that of a key that stands names the row of the key's last one
module _ (b : Board) (segment cutoff row : ℕ) (p : Pass) (alone : IsAlone b p) (begins : BeginsAt 0 row (items_stored_in b.shape (seen p) segment))
    (none : ¬ (IsNamed b.shape segment row (marked p))) where
  abbrev named_key : List ℕ
  named_key = begins.item.0

  abbrev keys_after : List (List ℕ)
  keys_after = keys_of_rows begins.later

  none_among : (among : Bool) → not among ≡ true → among ≡ false
  none_among true is = absurd (false≢true is)
  none_among false is = refl

  not_last : is_last_of (state_at b.shape p) segment named_key keys_after ≡ true → ⊥
  not_last is =
      let parts = both (stands_in segment (standing (after b.shape (seen p)) named_key)) (not (is_among keys_after named_key)) is in
      let there = in_there (standing (after b.shape (seen p)) named_key) segment parts.0 in
      let stands : StandsIn (after b.shape (seen p)) named_key segment = subst (λ o. IsSomeAnd o (λ (item : Cached). item.segment ≡ segment)) (sym there.1) there.2 in
      let value = has_value b.shape (seen p) named_key segment stands in
      let word = stands_at b.shape (trace p) named_key value.0 segment alone.quiet.pass.valid alone.quiet.pass.lawful value.1 in
      let only = begins.last (none_last named_key (row + begins.item.1) begins.later begins.each (none_among (is_among keys_after named_key) parts.1)) in
      let same : word.row ≡ row = same_Some word.row row (sym (alone.rows named_key value.0 segment word.row value.1 word.last) ∙ only) in
      none (record {
        key = named_key;
        stands = subst (λ h. StandsIn (after b.shape h) named_key segment) (sym (entries_marked (trace p))) stands;
        last = word.last ∙ ap (λ n. Some (slot named_key segment n)) same;
      })

  pub gone : is_to_move segment cutoff named_key keys_after (frequency_in (marked p) segment row) (state_at b.shape p) ≡ false
  gone = ap (λ t. t && nat_le cutoff (frequency_in (marked p) segment row))
      (⊎_elim (λ is. absurd (not_last is)) (λ no. no)
      (cases_Bool (is_last_of (state_at b.shape p) segment named_key keys_after)))

-- ---- a row that an item names

module _ (b : Board) (segment cutoff row : ℕ) (p : Pass) (was : IsAlone b p) where
  abbrev items : List (List ℕ × ℕ)
  items = items_stored_in b.shape (seen p) segment

  module _ (IsSo : ℕ → Type 0) (owner : List ℕ) (names : NamesRow b.shape segment row IsSo p owner) where
    -- it is the row of the key's last item
    stands_here : (value : List ℕ) × (standing (after b.shape (seen p)) owner ≡ Some (cached value segment)) × (last_row_of owner 0 items ≡ Some row)
    stands_here =
        let value = has_value b.shape (seen p) owner segment names.stands in
        (value.0, value.1, was.rows owner value.0 segment row value.1 names.last)

    pub last_item : last_row_of owner 0 items ≡ Some row
    last_item = stands_here.2

    -- the item takes as many rows as the model has it
    pub span_is : span_in (trace p) segment row ≡ span_under (state_at b.shape p) owner
    span_is =
        let word = stands_at b.shape (trace p) owner stands_here.0 segment was.quiet.pass.valid was.quiet.pass.lawful stands_here.1 in
        let same : row ≡ word.row = ap (λ (a : Slot). a.row) (same_Some (slot owner segment row) (slot owner segment word.row) (sym names.last ∙ word.last)) in
        ap (span_in (trace p) segment) same
        ∙ (header_span (row_after (trace p) segment word.row) owner stands_here.0 word.valid.0 word.valid.1 word.holds
        ∙ under_is (state_at b.shape p) owner (cached stands_here.0 segment) stands_here.1)

    module _ (begins : BeginsAt 0 row items) where
      pub last_row : (begins.item.0 ≡ owner) × (is_among (keys_of_rows begins.later) owner ≡ false)
      last_row = let named = begins.named owner last_item in (named.0, last_none owner (row + begins.item.1) begins.later named.1)

      last_is : is_last_of (state_at b.shape p) segment begins.item.0 (keys_of_rows begins.later) ≡ true
      last_is = (λ i. stands_in segment (standing (after b.shape (seen p)) (last_row.0 i)) && not (is_among (keys_of_rows begins.later) (last_row.0 i)))
          ∙ ((λ i. stands_in segment (stands_here.1 i) && not (last_row.1 i)) ∙ and_from (eqb segment segment) true (eq-eqb segment segment refl) refl)

  module _ (begins : BeginsAt 0 row items) (owner : List ℕ) where
    abbrev frequency : ℕ
    frequency = frequency_in (marked p) segment row

    abbrev to_move : Bool
    to_move = is_to_move segment cutoff begins.item.0 (keys_of_rows begins.later) frequency (state_at b.shape p)

    pub often : NamesRow b.shape segment row (λ frequency. cutoff ≤ frequency) p owner → to_move ≡ true
    often names = and_from (is_last_of (state_at b.shape p) segment begins.item.0 (keys_of_rows begins.later)) (nat_le cutoff frequency)
        (last_is (λ frequency. cutoff ≤ frequency) owner names begins) (le-leb cutoff frequency names.is)

    pub seldom : NamesRow b.shape segment row (λ frequency. frequency < cutoff) p owner → to_move ≡ false
    seldom names = and_right (is_last_of (state_at b.shape p) segment begins.item.0 (keys_of_rows begins.later)) (nat_le cutoff frequency)
        (lt-leb cutoff frequency names.is)

  -- so it was at a moment of a call that changed nothing
  module _ (q : Pass) (on : GoesOn b p q) (unraised : RaisesNothing p q) (nothing : ChangesNothing p q) where
    pub names_then : (IsSo : ℕ → Type 0) (owner : List ℕ) → HadThen b.shape segment row IsSo p q owner → NamesRow b.shape segment row IsSo p owner
    names_then IsSo owner (start, first, had) =
        names_still b p q was on unraised segment row IsSo owner (mark.marked start) nothing.entries (marked_begins (trace p) start (first.others, first.since)) had

    pub names_now : (owner : List ℕ) → HadFrequency b.shape segment row (λ frequency. cutoff ≤ frequency) (marked q)
        (marked q) owner → NamesRow b.shape segment row (λ frequency. cutoff ≤ frequency) p owner
    names_now owner had = names_still b p q was on unraised segment row (λ frequency. cutoff ≤ frequency) owner (marked q) nothing.entries on.marked had

-- ---- a row whose item is moved

-- The pass is alone again, at the state after the move. The row's item was to be moved, and could be.
pub record HasMoved (b : Board) (segment into cutoff row : ℕ) (p q : Pass) (owner : List ℕ) : Type 0 where
  pub alone : IsAlone b q
  pub state : state_at b.shape q ≡ moved_to owner (frequency_in (marked p) segment row) into (state_at b.shape p)
  pub names : NamesRow b.shape segment row (λ frequency. cutoff ≤ frequency) p owner
  pub room : lacks_rows b.shape (span_under (state_at b.shape p) owner) (state_at b.shape p).filling (Some into) ≡ false
  pub free : is_locked b.shape (state_at b.shape p) owner ≡ false
  pub items : items_stored_in b.shape (seen q) segment ≡ items_stored_in b.shape (seen p) segment
  pub came : (r : ℕ) → came_with (marked q) segment r ≡ came_with (marked p) segment r
  pub frequencies : (r : ℕ) → frequency_in (marked q) segment r ≡ frequency_in (marked p) segment r

module _ (b : Board) (segment into cutoff row : ℕ) (p q : Pass) (was : IsAlone b p) (target : IsKeepTarget segment into p)
    (on : GoesOn b p q) (undrawn : DrawsNothing p q) (unraised : RaisesNothing p q) (uses : UsesRows into (span_in (trace p) segment row) p q)
    (owner : List ℕ) (carries : CarriesItem b.shape segment row cutoff into p q owner) where
  abbrev had : ℕ
  had = frequency_in (marked p) segment row

  abbrev moved : Entry
  moved = entry.Moved (number p) owner segment into

  abbrev rows : ℕ
  rows = span_under (state_at b.shape p) owner

  seen_now : seen q ≡ moved ∷ seen p
  seen_now = more_seen b p q (moved ∷ []) was on.quiet carries.entries

  names_it : NamesRow b.shape segment row (λ frequency. cutoff ≤ frequency) p owner
  names_it = names_moved b p q was on unraised segment row cutoff into owner carries

  some : 1 ≤ rows
  some = under_some (state_at b.shape p) owner

  rows_are : span_in (trace p) segment row ≡ rows
  rows_are = span_is b segment cutoff row p was (λ frequency. cutoff ≤ frequency) owner names_it

  uses_them : UsesRows into rows p q
  uses_them = subst (λ n. UsesRows into n p q) rows_are uses

  -- the next rows of the other segment
  next : carries.to ≡ length (keys_stored_in b.shape (seen p) into)
  next = was.used into carries.to carries.next

  used_is : used_of p into ≡ Some (length (keys_stored_in b.shape (seen p) into))
  used_is = carries.next ∙ ap Some next

  left_there : length (keys_stored_in b.shape (seen p) into) + rows ≤ b.shape.rows
  left_there = let fits = left_rows (span_in (trace p) segment row) carries.to b.shape.rows carries.fits in omega (arith, fits, next, rows_are)

  abbrev brought : BringsItem owner into had (marked p) (marked q)
  brought = (brings_moved b p q was on unraised segment row cutoff into owner carries).0

  brought_to : brought.row ≡ length (keys_stored_in b.shape (seen p) into)
  brought_to = (brings_moved b p q was on unraised segment row cutoff into owner carries).1 ∙ next

  stored_so : (s : ℕ) → items_stored_in b.shape (seen q) s
      ≡ cond (eqb into s) (items_stored_in b.shape (seen p) s ++ (owner, rows) ∷ []) (items_stored_in b.shape (seen p) s)
  stored_so s =
      let here = stands_here b segment cutoff row p was (λ frequency. cutoff ≤ frequency) owner names_it in
      ap (λ h. items_stored_in b.shape h s) seen_now
      ∙ ap (λ n. cond (eqb into s) (items_stored_in b.shape (seen p) s ++ (owner, n) ∷ []) (items_stored_in b.shape (seen p) s))
      (ap (span_of_item owner) here.1 ∙ under_is (state_at b.shape p) owner (cached here.0 segment) here.1)

  others : (other : List ℕ) → owner ≢ other → standing (after b.shape (seen q)) other ≡ standing (after b.shape (seen p)) other
  others other ne = ap (λ h. standing (after b.shape h) other) seen_now
      ∙ (standing-moved owner into (after b.shape (seen p)) other
      ∙ cond-false (is_at (key_cmp owner) other) (option_map (with_segment into) (standing (after b.shape (seen p)) other)) (standing (after b.shape (seen p)) other) (at_other owner other ne))

  state_now : state_at b.shape q ≡ moved_to owner had into (state_at b.shape p)
  state_now = at_state b.shape q (moved_to owner had into (state_at b.shape p))
      (ap (after b.shape) seen_now)
      (state_then b p q owner had rows into was stored_so some used_is uses_them)
      (keys_then b p q owner had rows into was stored_so some used_is uses_them)
      (frequencies_then b p q owner had rows into was stored_so some used_is uses_them on.quiet brought brought_to)
      uses.current
      (same_widths b p q was on undrawn).wide
      (same_widths b p q was on undrawn).drawn
      (ap (λ (m : Memo). option_map item_of m.holding) uses.memo)
      uses.locked

  alone_now : IsAlone b q
  alone_now = let here = stands_here b segment cutoff row p was (λ frequency. cutoff ≤ frequency) owner names_it in record {
    one = was.one;
    quiet = on.quiet;
    used = counts b p q owner had rows into was stored_so some used_is uses_them;
    rows = named b p q owner had rows into was stored_so some used_is uses_them on.quiet brought brought_to others;
    kept = subst (IsSound b.shape) (sym state_now) (IsKept-moved b.shape owner had into (cached here.0 segment) (state_at b.shape p) was.kept target.current here.1
        (rows_left rows (length (keys_stored_in b.shape (seen p) into)) b.shape.rows left_there));
  }

  -- nothing of a bucket that the pass has locked comes in, so the key's bucket is another
  free : is_locked b.shape (state_at b.shape p) owner ≡ false
  free = ⊎_elim (λ here. absurd (by (locked p) refl here)) (λ other. other) (cases_Bool (is_locked b.shape (state_at b.shape p) owner))
    where
      by : (lock : Option Locked) → locked p ≡ lock → is_locked b.shape (state_at b.shape p) owner ≡ true → ⊥
      by None unlocked here = false≢true (sym (ap (λ o. is_named o (bucket_of b.shape owner)) (was.quiet.locks ∙ ap (option_map (λ (l : Locked). l.bucket)) unlocked)) ∙ here)
      by (Some lock) held here =
          let bucket : lock.bucket ≡ bucket_of b.shape owner =
          eqb-true lock.bucket (bucket_of b.shape owner) (sym (ap (λ o. is_named o (bucket_of b.shape owner)) (was.quiet.locks ∙ ap (option_map (λ (l : Locked). l.bucket)) held)) ∙ here) in
          let before = (none_since b p lock was.quiet held).1 in
          let now = (none_since b q lock on.quiet (ap (λ (m : Memo). m.locked) uses.memo ∙ held)).1 in
          let more : entries_of b.shape lock.bucket (seen q) ≡ 1 + entries_of b.shape lock.bucket (seen p) =
          ap (entries_of b.shape lock.bucket) seen_now
          ∙ (count_by-cons (is_of b.shape lock.bucket) moved (seen p)
          ∙ ap (λ t. cond {A = ℕ} t 1 0 + entries_of b.shape lock.bucket (seen p)) (eq-eqb (bucket_of b.shape owner) lock.bucket (sym bucket))) in absurd (omega arith)

  -- the rows of the segment that was left have the frequencies that they had
  elsewhere : (r : ℕ) → (eqb into segment && eqb brought.row r) ≡ false
  elsewhere r = ap (λ t. t && eqb brought.row r) (ne_eqb into segment (λ e. target.other (sym e)))

  pub has_moved : HasMoved b segment into cutoff row p q owner
  has_moved = record {
    alone = alone_now;
    state = state_now;
    names = names_it;
    room = has_them b.shape rows (state_at b.shape p).filling into some left_there;
    free = free;
    items = stored_elsewhere b p q owner had rows into was stored_so some used_is uses_them segment (λ e. target.other (sym e));
    came = λ r. brought.came segment r ∙ cond-false (eqb into segment && eqb brought.row r) had (came_with (marked p) segment r) (elsewhere r);
    frequencies = λ r. brought.frequencies segment r ∙ cond-false (eqb into segment && eqb brought.row r) had (frequency_in (marked p) segment r) (elsewhere r);
  }
