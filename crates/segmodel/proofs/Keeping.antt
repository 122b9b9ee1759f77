-- A keep moves items one after the other; so each law of a keep is one of a single move.
use Rattle.std.proofs.Common.{◌≡◌, ◌≢◌, ℕ, ◌+◌, ◌*◌, ◌≤◌, ◌<◌, ◌==◌, ◌&&◌, Bool, true, false, cond, not, List, [], ◌∷◌, length, map, Option, Some, None, is_some, refl, sym, ap, ◌∙◌, subst, count_by, nat_le, arith, drop, get_or, ◌⊎◌, inl, inr, slice_index_or, IsSomeAnd, MatchBool, MatchOption}
use Rattle.std.proofs.lemmas.Bool.{false≢true, eqb-false}
use Rattle.std.proofs.lemmas.Option.{none-some, same_Some}
use Rattle.std.proofs.lemmas.Map.Lookups.{exact_bytes}
use Rattle.std.specs.declared.cmp.Ordering.{Ordering}
use Rattle.std.specs.declared.cmp.Ordering.TheVariants.{Less, Equal, Greater}
use Rattle.std.specs.Ordering.{match_ordering, is_eq}
use Rattle.std.specs.List.Sorted.{IsStrictlySortedBy}
use Rattle.std.specs.BTreeMap.{insert_entry, is_at}
use Rattle.std.specs.Map.{keys_of, lookup}
use Rattle.std.specs.Option.{IsSome}
use Rattle.std.specs.Prelude.{IfSome, is_none, nat_le, slice_get}
use Rattle.std.proofs.lemmas.List.{drop_more, get_or_default}
use Rattle.std.specs.List.{AllByRecursion}
use Rattle.segword.specs.Words.{Shape}
use Rattle.segmodel.specs.Words.{Cached, Entry}
use Rattle.segmodel.specs.declared.answer.KeepAnswer.{KeepAnswer}
use Rattle.segmodel.specs.Places.{bucket_of}
use Rattle.segmodel.specs.Cache.{key_cmp, standing, keys_in, put, with_segment, in_segment, with_at, moved}
use Rattle.segmodel.specs.State.{State, is_locked, is_in_use, IsSound, Filling, is_among}
use Rattle.segmodel.specs.Serving.{is_last_at, is_last_of, is_own, keep_into, keep_rows, keeps, lacks_rows, moved_to, span_under, stands_in, with_rows}
use Rattle.segmodel.specs.Laws.{kept, Adds, IsMoveBetween}
use Rattle.segmodel.specs.declared.segment.Segment.{Segment}
use Rattle.segmodel.specs.Segments.{filling_of, HasRows}
use Rattle.segmodel.specs.Plain.{filling_in, HasLeft, lacks_room, span_at, state_of}
use Rattle.segmodel.specs.declared.plain.Plain.{Plain}
use Rattle.segmodel.specs.declared.answer.Command.TheVariants.{Keep}
use Rattle.segmodel.specs.History.{after, Follows, IsLegal}
use Rattle.segmodel.specs.declared.answer.KeepAnswer.TheVariants as keep
use Rattle.segmodel.specs.declared.entry.Entry.TheVariants as entry
use Rattle.segmodel.specs.declared.answer.Answer.TheVariants as answer
use Rattle.segmodel.proofs.Counts.{both}
use Rattle.segmodel.proofs.Ordered.{Above, above_lower}
use Rattle.segmodel.proofs.Words.{above_absent, keys-put_standing}
use Rattle.segmodel.proofs.Sound.{IsKept-put}
use Rattle.segmodel.proofs.Spans.{has_rows, left_rows, rows_left, space_left, under_some}
use Rattle.segmodel.proofs.Evictions.{GoesOn}
use Rattle.segmodel.proofs.ServingKeeps.{own_below}
use Rattle.segmodel.proofs.Written.{first_owner}

-- ---- one move

-- nothing is moved where all keys are above that key
moved_above : (k : List ℕ) (s : ℕ) (es : List (List ℕ × Cached)) → Above k (keys_of es) → map (in_segment k s) es ≡ es
moved_above k s [] above = refl
moved_above k s (e ∷ es) above =
    ap (λ r. cond (is_eq r) (e.0, with_segment s e.1) e ∷ map (in_segment k s) es) above.0 ∙ ap (λ xs. e ∷ xs) (moved_above k s es above.1)

-- in a map in order, to move an item is to put it in anew
pub moved-inserted : (k : List ℕ) (s : ℕ) (x : Cached) (es : List (List ℕ × Cached)) → IsStrictlySortedBy key_cmp (keys_of es) → lookup (is_at (key_cmp k)) es ≡ Some x
    → map (in_segment k s) es ≡ insert_entry key_cmp es k (with_segment s x)
unfolding IsStrictlySortedBy
moved-inserted k s x [] sorted found = absurd (none-some x found)
moved-inserted k s x (e ∷ es) sorted found = by (key_cmp k e.0) refl found (moved-inserted k s x es sorted.1)
  where
    by : (r : Ordering) → key_cmp k e.0 ≡ r → cond (is_eq r) (Some e.1) (lookup (is_at (key_cmp k)) es) ≡ Some x
        → (lookup (is_at (key_cmp k)) es ≡ Some x → map (in_segment k s) es ≡ insert_entry key_cmp es k (with_segment s x))
        → cond (is_eq r) (e.0, with_segment s e.1) e ∷ map (in_segment k s) es
        ≡ match_ordering r ((k, with_segment s x) ∷ e ∷ es) ((e.0, with_segment s x) ∷ es) (e ∷ insert_entry key_cmp es k (with_segment s x))
    by Less is here rest = absurd (none-some x (sym (above_absent k es (above_lower k e.0 (keys_of es) is sorted.0)) ∙ here))
    by Equal is here rest =
        let all_above : Above k (keys_of es) = subst (λ q. Above q (keys_of es)) (sym (exact_bytes k e.0 is)) sorted.0 in
        ap (λ y. (e.0, with_segment s y) ∷ map (in_segment k s) es) (same_Some e.1 x here) ∙ ap (λ xs. (e.0, with_segment s x) ∷ xs) (moved_above k s es all_above)
    by Greater is here rest = ap (λ xs. e ∷ xs) (rest here)

-- what stands, where something does
pub some_of : (o : Option Cached) → IsSome o → (x : Cached) × (o ≡ Some x)
some_of None is = absurd (false≢true is)
some_of (Some x) is = (x, refl)

-- what stands in a segment
pub in_there : (o : Option Cached) (segment : ℕ) → stands_in segment o ≡ true → (x : Cached) × (o ≡ Some x) × (x.segment ≡ segment)
in_there None segment is = absurd (false≢true is)
in_there (Some x) segment is = (x, refl, grind (arith, is))

-- an item that stands is moved to the current segment, which has its rows left
pub IsKept-moved : (shape : Shape) (key : List ℕ) (frequency t : ℕ) (x : Cached) (state : State) → IsSound shape state → state.current ≡ Some t
    → standing state.cache key ≡ Some x
    → MatchBool (span_under state key == 1) (length (state.filling t).keys < shape.rows) (length (state.filling t).keys + span_under state key ≤ shape.rows)
    → IsSound shape (moved_to key frequency t state)
IsKept-moved shape key frequency t x state sound is stands left = subst (λ items. IsSound shape (with_items items)) (sym same) (record {
  items = placed.items;
  ordered = placed.ordered;
  count = placed.count;
  frequencies = placed.frequencies;
  rows = placed.rows;
  own = placed.own;
  in_use = placed.in_use;
  width = placed.width;
  drawn = placed.drawn;
  words = placed.words;
  held = placed.held;
})
  where
    with_items : List (List ℕ × Cached) → State
    with_items items = record state { cache = record state.cache { items = items }; filling = with_at state.filling t (with_rows (span_under state key) key frequency (state.filling t)) }

    same : map (in_segment key t) state.cache.items ≡ insert_entry key_cmp state.cache.items key (with_segment t x)
    same = moved-inserted key t x state.cache.items sound.ordered stands

    keys_same : keys_in shape (put shape key x.value t state.cache) (bucket_of shape key) ≡ keys_in shape state.cache (bucket_of shape key)
    keys_same = ap (count_by (λ k. bucket_of shape k == bucket_of shape key)) (keys-put_standing key (with_segment t x) state.cache.items sound.ordered (ap is_some stands))

    placed : IsSound shape (record state { cache = put shape key x.value t state.cache; filling = with_at state.filling t (with_rows (span_under state key) key frequency (state.filling t)) })
    placed = IsKept-put shape key x.value (span_under state key) frequency t state sound is (under_some state key)
        (left_rows (span_under state key) (length (state.filling t).keys) shape.rows left)
        (subst (λ n. n ≤ 6 * state.width (bucket_of shape key) + 1) (sym keys_same) (sound.words (bucket_of shape key)))

room_left : (shape : Shape) (state : State) (key : List ℕ) (t : ℕ) → lacks_rows shape (span_under state key) state.filling (Some t) ≡ false
    → MatchBool (span_under state key == 1) (length (state.filling t).keys < shape.rows) (length (state.filling t).keys + span_under state key ≤ shape.rows)
room_left shape state key t room =
    rows_left (span_under state key) (length (state.filling t).keys) shape.rows (has_rows shape (span_under state key) state.filling t room)

-- ---- row by row

-- what every move keeps, a keep keeps, with the number of items moved
pub kept_rows : (shape : Shape) (from to cutoff : ℕ) (P : ℕ → State → Type 0)
    → ((key : List ℕ) (frequency count : ℕ) (state : State) → P count state → stands_in from (standing state.cache key) ≡ true → cutoff ≤ frequency
    → lacks_rows shape (span_under state key) state.filling (Some to) ≡ false → P (count + 1) (moved_to key frequency to state))
    → (keys : List (List ℕ)) (frequencies : List ℕ) (count : ℕ) (state : State) → P count state
    → P (kept (keep_rows shape from to cutoff keys frequencies count state).0) (keep_rows shape from to cutoff keys frequencies count state).1
kept_rows shape from to cutoff P step [] frequencies count state has = has
kept_rows shape from to cutoff P step (key ∷ keys) [] count state has = has
kept_rows shape from to cutoff P step (key ∷ keys) (frequency ∷ frequencies) count state has =
    by (is_last_of state from key keys && nat_le cutoff frequency) (lacks_rows shape (span_under state key) state.filling (Some to)) (is_locked shape state key) refl refl
    (kept_rows shape from to cutoff P step keys frequencies count state has)
    (kept_rows shape from to cutoff P step keys frequencies (count + 1) (moved_to key frequency to state))
  where
    passed : KeepAnswer × State
    passed = keep_rows shape from to cutoff keys frequencies count state

    after_move : KeepAnswer × State
    after_move = keep_rows shape from to cutoff keys frequencies (count + 1) (moved_to key frequency to state)

    result : Bool → Bool → Bool → KeepAnswer × State
    result last out locked = cond (not last) passed (cond out (keep.NoRoom count, state) (cond locked (keep.Busy count, state) after_move))

    by : (last out locked : Bool) → (is_last_of state from key keys && nat_le cutoff frequency) ≡ last → lacks_rows shape (span_under state key) state.filling (Some to) ≡ out
        → P (kept passed.0) passed.1 → (P (count + 1) (moved_to key frequency to state) → P (kept after_move.0) after_move.1)
        → P (kept (result last out locked).0) (result last out locked).1
    by false out locked is room pass go_on = pass
    by true true locked is room pass go_on = has
    by true false true is room pass go_on = has
    by true false false is room pass go_on =
        let parts = both (is_last_of state from key keys) (nat_le cutoff frequency) is in
        go_on (step key frequency count state has (both _ _ parts.0).0 (grind (arith, parts.1)) room)

-- ---- the whole keep

-- what holds of the state, and goes on holding over every move, holds after a keep: there is a segment to move to, or nothing was moved
pub kept_all : (shape : Shape) (old : State) (segment cutoff : ℕ) (P : ℕ → State → Type 0) → P 0 old
    → ((to : ℕ) → is_own shape segment ≡ true → old.current ≡ Some to → segment ≢ to → old.cache.deadline segment ≡ old.cache.deadline to
    → P (kept (keep_rows shape segment to cutoff (old.filling segment).keys (old.filling segment).frequencies 0 old).0)
    (keep_rows shape segment to cutoff (old.filling segment).keys (old.filling segment).frequencies 0 old).1)
    → P (kept (keeps shape old segment cutoff).0) (keeps shape old segment cutoff).1
kept_all shape old segment cutoff P has moves = by (is_own shape segment) (is_in_use (old.filling segment).state) refl
  where
    rows : ℕ → KeepAnswer × State
    rows to = keep_rows shape segment to cutoff (old.filling segment).keys (old.filling segment).frequencies 0 old

    into : (current : Option ℕ) → is_own shape segment ≡ true → old.current ≡ current
        → P (kept (keep_into shape old segment cutoff current).0) (keep_into shape old segment cutoff current).1
    into None own is = has
    into (Some to) own is = pick (segment == to) (old.cache.deadline segment == old.cache.deadline to) refl refl
      where
        given : Bool → Bool → KeepAnswer × State
        given same equal = cond (not same && equal) (rows to) (keep.NoRoom 0, old)

        pick : (same equal : Bool) → (segment == to) ≡ same → (old.cache.deadline segment == old.cache.deadline to) ≡ equal
            → P (kept (given same equal).0) (given same equal).1
        pick true equal at when = has
        pick false false at when = has
        pick false true at when = moves to own is (eqb-false segment to at) (grind (arith, when))

    by : (own used : Bool) → is_own shape segment ≡ own
        → P (kept (cond (not own) (keep.NotYours, old) (cond used (keep_into shape old segment cutoff old.current) (keep.Kept 0, old))).0)
        (cond (not own) (keep.NotYours, old) (cond used (keep_into shape old segment cutoff old.current) (keep.Kept 0, old))).1
    by false used own = has
    by true false own = has
    by true true own = into old.current own refl

-- a keep keeps what always holds of a state
pub IsKept-keeps : (shape : Shape) (old : State) (segment cutoff : ℕ) → IsSound shape old → IsSound shape (keeps shape old segment cutoff).1
IsKept-keeps shape old segment cutoff sound = kept_all shape old segment cutoff (λ count state. IsSound shape state) sound (λ to own is apart equal.
    (kept_rows shape segment to cutoff (λ count state. IsSound shape state × (state.current ≡ Some to)) (λ key frequency count state has stands low room.
    let there = in_there (standing state.cache key) segment stands in
    (IsKept-moved shape key frequency to there.0 state has.0 has.1 there.1 (room_left shape state key to room), has.1))
    (old.filling segment).keys (old.filling segment).frequencies 0 old (sound, is)).0)

-- ---- the history of a keep

pub keep_goes_on : (shape : Shape) (old : State) (segment cutoff : ℕ) (history : List Entry) → IsSound shape old → IsLegal shape history → old.cache ≡ after shape history
    → GoesOn shape history (keeps shape old segment cutoff).1.cache (Adds old.current (Keep segment cutoff) (answer.Keep (keeps shape old segment cutoff).0))
keep_goes_on shape old segment cutoff history sound legal is =
    kept_all shape old segment cutoff (λ count state. GoesOn shape history state.cache (Moves count old.current)) ([], legal, is, none old.current) (λ to own at apart equal.
    subst (λ current. GoesOn shape history (rows to).1.cache (Moves (kept (rows to).0) current)) (sym at) (
    kept_rows shape segment to cutoff
    (λ count state. IsSound shape state × (state.current ≡ Some to) × (state.cache.deadline ≡ old.cache.deadline) × GoesOn shape history state.cache (Moves count (Some to)))
    (λ key frequency count state has stands low room.
    let there = in_there (standing state.cache key) segment stands in
    let own_to = first_owner shape to (has.0.own to (has.0.in_use to has.1)) in
    let follows : Follows shape state.cache (entry.Moved 0 key segment to) = (
      subst (λ o. IsSomeAnd o (λ item. item.segment ≡ segment)) (sym there.1) there.2,
      first_owner shape segment (own_below segment shape.segments_each own),
      own_to,
      apart,
      ap (λ d. d segment) has.2 ∙ equal ∙ ap (λ d. d to) (sym has.2),
    ) in (
      IsKept-moved shape key frequency to there.0 state has.0 has.1 there.1 (room_left shape state key to room),
      has.1,
      has.2,
      (
        entry.Moved 0 key segment to ∷ has.3.0,
        (has.3.1, subst (λ c. Follows shape c (entry.Moved 0 key segment to)) has.3.2 follows),
        ap (λ c. moved key to c) has.3.2,
        (((key, refl), has.3.3.0), (let long : length has.3.0 ≡ count = has.3.3.1 in omega arith)),
      ),
    ))
    (old.filling segment).keys (old.filling segment).frequencies 0 old (sound, at, refl, ([], legal, is, (tt, refl)))
    ).3)
  where
    Moves : ℕ → Option ℕ → List Entry → Type 0
    Moves count current more = MatchOption current ((more ≡ []) × (count ≡ 0)) (λ to. AllByRecursion (IsMoveBetween segment to) more × (length more ≡ count))

    rows : ℕ → KeepAnswer × State
    rows to = keep_rows shape segment to cutoff (old.filling segment).keys (old.filling segment).frequencies 0 old

    none : (current : Option ℕ) → Moves 0 current []
    none None = (refl, refl)
    none (Some to) = (tt, refl)

-- ---- one row of a keep: it is passed over, or ends the keep, or its item is moved

-- the row has the item that stands under its key, by its key and the keys after it
pub last_from : (state : State) (segment row : ℕ) (keys : List (List ℕ)) (key : List ℕ) (stands later : Bool) → (state.filling segment).keys ≡ keys → slice_index_or keys row [] ≡ key
    → stands_in segment (standing state.cache key) ≡ stands → is_among (drop (row + 1) keys) key ≡ later → is_last_at state segment row ≡ (stands && not later)
last_from state segment row keys key stands later same at is last =
    let key_is : slice_index_or (state.filling segment).keys row [] ≡ key = ap (λ (ks : List (List ℕ)). slice_index_or ks row []) same ∙ at in
    (λ i. stands_in segment (standing state.cache (key_is i)) && not (is_among (drop (row + 1) (same i)) (key_is i))) ∙ (λ i. is i && not (last i))

module _ (shape : Shape) (from to cutoff count : ℕ) (state : State) (keys : List (List ℕ)) (frequencies : List ℕ) (row : ℕ)
    (within : row < length keys) (long : length frequencies ≡ length keys) where
  abbrev key : List ℕ
  key = get_or keys row []

  abbrev frequency : ℕ
  frequency = get_or frequencies row 0

  abbrev left : ℕ → State → KeepAnswer × State
  left count state = keep_rows shape from to cutoff (drop (row + 1) keys) (drop (row + 1) frequencies) count state

  abbrev whole : KeepAnswer × State
  whole = keep_rows shape from to cutoff (drop row keys) (drop row frequencies) count state

  -- the row and those after it
  split : whole ≡ keep_rows shape from to cutoff (key ∷ drop (row + 1) keys) (frequency ∷ drop (row + 1) frequencies) count state
  split = λ i. keep_rows shape from to cutoff (drop_more keys row [] within i) (drop_more frequencies row 0 (omega arith) i) count state

  pub passes : (is_last_of state from key (drop (row + 1) keys) && nat_le cutoff frequency) ≡ false → whole ≡ left count state
  passes is = split ∙ rw is refl

  pub ends : (is_last_of state from key (drop (row + 1) keys) && nat_le cutoff frequency) ≡ true
      → lacks_rows shape (span_under state key) state.filling (Some to) ≡ true → whole ≡ (keep.NoRoom count, state)
  ends is out = split ∙ rw (is, out) refl

  pub blocks : (is_last_of state from key (drop (row + 1) keys) && nat_le cutoff frequency) ≡ true
      → lacks_rows shape (span_under state key) state.filling (Some to) ≡ false → is_locked shape state key ≡ true
      → whole ≡ (keep.Busy count, state)
  blocks is room locked = split ∙ rw (is, room, locked) refl

  pub moves : (is_last_of state from key (drop (row + 1) keys) && nat_le cutoff frequency) ≡ true
      → lacks_rows shape (span_under state key) state.filling (Some to) ≡ false → is_locked shape state key ≡ false
      → whole ≡ left (count + 1) (moved_to key frequency to state)
  moves is room free = split ∙ rw (is, room, free) refl

-- the same of the plain cache, whose segment is as it was when the keep began
module _ (old now : Plain) (segment to cutoff count row : ℕ) (shape : now.shape ≡ old.shape) (current : now.current ≡ Some to)
    (same : filling_in now segment ≡ filling_in old segment) (within : row < length (filling_in old segment).keys) (last : Bool) (is_last : last ≡ is_last_at (state_of now) segment row)
    (frequency : ℕ) (has : frequency ≡ get_or (filling_in now segment).frequencies row 0) where
  abbrev keys : List (List ℕ)
  keys = (filling_in old segment).keys

  abbrev frequencies : List ℕ
  frequencies = (filling_in old segment).frequencies

  long : length frequencies ≡ length keys
  long = old.kept.frequencies segment

  frequency_is : get_or frequencies row 0 ≡ frequency
  frequency_is = sym (has ∙ ap (λ (f : Filling). get_or f.frequencies row 0) same)

  last_is : is_last_of (state_of now) segment (get_or keys row []) (drop (row + 1) keys) ≡ last
  last_is = sym (is_last ∙ (λ i. is_last_of (state_of now) segment (get_or ((same i).keys) row []) (drop (row + 1) ((same i).keys))))

  both_are : (high : Bool) → nat_le cutoff frequency ≡ high
      → (is_last_of (state_of now) segment (get_or keys row []) (drop (row + 1) keys) && nat_le cutoff
      (get_or frequencies row 0)) ≡ (last && high)
  both_are high is = λ i. last_is i && (ap (nat_le cutoff) frequency_is ∙ is) i

  rows_out : lacks_rows old.shape (span_under (state_of now) (get_or keys row [])) (state_of now).filling (Some to) ≡ lacks_room now (span_at now segment row)
  rows_out = λ i. lacks_rows (sym shape i) (span_under (state_of now) (get_or (sym same i).keys row [])) (state_of now).filling (sym current i)

  abbrev pub rows_now : KeepAnswer × State
  rows_now = keep_rows old.shape segment to cutoff (drop row keys) (drop row frequencies) count (state_of now)

  abbrev pub rows_then : ℕ → State → KeepAnswer × State
  rows_then count state = keep_rows old.shape segment to cutoff (drop (row + 1) keys) (drop (row + 1) frequencies) count state

  pub row_passes : (last ≡ false) ⊎ ((last ≡ true) × (frequency < cutoff)) → rows_now ≡ rows_then count (state_of now)
  row_passes (inl not_last) = passes old.shape segment to cutoff count (state_of now) keys frequencies row within long
      (both_are (nat_le cutoff frequency) refl ∙ ap (λ b. b && nat_le cutoff frequency) not_last)
  row_passes (inr (is, low)) = passes old.shape segment to cutoff count (state_of now) keys frequencies row within long
      (both_are false (under cutoff frequency low) ∙ ap (λ b. b && false) is)
    where
      under : (m n : ℕ) → n < m → nat_le m n ≡ false
      under m n low = grind (arith, low)

  high_is : cutoff ≤ frequency → nat_le cutoff frequency ≡ true
  high_is high = over cutoff frequency high
    where
      over : (m n : ℕ) → m ≤ n → nat_le m n ≡ true
      over m n high = grind (arith, high)

  pub row_ends : last ≡ true → cutoff ≤ frequency → lacks_room now (span_at now segment row) ≡ true → rows_now ≡ (keep.NoRoom count, state_of now)
  row_ends is high out = ends old.shape segment to cutoff count (state_of now) keys frequencies row within long
      (both_are true (high_is high) ∙ ap (λ b. b && true) is) (rows_out ∙ out)

  pub row_moves : last ≡ true → cutoff ≤ frequency → lacks_room now (span_at now segment row) ≡ false → (moving : List ℕ) → moving ≡ get_or (filling_in now segment).keys row []
      → rows_now ≡ rows_then (count + 1) (moved_to moving frequency to (state_of now))
  row_moves is high room moving found = moves old.shape segment to cutoff count (state_of now) keys frequencies row within long
      (both_are true (high_is high) ∙ ap (λ b. b && true) is) (rows_out ∙ room) refl
      ∙ (λ i. rows_then (count + 1) (moved_to ((ap (λ (f : Filling). get_or f.keys row []) (sym same) ∙ sym found) i) (frequency_is i) to (state_of now)))

-- the frequency of a row, where the segment is found as it was
pub frequency_there : (now old : Plain) (segment row : ℕ) (found : Segment) (frequency : ℕ) → slice_get now.segments.items segment ≡ Some found → filling_in now segment ≡ filling_in old segment
    → row < length (filling_in old segment).keys → frequency ≡ get_or found.frequencies.items row frequency → frequency ≡ get_or (filling_in now segment).frequencies row 0
frequency_there now old segment row found frequency was same within at =
    let is : filling_in now segment ≡ filling_of (Some found) = ap filling_of was in
    let many : length (filling_in now segment).frequencies ≡ length (filling_in now segment).keys = now.kept.frequencies segment in
    let keys : length (filling_in now segment).keys ≡ length (filling_in old segment).keys = ap (λ (f : Filling). length f.keys) same in
    let long : length (filling_in now segment).frequencies ≡ length found.frequencies.items = ap (λ (f : Filling). length f.frequencies) is in
    at ∙ (get_or_default found.frequencies.items row frequency 0 (omega arith) ∙ ap (λ (f : Filling). get_or f.frequencies row 0) (sym is))

-- and its key
pub key_there : (now old : Plain) (segment row : ℕ) (found : Segment) (key : List ℕ) → slice_get now.segments.items segment ≡ Some found → filling_in now segment ≡ filling_in old segment
    → row < length (filling_in old segment).keys → key ≡ get_or found.keys.items row key → key ≡ get_or (filling_in now segment).keys row []
key_there now old segment row found key was same within at =
    let is : filling_in now segment ≡ filling_of (Some found) = ap filling_of was in
    let keys : length (filling_in now segment).keys ≡ length (filling_in old segment).keys = ap (λ (f : Filling). length f.keys) same in
    let long : length (filling_in now segment).keys ≡ length found.keys.items = ap (λ (f : Filling). length f.keys) is in
    at ∙ (get_or_default found.keys.items row key [] (omega arith) ∙ ap (λ (f : Filling). get_or f.keys row []) (sym is))

-- the segment that is filled has memory for the rows that are left in it
pub has_memory : (now : Plain) (to rows : ℕ) → now.current ≡ Some to → HasLeft now to rows → HasRows now.segments.items to rows
has_memory now to rows current left =
    let own : to < now.shape.segments_each = now.kept.own to (now.kept.in_use to current) in
    space_left now.segments.items to rows now.shape.rows (omega (arith, own, now.each_segment, now.segments.ok.0)) now.each_row (now.kept.frequencies to) left

-- rows are left for the item under the key of a row, where room was found for it
pub left_at : (now : Plain) (segment row to : ℕ) (room : Option ℕ) → is_none room ≡ false
    → IfSome room (λ found. now.current ≡ Some found) → IfSome room (λ found. HasLeft now found (span_at now segment row)) → now.current ≡ Some to
    → (key : List ℕ) → key ≡ get_or (filling_in now segment).keys row [] → HasLeft now to (span_under (state_of now) key)
left_at now segment row to None some is left current key found = cc
left_at now segment row to (Some t) some is left current key found =
    subst (λ u. HasLeft now u (span_under (state_of now) key)) (same_Some t to (sym is ∙ current))
    (subst (λ k. HasLeft now t (span_under (state_of now) k)) (sym found) left)

-- the key of the row stands in the segment
pub row_stands : (now : Plain) (segment row : ℕ) (last : Bool) → last ≡ is_last_at (state_of now) segment row → last ≡ true
    → (key : List ℕ) → key ≡ get_or (filling_in now segment).keys row [] → IsSome (standing (state_of now).cache key)
row_stands now segment row last is_last is key found =
    let stands : (stands_in segment (standing (state_of now).cache (get_or (filling_in now segment).keys row [])) &&
    not (is_among (drop (row + 1) (filling_in now segment).keys) (get_or (filling_in now segment).keys row [])))
    ≡ true =
    sym is_last ∙ is in
    some (standing (state_of now).cache key) (ap (λ k. stands_in segment (standing (state_of now).cache k)) found ∙ first _ _ stands)
  where
    first : (b c : Bool) → (b && c) ≡ true → b ≡ true
    first true c is = refl
    first false c is = is

    some : (o : Option Cached) → stands_in segment o ≡ true → IsSome o
    some None is = is
    some (Some x) is = refl
