-- With one pass, an evict is served as the model says.
use Rattle.std.proofs.Common.{◌≡◌, ◌≢◌, ℕ, ◌+◌, ◌&&◌, not, Bool, true, false, cond, List, ◌++◌, length, filter, count_by, IsSomeAnd, Option, Some, None, option_map, refl, sym, ap, subst, ◌∙◌, inl, inr, ⊎_elim, arith, eqb, eq-eqb}
use Rattle.std.specs.Prelude.{◌↔◌, MatchBool}
use Rattle.std.specs.List.{list_any}
use Rattle.std.proofs.lemmas.Bool.{false≢true, cases_Bool, eqb-true}
use Rattle.std.proofs.lemmas.List.Folds.{Any-from_list_any}
use Rattle.std.proofs.lemmas.Option.{same_Some}
use Rattle.std.specs.BTreeMap.{is_at}
use Rattle.segmodel.specs.declared.answer.SegState.TheVariants.{Empty, InUse, Evicted}
use Rattle.segmodel.specs.declared.answer.EvictAnswer.TheVariants as evict
use Rattle.segmodel.specs.declared.answer.Answer.TheVariants as answer
use Rattle.segmodel.specs.declared.answer.Command.TheVariants as command
use Rattle.segmodel.specs.Words.{after, bucket_of, but_for, Cache, Cached, entries_of, EvictAnswer}
use Rattle.segmodel.specs.Words.{Evicts, Filling, is_in, is_locked, is_named, is_of, is_stored}
use Rattle.segmodel.specs.Words.{IsGiven, IsLegal, key_cmp, may_go, NoneStandsIn, SegState}
use Rattle.segmodel.specs.Words.{ServesEvict, standing, StandsIn, taken_out, with_at}
use Rattle.segmodel.proofs.Counts.{count-split, both, and_true}
use Rattle.segmodel.proofs.Ordered.{sorted-after}
use Rattle.segmodel.proofs.ServingKeeps.{found_passes}
use Rattle.segcore.proofs.Standing.{legal}
use Rattle.segbase.specs.declared.pass.PlainPart.{PlainPart}
use Rattle.segbase.specs.Words.{Board, Locked, locked, locked_of, Memo, number, own_segment, Pass}
use Rattle.segbase.specs.Words.{seen, state_in, state_of, trace, used_in, with_state}
use Rattle.segbase.proofs.Alone.{bounced_alone}
use Rattle.segbase.proofs.Known.{state_apart, used_kept}
use Rattle.segevict.proofs.Evictions.{emptied_state}
use Rattle.segstore.specs.Words.{DrawsNothing, GoesOn, RaisesNothing}
use Rattle.segevict.specs.Words.{ended, IsEvictAnswer, IsInTheWay, StoodIn, TakesOut}
use Rattle.segindex.proofs.Since.{between_since}
use Rattle.segsolo.specs.Alone.{frequencies_in, or_empty, item_of, state_at, CountsRows, IsAlone, ServesAlone, NamesLastRows}
use Rattle.segsolo.specs.Stored.{items_stored_in, keys_of_rows, keys_stored_in}
use Rattle.segindex.proofs.QuietPass.{none_since}
use Rattle.segsolo.proofs.AlonePass.{frequencies_as, more_seen, at_state, not_own, own_is, locked_here}
use Rattle.segsolo.proofs.AloneRows.{bring_nothing, frequencies_kept, served, still_named}
use Rattle.segsolo.proofs.AloneRefills.{with_at-same, with_at-other, by_segment}
use Rattle.segsolo.proofs.AloneWidths.{same_widths}
use Rattle.segsolo.proofs.AloneEvictions.{is_evicted, filter_alike, any_of, each_item, items_left, stood_before, stands_still, evictions_unstored, stood_in, length_left, stored_still, evicts_none, on_the_way}
use Rattle.segcore.proofs.Caches.{one_test}
use Rattle.segmodel.proofs.LawLemmas.{count_by-append}

-- a found item is in the segment where its key stands in it
in_segment : (o : Option Cached) (segment : ℕ) (key : List ℕ) (item : Cached) → o ≡ Some item → IsSomeAnd o (λ item. item.segment ≡ segment) → is_in segment (key, item) ≡ true
in_segment None segment key item is stands = absurd stands
in_segment (Some other) segment key item is stands = eq-eqb item.segment segment (sym (ap (λ (i : Cached). i.segment) (same_Some other item is)) ∙ stands)

stands_there : (o : Option Cached) (segment : ℕ) (key : List ℕ) (item : Cached) → o ≡ Some item → is_in segment (key, item) ≡ true → IsSomeAnd o (λ item. item.segment ≡ segment)
stands_there o segment key item is there = subst (λ o. IsSomeAnd o (λ item. item.segment ≡ segment)) (sym is) (eqb-true item.segment segment there)

found_there : (o : Option Cached) (segment : ℕ) → IsSomeAnd o (λ item. item.segment ≡ segment) → (item : Cached) × (o ≡ Some item) × (item.segment ≡ segment)
found_there None segment none = absurd none
found_there (Some item) segment there = (item, refl, there)

-- what an evict leaves of the plain part, whatever becomes of the segment's state
abbrev rest_of : PlainPart → (ℕ → Option ℕ) × Option ℕ × Option ℕ
rest_of x = ((λ s. used_in (own_segment x s)), x.current, x.locked)

rest_emptied : (p q : Pass) (segment : ℕ) → q.plain ≡ with_state segment Evicted (ended segment p.plain) → rest_of q.plain ≡ rest_of (ended segment p.plain)
rest_emptied p q segment now = ap rest_of now ∙ (λ i. ((λ s. used_kept (ended segment p.plain) segment Evicted s i), but_for segment p.plain.current, p.plain.locked))

module _ (b : Board) (p q : Pass) (segment count : ℕ) (was : IsAlone b p) (on : GoesOn b p q)
    (undrawn : DrawsNothing p q) (unraised : RaisesNothing p q) (takes : TakesOut segment count p q)
    (rest : rest_of q.plain ≡ rest_of (ended segment p.plain)) where
  more : seen q ≡ takes.evictions ++ seen p
  more = more_seen b p q takes.evictions was on.quiet takes.entries

  is_legal : IsLegal b.shape (takes.evictions ++ seen p)
  is_legal = subst (IsLegal b.shape) more (legal b.shape (trace q) on.quiet.pass.lawful)

  -- no key of the bucket that the pass has locked is evicted
  unlocked : (key : List ℕ) → is_evicted takes.evictions key ≡ true → is_locked b.shape (state_at b.shape p) key ≡ false
  unlocked key is = ⊎_elim (λ here. absurd (by (locked p) refl here)) (λ other. other) (cases_Bool (is_locked b.shape (state_at b.shape p) key))
    where
      by : (lock : Option Locked) → locked p ≡ lock → is_locked b.shape (state_at b.shape p) key ≡ true → ⊥
      by None free here = false≢true (sym (ap (λ o. is_named o (bucket_of b.shape key)) (was.quiet.locks ∙ ap (option_map (λ (l : Locked). l.bucket)) free)) ∙ here)
      by (Some lock) held here =
          let same : lock.bucket ≡ bucket_of b.shape key =
          eqb-true lock.bucket (bucket_of b.shape key)
          (sym (ap (λ o. is_named o (bucket_of b.shape key)) (was.quiet.locks
          ∙ ap (option_map (λ (l : Locked). l.bucket)) held)) ∙ here) in
          let before = (none_since b p lock was.quiet held).1 in
          let now = (none_since b q lock on.quiet (ap (λ (m : Memo). m.locked) takes.memo ∙ held)).1 in
          let all : entries_of b.shape lock.bucket (seen q) ≡ entries_of b.shape lock.bucket takes.evictions + entries_of b.shape lock.bucket (seen p) =
          ap (entries_of b.shape lock.bucket) more ∙ count_by-append (is_of b.shape lock.bucket) takes.evictions (seen p) in
          evicts_none b.shape (number p) segment lock.bucket key takes.evictions takes.all (omega arith) is (sym same)

  -- ---- what is left

  left_items : (goes : List ℕ × Cached → Bool) → ((key : List ℕ) (item : Cached) → standing (after b.shape (seen p)) key ≡ Some item → is_evicted takes.evictions key ≡ goes (key, item))
      → filter (λ e. not (is_evicted takes.evictions e.0)) (after b.shape (seen p)).items ≡ filter (λ e. not (goes e)) (after b.shape (seen p)).items
  left_items goes same = filter_alike (λ (e : List ℕ × Cached). is_evicted takes.evictions e.0) goes (after b.shape (seen p)).items
      (each_item (λ e. is_evicted takes.evictions e.0 ≡ goes e) (after b.shape (seen p)).items (sorted-after b.shape (seen p)) same)

  cache_left : (goes : List ℕ × Cached → Bool) → ((key : List ℕ) (item : Cached) → standing (after b.shape (seen p)) key ≡ Some item → is_evicted takes.evictions key ≡ goes (key, item))
      → after b.shape (seen q) ≡ (taken_out segment goes (state_at b.shape p)).cache
  cache_left goes same = ap (after b.shape) more ∙ (items_left b.shape (number p) segment (seen p) takes.evictions takes.all
      ∙ ap (λ items. record (after b.shape (seen p)) { items = items }) (left_items goes same))

  -- as many went as were counted
  count_left : (goes : List ℕ × Cached → Bool) → ((key : List ℕ) (item : Cached) → standing (after b.shape (seen p)) key ≡ Some item → is_evicted takes.evictions key ≡ goes (key, item))
      → count ≡ count_by goes (after b.shape (seen p)).items
  count_left goes same =
      let split = count-split goes (after b.shape (seen p)).items in
      let long = length_left b.shape (number p) segment (seen p) takes.evictions takes.all is_legal in
      let stay : length (after b.shape (takes.evictions ++ seen p)).items ≡ length (filter (λ e. not (goes e)) (after b.shape (seen p)).items) =
      ap (λ (c : Cache). length c.items) (items_left b.shape (number p) segment (seen p) takes.evictions takes.all) ∙ ap (λ (l : List (List ℕ × Cached)). length l) (left_items goes same) in
      let counted = takes.counted in omega arith

  items_then : (s : ℕ) → items_stored_in b.shape (seen q) s ≡ items_stored_in b.shape (seen p) s
  items_then s = ap (λ h. items_stored_in b.shape h s) more ∙ stored_still b.shape (number p) segment (seen p) s takes.evictions takes.all

  keys_then : (s : ℕ) → keys_stored_in b.shape (seen q) s ≡ keys_stored_in b.shape (seen p) s
  keys_then s = ap keys_of_rows (items_then s)

  counts : CountsRows b.shape q
  counts s n is = was.used s n (sym (ap (λ r. r.0 s) rest) ∙ is) ∙ ap (λ (keys : List (List ℕ)). length keys) (sym (keys_then s))

  -- an item that is evicted is in the segment, and in no locked bucket
  evicted_here : (key : List ℕ) (item : Cached) → standing (after b.shape (seen p)) key ≡ Some item → is_evicted takes.evictions key ≡ true → is_in segment (key, item) ≡ true
  evicted_here key item is gone = in_segment (standing (after b.shape (seen p)) key) segment key item is (stood_in b.shape (number p) segment (seen p) key takes.evictions takes.all is_legal gone)

  -- the state with a segment told anew, and some items taken out
  at_taken : (goes : List ℕ × Cached → Bool) (filling : ℕ → Filling)
      → ((key : List ℕ) (item : Cached) → standing (after b.shape (seen p)) key ≡ Some item
      → is_evicted takes.evictions key ≡ goes (key, item))
      → ((s : ℕ) → or_empty (state_of q s) ≡ (filling s).state) → ((s : ℕ) → keys_stored_in b.shape (seen p) s ≡ (filling s).keys)
      → ((s : ℕ) → frequencies_in b.shape p s ≡ (filling s).frequencies) → state_at b.shape q ≡ record (taken_out segment goes (state_at b.shape p)) { filling = filling }
  at_taken goes filling same states keys frequencies =
      let widths = same_widths b p q was on undrawn in
      at_state b.shape q (record (taken_out segment goes (state_at b.shape p)) { filling = filling })
      (cache_left goes same) states (λ s. keys_then s
      ∙ keys s) (λ s. frequencies_as b.shape p q s (frequencies_kept b p q was on takes.evictions takes.entries
      (bring_nothing takes.evictions (evictions_unstored (number p) segment takes.evictions takes.all))
      unraised) (items_then s) ∙ frequencies s)
      (ap (λ r. r.1) rest) widths.wide widths.drawn (ap (λ (m : Memo). option_map item_of m.holding) takes.memo) (ap (λ r. r.2) rest)

  -- ---- Evicted

  module _ (before : state_of p segment ≡ Some InUse) (now : q.plain ≡ with_state segment Evicted (ended segment p.plain)) (empty : NoneStandsIn (after b.shape (seen q)) segment) where
    -- all that stood in the segment is evicted
    all_evicted : (key : List ℕ) → StandsIn (after b.shape (seen p)) key segment → is_evicted takes.evictions key ≡ true
    all_evicted key stands = ⊎_elim
        (λ gone. gone)
        (λ stays. absurd (empty key (subst (λ h. StandsIn (after b.shape h) key segment) (sym more) (stands_still b.shape (number p) segment (seen p) key takes.evictions takes.all stands stays))))
        (cases_Bool (is_evicted takes.evictions key))

    same_items : (key : List ℕ) (item : Cached) → standing (after b.shape (seen p)) key ≡ Some item → is_evicted takes.evictions key ≡ is_in segment (key, item)
    same_items key item is = one_test (is_evicted takes.evictions key) (is_in segment (key, item)) (evicted_here key item is)
        (λ there. all_evicted key (stands_there (standing (after b.shape (seen p)) key) segment key item is there))

    abbrev emptied : Filling
    emptied = record { state = Evicted; keys = keys_stored_in b.shape (seen p) segment; frequencies = frequencies_in b.shape p segment }

    state_then : (s : ℕ) → or_empty (state_of q s) ≡ (with_at (state_at b.shape p).filling segment emptied s).state
    state_then = by_segment (λ s. or_empty (state_of q s) ≡ (with_at (state_at b.shape p).filling segment emptied s).state) segment
        (ap or_empty (emptied_state segment p q before now) ∙ sym (ap (λ (f : Filling). f.state) (with_at-same (state_at b.shape p).filling segment segment emptied refl)))
        (λ s ne. ap (λ (x : PlainPart). or_empty (state_in (own_segment x s))) now
        ∙ (ap or_empty (state_apart (ended segment p.plain) segment Evicted s (λ e. ne (sym e)))
        ∙ sym (ap (λ (f : Filling). f.state) (with_at-other (state_at b.shape p).filling segment s emptied
        ne))))

    same_keys : (s : ℕ) → keys_stored_in b.shape (seen p) s ≡ (with_at (state_at b.shape p).filling segment emptied s).keys
    same_keys s = by (eqb segment s) (eqb-true segment s)
      where
        by : (here : Bool) → (here ≡ true → segment ≡ s) → keys_stored_in b.shape (seen p) s ≡ (cond here emptied ((state_at b.shape p).filling s)).keys
        by true same = ap (keys_stored_in b.shape (seen p)) (sym (same refl))
        by false same = refl

    same_frequencies : (s : ℕ) → frequencies_in b.shape p s ≡ (with_at (state_at b.shape p).filling segment emptied s).frequencies
    same_frequencies s = by (eqb segment s) (eqb-true segment s)
      where
        by : (here : Bool) → (here ≡ true → segment ≡ s) → frequencies_in b.shape p s ≡ (cond here emptied ((state_at b.shape p).filling s)).frequencies
        by true same = ap (frequencies_in b.shape p) (sym (same refl))
        by false same = refl

    pub evicts_all : Evicts b.shape (state_at b.shape p) segment (evict.Evicted count) (state_at b.shape q)
    evicts_all = (
      (λ key stands. unlocked key (all_evicted key stands)),
      count_left (is_in segment) same_items,
      at_taken (is_in segment) (with_at (state_at b.shape p).filling segment emptied) same_items state_then same_keys same_frequencies,
    )

  -- ---- Busy

  module _ (now : q.plain ≡ ended segment p.plain) (barred : IsInTheWay b.shape (λ key. StoodIn b.shape segment key p q) p q) where
    abbrev goes : List ℕ × Cached → Bool
    goes = may_go b.shape (state_at b.shape p) segment (is_evicted takes.evictions)

    same_some : (key : List ℕ) (item : Cached) → standing (after b.shape (seen p)) key ≡ Some item → is_evicted takes.evictions key ≡ goes (key, item)
    same_some key item is = one_test (is_evicted takes.evictions key) (goes (key, item))
        (λ gone. and_true (is_in segment (key, item) && not (is_locked b.shape (state_at b.shape p) key)) (is_evicted takes.evictions key)
        (and_true (is_in segment (key, item)) (not (is_locked b.shape (state_at b.shape p) key)) (evicted_here key item is gone) (ap not (unlocked key gone))) gone)
        (λ may. (both (is_in segment (key, item) && not (is_locked b.shape (state_at b.shape p) key)) (is_evicted takes.evictions key) may).1)

    state_still : (s : ℕ) → or_empty (state_of q s) ≡ or_empty (state_of p s)
    state_still s = ap (λ (x : PlainPart). or_empty (state_in (own_segment x s))) now

    -- the bucket that was in the way is the one that the pass has locked
    has_locked : locked_of p ≡ Some (bucket_of b.shape barred.0)
    has_locked = ⊎_elim
        (λ is. is)
        (λ met. let free = bounced_alone b q (bucket_of b.shape barred.0) on.quiet.pass was.one in let many = met in absurd (omega arith))
        barred.2

    -- a key of it stood in the segment, and was stored there
    stood : StandsIn (after b.shape (seen p)) barred.0 segment
    stood =
        let at = barred.1 in let history = at.2.0 in let way = between_since p q history (at.0, at.1, at.2.1) in
        let earlier = on_the_way (number p) segment takes.evictions way.1.0 way.0.0 (seen p) takes.all (sym more ∙ (way.1.1 ∙ ap (λ h. way.1.0 ++ h) way.0.1)) in
        (stood_before b.shape (number p) segment (seen p) barred.0 way.0.0 earlier (subst (λ h. StandsIn (after b.shape h) barred.0 segment) way.0.1 at.2.2)).1

    was_stored : list_any (is_at (key_cmp barred.0)) (keys_stored_in b.shape (seen p) segment) ≡ true
    was_stored =
        let found = found_there (standing (after b.shape (seen p)) barred.0) segment stood in
        let passes = found_passes (is_stored (state_at b.shape p).filling) barred.0 found.0 (after b.shape (seen p)).items was.kept.items found.1 in
        subst (λ s. list_any (is_at (key_cmp barred.0)) (keys_stored_in b.shape (seen p) s) ≡ true) found.2 (both _ _ passes).1

    pub evicts_some : Evicts b.shape (state_at b.shape p) segment (evict.Busy count) (state_at b.shape q)
    evicts_some = (
      Any-from_list_any (is_locked b.shape (state_at b.shape p)) (keys_stored_in b.shape (seen p) segment)
          (any_of (is_locked b.shape (state_at b.shape p)) barred.0 (keys_stored_in b.shape (seen p) segment) was_stored (locked_here b.shape p barred.0 has_locked)),
      (is_evicted takes.evictions, count_left goes same_some, at_taken goes (state_at b.shape p).filling same_some state_still (λ s. refl) (λ s. refl)),
    )

-- ---- served

module _ (b : Board) (p q : Pass) (segment : ℕ) (was : IsAlone b p) (on : GoesOn b p q) (undrawn : DrawsNothing p q) (unraised : RaisesNothing p q) where
  -- a command on an own segment
  own_serves : (told : EvictAnswer) (state : SegState) → CountsRows b.shape q → NamesLastRows b.shape q
      → state_of p segment ≡ Some state → ServesEvict b.shape (state_at b.shape p) segment state told
      (state_at b.shape q)
      → ServesAlone b (command.Evict segment) (answer.Evict told) p q
  own_serves told state counts names is serves = served b (command.Evict segment) (answer.Evict told) p q was on.quiet counts names (
    told,
    refl,
    subst (λ (own : Bool). MatchBool own (ServesEvict b.shape (state_at b.shape p) segment
        (or_empty (state_of p segment)) told (state_at b.shape q))
        (IsGiven evict.NotYours (state_at b.shape p) told (state_at b.shape q)))
        (sym (own_is b p segment state was is))
        (subst (λ o. ServesEvict b.shape (state_at b.shape p) segment (or_empty o) told (state_at b.shape q)) (sym is) serves),
  )

  still : q ≡ p → CountsRows b.shape q
  still same = subst (CountsRows b.shape) (sym same) was.used

  still_names : q ≡ p → NamesLastRows b.shape q
  still_names same = subst (NamesLastRows b.shape) (sym same) was.rows

  names : (count : ℕ) → TakesOut segment count p q → NamesLastRows b.shape q
  names count takes = still_named b p q takes.evictions was on takes.entries (evictions_unstored (number p) segment takes.evictions takes.all)

  -- a segment that isn't in use has nothing to take out
  idle_serves : (count : ℕ) (state : SegState) → state ≢ InUse → count ≡ 0 → q ≡ p → ServesEvict b.shape (state_at b.shape p) segment state (evict.Evicted count) (state_at b.shape q)
  idle_serves count Empty other zero same = (ap evict.Evicted zero, ap (state_at b.shape) same)
  idle_serves count InUse other zero same = absurd (other refl)
  idle_serves count Evicted other zero same = (ap evict.Evicted zero, ap (state_at b.shape) same)

  evict_serves : (told : EvictAnswer) → IsEvictAnswer b.shape segment told p q → ((told ≡ evict.NotYours) ↔ (state_of p segment ≡ None)) → ServesAlone b (command.Evict segment) (answer.Evict told) p q
  evict_serves (evict.Evicted count) (inl (before, takes, now, empty)) not_yours =
      own_serves (evict.Evicted count) InUse (counts b p q segment count was on undrawn unraised takes
      (rest_emptied p q segment now)) (names count takes) before
      (evicts_all b p q segment count was on undrawn unraised takes (rest_emptied p q segment now) before now
      empty)
  evict_serves (evict.Evicted count) (inr (other, zero, same)) not_yours = by (state_of p segment) refl
    where
      by : (kept : Option SegState) → state_of p segment ≡ kept → ServesAlone b (command.Evict segment) (answer.Evict (evict.Evicted count)) p q
      by None is = let no : evict.Evicted count ≡ evict.NotYours = not_yours.1 is in cc
      by (Some state) is = own_serves (evict.Evicted count) state (still same) (still_names same) is (idle_serves count state (λ used. other (is ∙ ap Some used)) zero same)
  evict_serves evict.NotYours same not_yours = served b (command.Evict segment) (answer.Evict evict.NotYours) p q was on.quiet (still same) (still_names same) (
    evict.NotYours,
    refl,
    subst (λ (own : Bool). MatchBool own (ServesEvict b.shape (state_at b.shape p) segment
        (or_empty (state_of p segment)) evict.NotYours (state_at b.shape q))
        (IsGiven evict.NotYours (state_at b.shape p) evict.NotYours (state_at b.shape q)))
        (sym (not_own b p segment was (not_yours.0 refl))) (refl, ap (state_at b.shape) same),
  )
  evict_serves (evict.Busy count) (before, takes, now, barred) not_yours =
      own_serves (evict.Busy count) InUse (counts b p q segment count was on undrawn unraised takes
      (ap rest_of now)) (names count takes) before
      (evicts_some b p q segment count was on undrawn unraised takes (ap rest_of now) now barred)

pub serves_evict : (b : Board) (p q : Pass) (segment : ℕ) (told : EvictAnswer) → IsAlone b p → GoesOn b p q → DrawsNothing p q → RaisesNothing p q
    → IsEvictAnswer b.shape segment told p q → ((told ≡ evict.NotYours) ↔ (state_of p segment ≡ None)) → ServesAlone b (command.Evict segment) (answer.Evict told) p q
serves_evict b p q segment told was on undrawn unraised is not_yours = evict_serves b p q segment was on undrawn unraised told is not_yours
