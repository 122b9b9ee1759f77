-- Serving keeps what always holds of a state.
use Rattle.std.proofs.Common.{◌≡◌, ◌≢◌, ◌⊎◌, Option, Some, None, ℕ, ◌+◌, ◌*◌, ◌<◌, ◌≤◌, ◌==◌, ◌&&◌, ◌||◌, Bool, true, false, cond, List, [], ◌++◌, length, replicate, refl, sym, ap, ◌∙◌, arith, not, nat_lt, filter, count_by, eq-eqb, inl, inr, subst}
use Rattle.std.proofs.lemmas.Bool.{cases_eq, ne_eqb, false≢true}
use Rattle.std.proofs.lemmas.List.Folds.{list_any-append}
use Rattle.std.specs.List.{list_any}
use Rattle.std.specs.BTreeMap.{insert_entry, is_at}
use Rattle.segword.specs.Words.{Shape}
use Rattle.segmodel.specs.Words.{Cached}
use Rattle.segmodel.specs.declared.answer.SegState.TheVariants.{Empty, InUse, Evicted}
use Rattle.segmodel.specs.declared.answer.RefillAnswer.TheVariants.{Refilled}
use Rattle.segmodel.specs.Cache.{key_cmp, with_at, keys_in, put, deleted}
use Rattle.segmodel.specs.State.{State, Filling, but_for, is_in, is_in_use, is_among, is_stored, IsSound, fresh}
use Rattle.segword.specs.Words.{span_of}
use Rattle.segmodel.specs.Serving.{with_rows, placed, may_chain, chained, with_filling, taken_out, after_refill}
use Rattle.segmodel.proofs.Counts.{item, both, and_true, all_also, all_filter, all-insert_entry, count_none, count-insert_entry, count-filter}
use Rattle.segmodel.specs.Places.{bucket_of}
use Rattle.segmodel.proofs.Ordered.{sorted-insert_entry, sorted-filter, sorted-after}
use Rattle.segmodel.proofs.Spans.{among_rows, keys_with, pushed_frequencies, pushed_rows, span_some, state_with}
use Rattle.segmodel.proofs.Words.{count-keys_put, count-keys_filter}

-- another state that is the same
pub IsKept-same : {shape : Shape} {old new : State} → new ≡ old → IsSound shape old → IsSound shape new
IsKept-same {shape = shape} same kept = subst (λ s. IsSound shape s) (sym same) kept

-- nothing stands at the start
pub IsKept-fresh : (shape : Shape) → IsSound shape (fresh shape)
IsKept-fresh shape = record {
  items = refl;
  count = λ s. omega arith;
  frequencies = λ s. refl;
  rows = λ s. omega arith;
  own = λ s used. absurd (false≢true used);
  in_use = λ s is. cc;
  ordered = sorted-after shape [];
  width = λ b. (omega arith, omega arith);
  drawn = omega arith;
  words = λ b. omega arith;
  held = λ item is. cc;
}

pub changed : (f : ℕ → Filling) (t s : ℕ) (x : Filling) → t ≡ s → with_at f t x s ≡ x
changed f t s x e = rw (eq-eqb t s e) refl

pub unchanged : (f : ℕ → Filling) (t s : ℕ) (x : Filling) → (t ≡ s → ⊥) → with_at f t x s ≡ f s
unchanged f t s x apart = rw (ne_eqb t s apart) refl

-- a segment that was filled stays filled, where another or the same is changed to one that was filled too
filled_still : (f : ℕ → Filling) (t s : ℕ) (x : Filling) → (x.state ≡ Empty → (f t).state ≡ Empty) → (f s).state ≢ Empty → (with_at f t x s).state ≢ Empty
filled_still f t s x emptied filled is = elim (cases_eq t s) [
  | inl e ↦ filled (subst (λ r. (f r).state ≡ Empty) e (emptied (sym (ap (λ (y : Filling). y.state) (changed f t s x e)) ∙ is)))
  | inr apart ↦ filled (sym (ap (λ (y : Filling). y.state) (unchanged f t s x apart)) ∙ is)
]

-- an item of a segment that stays as it is stays stored
stored_still : (f : ℕ → Filling) (t : ℕ) (x : Filling) (e : List ℕ × Cached) → (t ≡ e.1.segment → ⊥) → is_stored f e ≡ true → is_stored (with_at f t x) e ≡ true
stored_still f t x e apart stored =
    subst (λ y. (is_in_use y.state && is_among y.keys e.0) ≡ true) (sym (unchanged f t e.1.segment x apart)) stored

among_more : (keys later : List (List ℕ)) (q : List ℕ) → is_among keys q ≡ true → is_among (keys ++ later) q ≡ true
among_more keys later q is = list_any-append (is_at (key_cmp q)) keys later ∙ ap (λ b. b || list_any (is_at (key_cmp q)) later) is

among_last : (keys later : List (List ℕ)) (k : List ℕ) → is_among later k ≡ true → is_among (keys ++ later) k ≡ true
among_last keys later k is = list_any-append (is_at (key_cmp k)) keys later ∙ ap (λ b. list_any (is_at (key_cmp k)) keys || b) is ∙ or_true (is_among keys k)
  where
    or_true : (b : Bool) → (b || true) ≡ true
    or_true true = refl
    or_true false = refl

-- as many frequencies as keys, where another segment or the same is changed to one that has as many
lengths : (f : ℕ → Filling) (t s : ℕ) (x : Filling) → length x.frequencies ≡ length x.keys → length (f s).frequencies ≡ length (f s).keys
    → length (with_at f t x s).frequencies ≡ length (with_at f t x s).keys
lengths f t s x long had = elim (cases_eq t s) [
  | inl e ↦ rw (changed f t s x e) long
  | inr apart ↦ rw (unchanged f t s x apart) had
]

-- a key is put into the current segment, which has so many rows left, with some frequency
pub IsKept-put : (shape : Shape) (key value : List ℕ) (rows frequency t : ℕ) (state : State)
    → IsSound shape state → state.current ≡ Some t → 1 ≤ rows → length (state.filling t).keys + rows ≤ shape.rows
    → keys_in shape (put shape key value t state.cache) (bucket_of shape key) ≤ 6 * state.width (bucket_of shape key) + 1
    → IsSound shape (record state { cache = put shape key value t state.cache; filling = with_at state.filling t (with_rows rows key frequency (state.filling t)) })
IsKept-put shape key value rows frequency t state kept is some left fits = record {
  items = all-insert_entry (is_stored new) key (item value t) state.cache.items here (all_also (is_stored state.filling) (is_stored new) still state.cache.items kept.items);
  count = λ s. count s (cases_eq t s) (count-insert_entry s t key value state.cache.items);
  frequencies = λ s. lengths state.filling t s more long (kept.frequencies s);
  rows = λ s. fewer s (cases_eq t s);
  own = λ s. own s (cases_eq t s);
  in_use = λ s e. in_use s (cases_eq t s) e;
  ordered = sorted-insert_entry key (item value t) state.cache.items kept.ordered;
  width = kept.width;
  drawn = kept.drawn;
  words = λ b. words b (cases_eq (bucket_of shape key) b);
  held = λ x e. filled_still state.filling t x.segment more (λ z. sym same_state ∙ z) (kept.held x e);
}
  where
    words : (b : ℕ) → (bucket_of shape key ≡ b) ⊎ (bucket_of shape key ≡ b → ⊥) → keys_in shape (put shape key value t state.cache) b ≤ 6 * state.width b + 1
    words b (inl e) = subst (λ c. keys_in shape (put shape key value t state.cache) c ≤ 6 * state.width c + 1) e fits
    words b (inr apart) =
        let most = count-keys_put (λ k. bucket_of shape k == b) key (item value t) state.cache.items in
        let most' : keys_in shape (put shape key value t state.cache) b ≤ keys_in shape state.cache b + 0 = rw (ne_eqb (bucket_of shape key) b apart) at most in
        let had = kept.words b in
        omega arith

    more : Filling
    more = with_rows rows key frequency (state.filling t)

    same_state : more.state ≡ (state.filling t).state
    same_state = state_with rows key frequency (state.filling t)

    long : length more.frequencies ≡ length more.keys
    long = pushed_frequencies rows key frequency (state.filling t) ∙ (ap (λ n. n + rows) (kept.frequencies t) ∙ sym (pushed_rows rows key frequency (state.filling t)))

    new : ℕ → Filling
    new = with_at state.filling t more

    pushed : length more.keys ≡ length (state.filling t).keys + rows
    pushed = pushed_rows rows key frequency (state.filling t)

    here : is_stored new (key, item value t) ≡ true
    here = subst (λ y. (is_in_use y.state && is_among y.keys key) ≡ true) (sym (changed state.filling t t more refl))
        (and_true _ _ (ap is_in_use same_state ∙ kept.in_use t is)
        (ap (λ keys. is_among keys key) (keys_with rows key frequency (state.filling t)) ∙ among_last (state.filling t).keys (replicate rows key) key (among_rows rows key some)))

    still : (e : List ℕ × Cached) → is_stored state.filling e ≡ true → is_stored new e ≡ true
    still e stored = by (cases_eq t e.1.segment)
      where
        by : (t ≡ e.1.segment) ⊎ (t ≡ e.1.segment → ⊥) → is_stored new e ≡ true
        by (inl same) =
            let parts = both _ _ (subst (λ s. (is_in_use (state.filling s).state && is_among (state.filling s).keys e.0) ≡ true) (sym same) stored) in
            subst (λ y. (is_in_use y.state && is_among y.keys e.0) ≡ true) (sym (changed state.filling t e.1.segment more same))
            (and_true _ _ (ap is_in_use same_state ∙ parts.0)
            (ap (λ keys. is_among keys e.0) (keys_with rows key frequency (state.filling t)) ∙ among_more (state.filling t).keys (replicate rows key) e.0 parts.1))
        by (inr apart) = stored_still state.filling t more e apart stored

    count : (s : ℕ) → (t ≡ s) ⊎ (t ≡ s → ⊥) → count_by (is_in s) (insert_entry key_cmp state.cache.items key (item value t)) ≤ count_by (is_in s) state.cache.items + cond (t == s) 1 0
        → count_by (is_in s) (insert_entry key_cmp state.cache.items key (item value t)) ≤ length (new s).keys
    count s (inl e) most =
        let most' : count_by (is_in s) (insert_entry key_cmp state.cache.items key (item value t)) ≤ count_by (is_in s) state.cache.items + 1 = rw (eq-eqb t s e) at most in
        let had : count_by (is_in s) state.cache.items ≤ length (state.filling t).keys = rw e (kept.count s) in
        let long = pushed in
        rw (changed state.filling t s more e) (omega arith)
    count s (inr apart) most =
        let most' : count_by (is_in s) (insert_entry key_cmp state.cache.items key (item value t)) ≤ count_by (is_in s) state.cache.items + 0 = rw (ne_eqb t s apart) at most in
        let had = kept.count s in
        rw (unchanged state.filling t s more apart) (omega arith)

    fewer : (s : ℕ) → (t ≡ s) ⊎ (t ≡ s → ⊥) → length (new s).keys ≤ shape.rows
    fewer s (inl e) = let long = pushed in rw (changed state.filling t s more e) (omega arith)
    fewer s (inr apart) = rw (unchanged state.filling t s more apart) (kept.rows s)

    own : (s : ℕ) → (t ≡ s) ⊎ (t ≡ s → ⊥) → is_in_use (new s).state ≡ true → s < shape.segments_each
    own s (inl e) used = kept.own s (subst (λ r. is_in_use (state.filling r).state ≡ true) e (kept.in_use t is))
    own s (inr apart) used = kept.own s (ap (λ y. is_in_use y.state) (sym (unchanged state.filling t s more apart)) ∙ used)

    in_use : (s : ℕ) → (t ≡ s) ⊎ (t ≡ s → ⊥) → state.current ≡ Some s → is_in_use (new s).state ≡ true
    in_use s (inl e) at_s = ap (λ y. is_in_use y.state) (changed state.filling t s more e) ∙ ap is_in_use same_state ∙ kept.in_use t is
    in_use s (inr apart) at_s = ap (λ y. is_in_use y.state) (unchanged state.filling t s more apart) ∙ kept.in_use s at_s

-- a chain that is one bucket longer, as it may be
IsKept-chained : (shape : Shape) (b : ℕ) (chains : Bool) (state : State) → IsSound shape state → (chains ≡ true → may_chain shape state b ≡ true)
    → IsSound shape (chained b chains state)
IsKept-chained shape b false state kept may = kept
IsKept-chained shape b true state kept may = record {
  items = kept.items;
  count = kept.count;
  frequencies = kept.frequencies;
  rows = kept.rows;
  own = kept.own;
  in_use = kept.in_use;
  ordered = kept.ordered;
  held = kept.held;
  width = λ c. width c (cases_eq b c);
  drawn = let room : state.drawn < shape.overflow = grind (arith, may_parts.1) in omega arith;
  words = λ c. words c (cases_eq b c);
}
  where
    may_parts : (nat_lt (state.width b) 4 ≡ true) × (nat_lt state.drawn shape.overflow ≡ true)
    may_parts = both _ _ (may refl)

    short : state.width b < 4
    short = grind (arith, may_parts.0)

    width : (c : ℕ) → (b ≡ c) ⊎ (b ≡ c → ⊥) → (1 ≤ with_at state.width b (state.width b + 1) c) × (with_at state.width b (state.width b + 1) c ≤ 4)
    width c (inl e) = let few = short in rw (eq-eqb b c e) (omega arith, omega arith)
    width c (inr apart) = rw (ne_eqb b c apart) (kept.width c)

    words : (c : ℕ) → (b ≡ c) ⊎ (b ≡ c → ⊥) → keys_in shape state.cache c ≤ 6 * with_at state.width b (state.width b + 1) c + 1
    words c (inl e) = let had : keys_in shape state.cache c ≤ 6 * state.width b + 1 = rw e (kept.words c) in rw (eq-eqb b c e) (omega arith)
    words c (inr apart) = rw (ne_eqb b c apart) (kept.words c)

-- a key is put into the current segment, and its chain is one bucket longer where a word lacks
pub IsKept-stored : (shape : Shape) (key value : List ℕ) (t : ℕ) (chains : Bool) (state : State)
    → IsSound shape state → state.current ≡ Some t → length (state.filling t).keys + span_of key value ≤ shape.rows → (chains ≡ true → may_chain shape state (bucket_of shape key) ≡ true)
    → keys_in shape (put shape key value t state.cache) (bucket_of shape key) ≤ 6 * (chained (bucket_of shape key) chains state).width (bucket_of shape key) + 1
    → IsSound shape (chained (bucket_of shape key) chains (placed shape key value t state))
IsKept-stored shape key value t false state kept is left may fits = IsKept-put shape key value (span_of key value) 1 t state kept is (span_some key value) left fits
IsKept-stored shape key value t true state kept is left may fits =
    IsKept-put shape key value (span_of key value) 1 t (chained (bucket_of shape key) true state) (IsKept-chained shape (bucket_of shape key) true state kept may) is (span_some key value) left fits

-- a key that is deleted
pub IsKept-deleted : (shape : Shape) (key : List ℕ) (state : State) → IsSound shape state → IsSound shape (record state { cache = deleted shape key state.cache })
IsKept-deleted shape key state kept = record {
  items = all_filter (is_stored state.filling) (is_stored state.filling) (λ e. not (is_at (key_cmp key) e.0)) (λ e stored stays. stored) state.cache.items kept.items;
  count = λ s. let had = kept.count s in let less = count-filter (is_in s) (λ e. not (is_at (key_cmp key) e.0)) state.cache.items in omega arith;
  frequencies = kept.frequencies;
  rows = kept.rows;
  own = kept.own;
  in_use = kept.in_use;
  ordered = sorted-filter (λ e. not (is_at (key_cmp key) e.0)) state.cache.items kept.ordered;
  width = kept.width;
  drawn = kept.drawn;
  words = λ b. let had = kept.words b in let less = count-keys_filter (λ k. bucket_of shape k == b) (λ e. not (is_at (key_cmp key) e.0)) state.cache.items in omega arith;
  held = kept.held;
}

-- the current segment but for one was current, and isn't that one
current_but : (t : ℕ) (o : Option ℕ) (s : ℕ) → but_for t o ≡ Some s → (o ≡ Some s) × (t ≡ s → ⊥)
current_but t None s e = cc
current_but t (Some m) s e = elim (cases_eq m t) [
  | inl same ↦ let none : None ≡ Some s = (sym (rw (eq-eqb m t same) refl) ∙ e) in cc
  | inr apart ↦ let some : Some m ≡ Some s = (sym (rw (ne_eqb m t apart) refl) ∙ e) in (some, λ h. apart cc)
]

-- some items are taken out, and the segment stays in use
pub IsKept-taken : (shape : Shape) (t : ℕ) (goes : List ℕ × Cached → Bool) (state : State) → IsSound shape state → IsSound shape (taken_out t goes state)
IsKept-taken shape t goes state kept = record {
  items = all_filter (is_stored state.filling) (is_stored state.filling) (λ e. not (goes e)) (λ e stored stays. stored) state.cache.items kept.items;
  count = λ s. let had = kept.count s in let less = count-filter (is_in s) (λ e. not (goes e)) state.cache.items in omega arith;
  frequencies = kept.frequencies;
  rows = kept.rows;
  own = kept.own;
  in_use = λ s e. kept.in_use s (current_but t state.current s e).0;
  ordered = sorted-filter (λ e. not (goes e)) state.cache.items kept.ordered;
  width = kept.width;
  drawn = kept.drawn;
  words = λ b. let had = kept.words b in let less = count-keys_filter (λ k. bucket_of shape k == b) (λ e. not (goes e)) state.cache.items in omega arith;
  held = kept.held;
}

-- all items of a segment are taken out, and it is evicted
pub IsKept-evicted : (shape : Shape) (t : ℕ) (state : State) → IsSound shape state
    → IsSound shape (with_filling t Evicted (state.filling t).keys (state.filling t).frequencies (taken_out t (is_in t) state))
IsKept-evicted shape t state kept = record {
  items = all_filter (is_stored state.filling) (is_stored (with_at state.filling t gone)) (λ e. not (is_in t e)) still state.cache.items kept.items;
  count = λ s. count s (cases_eq t s);
  frequencies = λ s. lengths state.filling t s gone (kept.frequencies t) (kept.frequencies s);
  rows = λ s. rows s (cases_eq t s);
  own = λ s. own s (cases_eq t s);
  in_use = λ s e. in_use s (current_but t state.current s e);
  ordered = sorted-filter (λ e. not (is_in t e)) state.cache.items kept.ordered;
  width = kept.width;
  drawn = kept.drawn;
  words = λ b. let had = kept.words b in let less = count-keys_filter (λ k. bucket_of shape k == b) (λ e. not (is_in t e)) state.cache.items in omega arith;
  held = λ x e. filled_still state.filling t x.segment gone (λ z. cc) (kept.held x e);
}
  where
    gone : Filling
    gone = record { state = Evicted; keys = (state.filling t).keys; frequencies = (state.filling t).frequencies }

    still : (e : List ℕ × Cached) → is_stored state.filling e ≡ true → not (is_in t e) ≡ true → is_stored (with_at state.filling t gone) e ≡ true
    still e stored stays = stored_still state.filling t gone e (λ same. false≢true (sym (ap not (eq-eqb e.1.segment t (sym same))) ∙ stays)) stored

    count : (s : ℕ) → (t ≡ s) ⊎ (t ≡ s → ⊥) → count_by (is_in s) (filter (λ e. not (is_in t e)) state.cache.items) ≤ length (with_at state.filling t gone s).keys
    count s (inl e) =
        let had : count_by (is_in s) state.cache.items ≤ length (state.filling t).keys = rw e (kept.count s) in
        let less = count-filter (is_in s) (λ e. not (is_in t e)) state.cache.items in
        rw (changed state.filling t s gone e) (omega arith)
    count s (inr apart) =
        let had = kept.count s in
        let less = count-filter (is_in s) (λ e. not (is_in t e)) state.cache.items in
        rw (unchanged state.filling t s gone apart) (omega arith)

    rows : (s : ℕ) → (t ≡ s) ⊎ (t ≡ s → ⊥) → length (with_at state.filling t gone s).keys ≤ shape.rows
    rows s (inl e) = rw (changed state.filling t s gone e) (kept.rows t)
    rows s (inr apart) = rw (unchanged state.filling t s gone apart) (kept.rows s)

    own : (s : ℕ) → (t ≡ s) ⊎ (t ≡ s → ⊥) → is_in_use (with_at state.filling t gone s).state ≡ true → s < shape.segments_each
    own s (inl e) used = absurd (false≢true (ap (λ y. is_in_use y.state) (sym (changed state.filling t s gone e)) ∙ used))
    own s (inr apart) used = kept.own s (ap (λ y. is_in_use y.state) (sym (unchanged state.filling t s gone apart)) ∙ used)

    in_use : (s : ℕ) → (state.current ≡ Some s) × (t ≡ s → ⊥) → is_in_use (with_at state.filling t gone s).state ≡ true
    in_use s h = ap (λ y. is_in_use y.state) (unchanged state.filling t s gone h.1) ∙ kept.in_use s h.0

-- an item of a segment in use isn't in one that is not in use
elsewhere : (state : State) (t : ℕ) → is_in_use (state.filling t).state ≡ false → (e : List ℕ × Cached) → is_stored state.filling e ≡ true → t ≡ e.1.segment → ⊥
elsewhere state t unused e stored same =
    false≢true (sym unused ∙ ap (λ s. is_in_use (state.filling s).state) same ∙ (both _ _ stored).0)

-- in a segment that is not in use nothing stands
pub none_in_unused : (shape : Shape) (state : State) (t : ℕ) → IsSound shape state → is_in_use (state.filling t).state ≡ false → count_by (is_in t) state.cache.items ≡ 0
none_in_unused shape state t kept unused = count_none (is_in t) state.cache.items
    (all_also (is_stored state.filling) (λ e. not (is_in t e)) (λ e stored. ap not (ne_eqb e.1.segment t (λ same. elsewhere state t unused e stored (sym same)))) state.cache.items kept.items)

-- an own segment that is not in use is refilled
pub IsKept-refilled : (shape : Shape) (t d : ℕ) (state : State) → IsSound shape state → is_in_use (state.filling t).state ≡ false → t < shape.segments_each
    → IsSound shape (after_refill t d Refilled state)
IsKept-refilled shape t d state kept unused mine = record {
  items = all_also (is_stored state.filling) (is_stored (with_at state.filling t anew))
      (λ e stored. stored_still state.filling t anew e (elsewhere state t unused e stored) stored) state.cache.items
      kept.items;
  count = λ s. count s (cases_eq t s);
  frequencies = λ s. lengths state.filling t s anew refl (kept.frequencies s);
  rows = λ s. rows s (cases_eq t s);
  own = λ s. own s (cases_eq t s);
  in_use = λ s e. in_use s e;
  ordered = kept.ordered;
  width = kept.width;
  drawn = kept.drawn;
  words = kept.words;
  held = λ x e. filled_still state.filling t x.segment anew (λ z. cc) (kept.held x e);
}
  where
    anew : Filling
    anew = record { state = InUse; keys = []; frequencies = [] }

    count : (s : ℕ) → (t ≡ s) ⊎ (t ≡ s → ⊥) → count_by (is_in s) state.cache.items ≤ length (with_at state.filling t anew s).keys
    count s (inl e) = let none : count_by (is_in s) state.cache.items ≡ 0 = rw (← e) (none_in_unused shape state t kept unused) in rw (changed state.filling t s anew e) (omega arith)
    count s (inr apart) = rw (unchanged state.filling t s anew apart) (kept.count s)

    rows : (s : ℕ) → (t ≡ s) ⊎ (t ≡ s → ⊥) → length (with_at state.filling t anew s).keys ≤ shape.rows
    rows s (inl e) = rw (changed state.filling t s anew e) (omega arith)
    rows s (inr apart) = rw (unchanged state.filling t s anew apart) (kept.rows s)

    own : (s : ℕ) → (t ≡ s) ⊎ (t ≡ s → ⊥) → is_in_use (with_at state.filling t anew s).state ≡ true → s < shape.segments_each
    own s (inl e) used = omega arith
    own s (inr apart) used = kept.own s (ap (λ y. is_in_use y.state) (sym (unchanged state.filling t s anew apart)) ∙ used)

    in_use : (s : ℕ) → Some t ≡ Some s → is_in_use (with_at state.filling t anew s).state ≡ true
    in_use s e = let same : t ≡ s = cc in ap (λ y. is_in_use y.state) (changed state.filling t s anew same)
