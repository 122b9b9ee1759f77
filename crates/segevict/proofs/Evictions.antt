-- The eviction of a segment, row by row: what was taken out so far, and that no key stands there when all its rows are gone.
use Rattle.std.proofs.Common.{◌≡◌, ◌≢◌, ℕ, zero, suc, ◌+◌, ◌<◌, ◌≤◌, Bool, true, false, cond, eqb, is_some, List, [], ◌∷◌, ◌++◌, length, Option, Some, None, refl, sym, ap, ◌∙◌, subst, inl, inr, ⊎_elim, arith}
use Rattle.std.proofs.lemmas.Bool.{cases_eq, cases_Bool, cond-true, cond-false, eq-eqb, ne_eqb, ltb-true, false≢true}
use Rattle.std.proofs.lemmas.Option.{none-some, same_Some}
use Rattle.segword.specs.Words.{Shape}
use Rattle.segmodel.specs.declared.entry.Entry.TheVariants as entry
use Rattle.segmodel.specs.declared.answer.EvictAnswer.TheVariants as evict
use Rattle.segmodel.specs.declared.answer.SegState.TheVariants.{InUse, Evicted}
use Rattle.segmodel.specs.Words.{after, Begins, bucket_of, but_for, Cached, Entry, EvictAnswer}
use Rattle.segmodel.specs.Words.{NoneStandsIn}
use Rattle.segcore.specs.Count as traces
use Rattle.segcore.specs.Words.{bounced, cached, row_after, RowGone}
use Rattle.segcore.proofs.Counts.{count_both}
use Rattle.segcore.proofs.Caches.{stands as standing_at, has_value}
use Rattle.segcore.proofs.Standing.{coherent}
use Rattle.segbase.specs.declared.pass.PlainPart.{PlainPart}
use Rattle.segbase.specs.Words.{Board, count, current_of, IsPassOf, mine, number, own_segment, Pass, seen}
use Rattle.segbase.specs.Words.{state_in, state_of, trace, used_of, with_current, with_state}
use Rattle.segbase.proofs.Known.{state_set, state_apart, used_kept, owner_stated, deadline_stated}
use Rattle.segbase.proofs.Owned.{owner_of, state_there, still_pass}
use Rattle.segstore.specs.Words.{DrawsNothing, GoesOn, IsQuiet, KeepsSegments, memo, ReadsNothing, TakesAtMost}
use Rattle.segevict.specs.Steps.{most_steps_of_evict_row}
use Rattle.segstore.proofs.Keeping.{same_states, same_used}
use Rattle.segstore.proofs.Refills.{idles}
use Rattle.segevict.specs.declared.eviction.EvictRowAnswer.{EvictRowAnswer}
use Rattle.segevict.specs.declared.eviction.EvictRowAnswer.TheVariants as evict_row
use Rattle.segevict.specs.EvictedRow.{EvictsItem}
use Rattle.segevict.specs.Evicting.{AreEvictions, CostsOfEvict, ended, EvictsInOrder, EvictsOver, LooksForFirst}
use Rattle.segevict.specs.Evicting.{IsEvictAnswer, TakesOut}
use Rattle.segevict.specs.Naming.{AreUnnamed}
use Rattle.segevict.specs.Rows.{HasRow, KeepsGone}
use Rattle.segevict.specs.Tries.{IsInTheWay, StoodIn, TriesFor}
use Rattle.segevict.specs.Unlinking.{EvictsRow}
use Rattle.segstore.proofs.Draws.{draws_none_then}
use Rattle.segevict.proofs.EvictedRow.{row_out}
use Rattle.segevict.proofs.KeyTries.{of_row, rows_tried_then, stood_before}
use Rattle.segevict.proofs.RowsOut.{goes_then, keeps_gone_then}

-- ---- a change of the plain part alone

module _ (b : Board) (p : Pass) (x : PlainPart) (quiet : IsQuiet b p) (same : owner_of x ≡ owner_of p.plain) where
  pub plain_goes_on : x.locked ≡ p.plain.locked → x.is_holding ≡ p.plain.is_holding → KeepsSegments b (record p { plain = x }) → GoesOn b p (record p { plain = x })
  plain_goes_on locks holds segments = record {
    quiet = record {
      pass = still_pass b p x quiet.pass same;
      segments = segments;
      locks = locks ∙ quiet.locks;
      bits = λ bucket has. locks ∙ quiet.bits bucket has;
      lock = quiet.lock;
      holds = holds ∙ quiet.holds;
      inside = quiet.inside;
      hold = quiet.hold;
    };
    same = refl;
    marked = ([], refl);
    seen = ([], refl);
    steps = inr (refl, refl);
  }

-- ---- counts only grow

pub bounced_grows : (p q : Pass) (k : ℕ) → number q ≡ number p → Begins (trace p) (trace q) → count (bounced k) p ≤ count (bounced k) q
bounced_grows p q k same grew =
    subst (λ n. count (bounced k) p ≤ traces.count (bounced k) n (trace q)) (sym same)
    (subst (λ h. count (bounced k) p ≤ traces.count (bounced k) (number p) h) (sym grew.1) (let both =
    count_both (bounced k) (number p) grew.0 (trace p) in omega (arith, both)))

-- ---- row by row

-- the rows from one on were gone over, up to this one, and those before it are gone
pub record Evicting (b : Board) (segment from row taken : ℕ) (p q : Pass) : Type 0 where
  pub on : GoesOn b p q
  pub keeps : KeepsGone b segment p q
  pub plain : q.plain ≡ p.plain
  pub memo : memo q ≡ memo p
  pub draws_nothing : DrawsNothing p q
  pub reads_nothing : ReadsNothing p q
  pub evictions : List Entry
  pub counted : length evictions ≡ taken
  pub all : AreEvictions (number p) segment evictions
  pub entries : mine q ≡ evictions ++ mine p
  pub below : (r : ℕ) → r < row → RowGone b.shape segment r (trace q)
  pub few : taken ≤ row
  pub rows : ℕ
  pub at : row ≡ from + rows
  pub tries : TriesFor b.shape (λ key. StoodIn b.shape segment key p q) rows p q
  pub order : EvictsOver b segment from rows taken p q

-- the pass looks for no item's first row
pub looks_for_none : (b : Board) (segment from : ℕ) (p : Pass) → IsPassOf b p → LooksForFirst b segment from p p
looks_for_none b segment from p is = (idles b p is, omega arith, λ used there past. refl)

-- the rows that no item names are used ones
pub unnamed_few : (shape : Shape) (segment from used : ℕ) (p : Pass) → AreUnnamed shape segment from p → used_of p segment ≡ Some used → from ≤ used
unnamed_few shape segment zero used p none is = omega arith
unnamed_few shape segment (suc row) used p none is =
    let there = (none row (omega arith)).0 in
    let same : there.0 ≡ used = same_Some there.0 used (sym there.1 ∙ is) in let lt = there.2 in omega arith

-- the row that is next is a used one
pub row_there : (b : Board) (segment from row taken used : ℕ) (p q : Pass) → Evicting b segment from row taken p q
    → state_of p segment ≡ Some InUse → used_of p segment ≡ Some used → row < used → HasRow segment row q
row_there b segment from row taken used p q e in_use is_used within = (same_states p q segment e.plain ∙ in_use, (used, same_used p q segment e.plain ∙ is_used, within))

module _ (b : Board) (segment from row taken : ℕ) (p q r : Pass) (e : Evicting b segment from row taken p q) (has : HasRow segment row q) where
  gone_below : KeepsGone b segment q r → RowGone b.shape segment row (trace r) → (n : ℕ) → n < row + 1 → RowGone b.shape segment n (trace r)
  gone_below keeps gone n lt = ⊎_elim
      (λ same. subst (λ m. RowGone b.shape segment m (trace r)) (sym same) gone)
      (λ other. keeps.lasts n (e.below n (omega (arith, lt, other))))
      (cases_eq n row)

  one_more : row + 1 ≡ from + suc e.rows
  one_more = let at = e.at in omega arith

  -- the row by its place among those that are gone over
  item_out : (told : EvictRowAnswer) → EvictsRow b segment row told q r → TakesAtMost (most_steps_of_evict_row told) q r → EvictsItem b segment (from + e.rows) told q r
  item_out told one steps = subst (λ n. EvictsItem b segment n told q r) e.at (row_out b segment row told q r has one steps)

  -- the next row's key was taken out
  pub evicting_one : EvictsRow b segment row evict_row.Evicted q r → TakesAtMost (most_steps_of_evict_row evict_row.Evicted) q r → Evicting b segment from (row + 1) (taken + 1) p r
  evicting_one one steps =
      let key = one.answer.2.0 in let few = e.few in let counted = e.counted in record {
        on = goes_then b p q r e.on one.on;
        keeps = keeps_gone_then b segment p q r e.keeps one.answer.0;
        plain = one.plain ∙ e.plain;
        memo = one.memo ∙ e.memo;
        draws_nothing = draws_none_then p q r e.draws_nothing one.draws_nothing;
        reads_nothing = one.reads_nothing ∙ e.reads_nothing;
        evictions = entry.Evicted (number p) key segment ∷ e.evictions;
        counted = omega arith;
        all = ((key, refl), e.all);
        entries = one.answer.2.2 ∙ (λ t. entry.Evicted (e.on.same t) key segment ∷ e.entries t);
        below = gone_below one.answer.0 one.answer.1;
        few = omega arith;
        rows = suc e.rows;
        at = one_more;
        tries = rows_tried_then b segment e.rows 1 (suc e.rows) p q r e.on one.on (omega arith) e.tries (of_row b.shape segment row 1 q r one.tries);
        order = (q, inl (taken, refl, e.order, item_out evict_row.Evicted one steps));
      }

  -- or was gone
  pub evicting_none : EvictsRow b segment row evict_row.Left q r → TakesAtMost (most_steps_of_evict_row evict_row.Left) q r → Evicting b segment from (row + 1) taken p r
  evicting_none one steps = let few = e.few in record {
    on = goes_then b p q r e.on one.on;
    keeps = keeps_gone_then b segment p q r e.keeps one.answer.0;
    plain = one.plain ∙ e.plain;
    memo = one.memo ∙ e.memo;
    draws_nothing = draws_none_then p q r e.draws_nothing one.draws_nothing;
    reads_nothing = one.reads_nothing ∙ e.reads_nothing;
    evictions = e.evictions;
    counted = e.counted;
    all = e.all;
    entries = one.answer.2 ∙ e.entries;
    below = gone_below one.answer.0 one.answer.1;
    few = omega arith;
    rows = suc e.rows;
    at = one_more;
    tries = rows_tried_then b segment e.rows 1 (suc e.rows) p q r e.on one.on (omega arith) e.tries (of_row b.shape segment row 1 q r one.tries);
    order = (q, inr (e.order, item_out evict_row.Left one steps));
  }

-- ---- the current segment

but_is : (segment : ℕ) (t : Bool) (n : ℕ) → eqb n segment ≡ t → but_for segment (cond t None (Some n)) ≡ cond t None (Some n)
but_is segment true n is = refl
but_is segment false n is = cond-false (eqb n segment) None (Some n) is

pub but_again : (segment : ℕ) (o : Option ℕ) → but_for segment (but_for segment o) ≡ but_for segment o
but_again segment None = refl
but_again segment (Some n) = but_is segment (eqb n segment) n refl

pub but_other : (segment : ℕ) (o : Option ℕ) → o ≢ Some segment → but_for segment o ≡ o
but_other segment None other = refl
but_other segment (Some n) other = cond-false (eqb n segment) None (Some n) (ne_eqb n segment (λ e. other (ap Some e)))

-- ---- the answer

module _ (b : Board) (segment from row taken : ℕ) (p q : Pass) (in_use : state_of p segment ≡ Some InUse) (over : current_of p ≢ Some segment) (e : Evicting b segment from row taken p q) where
  plain_then : q.plain ≡ ended segment p.plain
  plain_then = e.plain ∙ ap (λ o. with_current o p.plain) (sym (but_other segment (current_of p) over))

  -- nothing is stored in the segment already
  over_order : (count : ℕ) → EvictsOver b segment from e.rows count p q → EvictsOver b segment from e.rows count (record p { plain = ended segment p.plain }) q
  over_order count = subst (λ x. EvictsOver b segment from e.rows count x q) (ap (λ o. record p { plain = with_current o p.plain }) (sym (but_other segment (current_of p) over)))

  -- the bit of a bucket couldn't be had
  module _ (r : Pass) (busy : EvictsRow b segment row evict_row.Busy q r) where
    pub barred_on : GoesOn b p r
    barred_on = goes_then b p q r e.on busy.on

    pub barred_costs : (used : ℕ) → used_of p segment ≡ Some used → row < used → TakesAtMost (most_steps_of_evict_row evict_row.Busy) q r → CostsOfEvict b segment from (evict.Busy taken) p r
    barred_costs used is_used within steps = record {
      order = λ again. (
        used,
        e.rows,
        q,
        is_used,
        subst (λ n. n < used) e.at within,
        over_order taken e.order,
        item_out b segment from row taken p q r e (row_there b segment from row taken used p q e in_use is_used within) evict_row.Busy busy steps,
      );
      tries = λ rows is. rows_tried_then b segment e.rows 1 rows p q r e.on busy.on (let same : used ≡ from + rows =
          same_Some used (from + rows) (sym is_used ∙ is) in let at = e.at in
          omega (arith, within)) e.tries (of_row b.shape segment row 1 q r busy.tries);
      draws_nothing = draws_none_then p q r e.draws_nothing busy.draws_nothing;
      reads_nothing = busy.reads_nothing ∙ e.reads_nothing;
    }

    barred_by : IsInTheWay b.shape (λ key. StoodIn b.shape segment key p r) p r
    barred_by =
        let by = busy.answer.1 in let stood = by.1.0 in (
          by.0,
          stood_before b.shape segment by.0 p q r e.on.same e.on.steps stood,
          ⊎_elim
              (λ locked. inl (sym (ap (λ (x : PlainPart). x.locked) e.plain) ∙ locked))
              (λ tried. let grew = bounced_grows p q (bucket_of b.shape by.0) e.on.same e.keeps.grew in inr (let t = tried in omega arith))
              by.2,
        )

    pub barred_answer : IsEvictAnswer b.shape segment (evict.Busy taken) p r
    barred_answer = (
      in_use,
      record {
        evictions = e.evictions;
        counted = e.counted;
        all = e.all;
        entries = busy.answer.0 ∙ e.entries;
        memo = busy.memo ∙ e.memo;
      },
      busy.plain ∙ plain_then,
      barred_by,
    )

  -- all rows are gone
  module _ (all_rows : used_of p segment ≡ Some row) where
    abbrev segment_in : Option Cached → ℕ
    segment_in None = 0
    segment_in (Some x) = x.segment

    none_stands : NoneStandsIn (after b.shape (seen q)) segment
    none_stands key stands =
        let c = coherent b.shape (trace q) e.on.quiet.pass.lawful in
        let value = has_value b.shape (seen q) key segment stands in
        let there = c.all key (cached value.0 segment) value.1 in
        let a = there.1 in let st = c.items (bucket_of b.shape key) there.0 a there.2 in
        let at : a.segment ≡ segment = ap segment_in (sym st.stands ∙ ((λ t. standing_at b.shape (seen q) (there.3 t)) ∙ value.1)) in
        let linked : is_some (row_after (trace q) segment a.row).linked ≡ true = ap (λ s. is_some (row_after (trace q) s a.row).linked) (sym at) ∙ ap is_some st.linked in
        let lt : a.row < row = ltb-true a.row row (sym (e.on.quiet.segments.rows segment row a.row (same_used p q segment e.plain ∙ all_rows) st.within.1) ∙ linked) in
        e.below a.row lt (bucket_of b.shape key) there.0 a there.2 at refl

    -- the segment's state told so
    abbrev pub emptied : Pass
    emptied = record q { plain = with_state segment Evicted q.plain }

    tries_alike : {most : ℕ} → TriesFor b.shape (λ key. StoodIn b.shape segment key p q) most p q → TriesFor b.shape (λ key. StoodIn b.shape segment key p emptied) most p emptied
    tries_alike x = record { keys = x.keys; few = x.few; stood = x.stood; taken = x.taken; bounced = x.bounced }

    keeps_now : KeepsSegments b emptied
    keeps_now = let k = e.on.quiet.segments in record {
      few = λ s n is. k.few s n (sym (used_kept q.plain segment Evicted s) ∙ is);
      rows = λ s n i is lt. k.rows s n i (sym (used_kept q.plain segment Evicted s) ∙ is) lt;
      deadlines = λ s n is. k.deadlines s n (sym (deadline_stated q.plain segment Evicted s) ∙ is);
      in_use = λ s is. state_apart q.plain segment Evicted s (λ x. over (ap (λ (y : PlainPart). y.current) (sym e.plain) ∙ (is ∙ ap Some x))) ∙ k.in_use s is;
      unused = λ s n is other. ⊎_elim
          (λ x. subst (NoneStandsIn (after b.shape (seen q))) (sym x) none_stands)
          (λ apart. k.unused s n (sym (state_apart q.plain segment Evicted s apart) ∙ is) other)
          (cases_eq s segment);
    }

    pub emptied_on : GoesOn b p emptied
    emptied_on = goes_then b p q emptied e.on (plain_goes_on b q emptied.plain e.on.quiet (owner_stated q.plain segment Evicted) refl refl keeps_now)

    pub emptied_answer : IsEvictAnswer b.shape segment (evict.Evicted taken) p emptied
    emptied_answer = inl (
      in_use,
      record {
        evictions = e.evictions;
        counted = e.counted;
        all = e.all;
        entries = e.entries;
        memo = e.memo;
      },
      ap (with_state segment Evicted) plain_then,
      none_stands,
    )

    pub emptied_costs : CostsOfEvict b segment from (evict.Evicted taken) p emptied
    emptied_costs = record {
      order = λ again. (e.rows, q, all_rows ∙ ap Some e.at, over_order taken e.order, refl);
      tries = λ rows is. tries_alike (subst (λ n. TriesFor b.shape (λ key. StoodIn b.shape segment key p q) n p q)
          (let same : row ≡ from + rows = same_Some row (from + rows) (sym all_rows ∙ is) in let at = e.at in omega arith) e.tries);
      draws_nothing = e.draws_nothing;
      reads_nothing = e.reads_nothing;
    }

-- what the segment's state is then
pub emptied_state : (segment : ℕ) (p q : Pass) → state_of p segment ≡ Some InUse → q.plain ≡ with_state segment Evicted (ended segment p.plain) → state_of q segment ≡ Some Evicted
emptied_state segment p q before plain =
    ap (λ (x : PlainPart). state_in (own_segment x segment)) plain ∙ state_set (ended segment p.plain) segment Evicted (sym (state_there (own_segment p.plain segment)) ∙ ap is_some before)

-- ---- from the whole call on

module _ (b : Board) (segment : ℕ) (p : Pass) (quiet : IsQuiet b p) (in_use : state_of p segment ≡ Some InUse) where
  -- nothing is stored in the segment any more
  abbrev pub closed : Pass
  closed = record p { plain = ended segment p.plain }

  in_one : (o : Option ℕ) (n : ℕ) → but_for segment o ≡ Some n → (o ≡ Some n) × (n ≢ segment)
  in_one None n is = absurd (none-some n is)
  in_one (Some m) n is = ⊎_elim
      (λ t. absurd (none-some n (sym (cond-true (eqb m segment) None (Some m) t) ∙ is)))
      (λ f. let here = sym (cond-false (eqb m segment) None (Some m) f) ∙ is in (here, λ e. false≢true (sym f ∙ eq-eqb m segment (same_Some m n here ∙ e))))
      (cases_Bool (eqb m segment))

  pub closed_over : current_of closed ≢ Some segment
  closed_over is = (in_one (current_of p) segment is).1 refl

  pub closes_on : GoesOn b p closed
  closes_on = let k = quiet.segments in
      plain_goes_on b p closed.plain quiet refl refl refl
      (record {
        few = k.few;
        rows = k.rows;
        deadlines = k.deadlines;
        in_use = λ t is. k.in_use t (in_one (current_of p) t is).0;
        unused = k.unused;
      })

  from_closed : (n : ℕ) (q : Pass) → TakesOut segment n closed q → TakesOut segment n p q
  from_closed n q t = record {
    evictions = t.evictions;
    counted = t.counted;
    all = t.all;
    entries = t.entries;
    memo = t.memo;
  }

  closed_twice : ended segment closed.plain ≡ closed.plain
  closed_twice = ap (λ o. with_current o p.plain) (but_again segment (current_of p))

  pub evict_answers : (told : EvictAnswer) (q : Pass) → IsEvictAnswer b.shape segment told closed q → told ≢ evict.NotYours → IsEvictAnswer b.shape segment told p q
  evict_answers (evict.Evicted n) q is yours = ⊎_elim
      (λ all. inl (in_use, from_closed n q all.1, all.2 ∙ ap (with_state segment Evicted) closed_twice, all.3))
      (λ none. absurd (none.0 in_use))
      is
  evict_answers evict.NotYours q is yours = absurd (yours refl)
  evict_answers (evict.Busy n) q is yours = (in_use, from_closed n q is.1, is.2 ∙ closed_twice, is.3)

  module _ (from : ℕ) where
    over_closed : (rows count : ℕ) (q : Pass) → EvictsOver b segment from rows count (record closed { plain = ended segment closed.plain }) q → EvictsOver b segment from rows count closed q
    over_closed rows count q = subst (λ x. EvictsOver b segment from rows count x q) (ap (λ x. record p { plain = x }) closed_twice)

    order_closed : (told : EvictAnswer) (q : Pass) → EvictsInOrder b segment from told closed q → EvictsInOrder b segment from told p q
    order_closed (evict.Evicted n) q (rows, last, is, over, done) = (rows, last, is, over_closed rows n last over, done)
    order_closed evict.NotYours q none = none
    order_closed (evict.Busy n) q (used, rows, middle, is, within, over, busy) = (used, rows, middle, is, within, over_closed rows n middle over, busy)

    pub evict_costs : (told : EvictAnswer) (q : Pass) → CostsOfEvict b segment from told closed q → CostsOfEvict b segment from told p q
    evict_costs told q costs = record {
      order = λ is. order_closed told q (costs.order is);
      tries = λ rows is. let x = costs.tries rows is in record { keys = x.keys; few = x.few; stood = x.stood; taken = x.taken; bounced = x.bounced };
      draws_nothing = costs.draws_nothing;
      reads_nothing = costs.reads_nothing;
    }
