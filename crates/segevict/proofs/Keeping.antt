-- A keep, row by row: what was moved so far, and that what stands in the segment was read too seldom once all its rows are gone over.
use Rattle.std.proofs.Common.{◌≡◌, ◌≢◌, ◌⊎◌, ℕ, suc, ◌+◌, ◌<◌, ◌≤◌, Bool, true, false, is_some, List, [], ◌∷◌, ◌++◌, length, Option, Some, None, refl, sym, ap, ◌∙◌, subst, inl, inr, ⊎_elim, arith}
use Rattle.std.proofs.lemmas.Bool.{cases_eq, lt-ltb, ltb-true}
use Rattle.std.proofs.lemmas.Option.{none-some, same_Some}
use Rattle.segword.specs.Words.{most_rows}
use Rattle.segmodel.specs.declared.entry.Entry.TheVariants as entry
use Rattle.segmodel.specs.declared.answer.KeepAnswer.TheVariants as keep
use Rattle.segmodel.specs.declared.answer.SegState.TheVariants.{InUse}
use Rattle.segmodel.specs.Words.{bucket_of, Cached, Entry, owner}
use Rattle.segcore.specs.Words.{bounced, cached, row_after, RowGone, span_in}
use Rattle.segcore.proofs.Caches.{has_value, stands as standing_at}
use Rattle.segcore.proofs.Spans.{header_some}
use Rattle.segcore.proofs.Standing.{coherent}
use Rattle.segbase.specs.declared.pass.PlainPart.{PlainPart}
use Rattle.segbase.specs.Words.{Board, marked, mine, number, Pass, seen, state_of, TakesSteps}
use Rattle.segbase.specs.Words.{trace, used_of}
use Rattle.segbase.proofs.Moves.{moved_count, stays}
use Rattle.segstore.specs.Words.{ChangesNothing, DrawsNothing, GoesOn, has_room_for, TakesAtMost}
use Rattle.segevict.specs.Steps.{most_steps_of_keep_row}
use Rattle.segstore.specs.Words.{IsQuiet, ReadsNothing}
use Rattle.segstore.proofs.Keeping.{owns_used}
use Rattle.segstore.proofs.Draws.{draws_none_then}
use Rattle.segevict.specs.declared.retention.KeepRowAnswer.{KeepRowAnswer}
use Rattle.segevict.specs.declared.retention.KeepRowAnswer.TheVariants as kept
use Rattle.segevict.specs.Frequencies.{WasOften, WasSeldom}
use Rattle.segevict.specs.Keeping.{AreMoves, AreSeldom, GoesOver, KeepsItems, MovesAway}
use Rattle.segevict.specs.Moving.{KeepsRow, SeesRow}
use Rattle.segevict.specs.OneRow.{KeepsItem}
use Rattle.segevict.specs.Rows.{HasRow, KeepsGone}
use Rattle.segevict.specs.Target.{has_rows_in, IsKeepTarget, UsesRows}
use Rattle.segevict.specs.Tries.{TriesFor}
use Rattle.segevict.proofs.FewRows.{AreSome, none_yet, one_more, seen_few}
use Rattle.segevict.proofs.AfterRow.{idle_changes, idle_gone, left_changes, left_gone, moved_gone, seen_span, uses_more, uses_none, uses_then}
use Rattle.segevict.proofs.Evictions.{bounced_grows}
use Rattle.segevict.proofs.Frequencies.{had_after, had_at, had_before, had_seen}
use Rattle.segevict.proofs.KeyTries.{no_tries, tries_then}
use Rattle.segevict.proofs.OneRow.{room_now, row_answered}
use Rattle.segevict.proofs.RowsOut.{goes_then, keeps_gone_then}

-- ---- what was moved

moves_weaker : (pass segment into : ℕ) (First Both : List ℕ → Type 0) → ((key : List ℕ) → First key → Both key)
    → (entries : List Entry) → AreMoves pass segment into First entries → AreMoves pass segment into Both entries
moves_weaker pass segment into First Both weaker [] all = tt
moves_weaker pass segment into First Both weaker (e ∷ entries) all = ((all.0.0, all.0.1, weaker all.0.0 all.0.2), moves_weaker pass segment into First Both weaker entries all.1)

-- ---- row by row

-- no word names the row any more, or the key that was stored there was read too seldom
abbrev pub IsSettled : Board → ℕ → ℕ → ℕ → Pass → Pass → Type 0
IsSettled b segment cutoff row p q = RowGone b.shape segment row (trace q)
    ⊎ ((key : List ℕ) × ((row_after (trace q) segment row).linked ≡ Some key) × WasSeldom b.shape segment cutoff p q key)

pub record Keeping (b : Board) (segment into cutoff row count : ℕ) (p q : Pass) : Type 0 where
  pub on : GoesOn b p q
  pub keeps : KeepsGone b segment p q
  pub rows : ℕ
  pub uses : UsesRows into rows p q
  pub some : AreSome count (most_rows b.limits) rows
  pub draws_nothing : DrawsNothing p q
  pub reads_nothing : ReadsNothing p q
  pub moves : List Entry
  pub counted : length moves ≡ count
  pub all : AreMoves (number p) segment into (WasOften b.shape segment cutoff p q) moves
  pub entries : mine q ≡ moves ++ mine p
  pub below : (r : ℕ) → r < row → IsSettled b segment cutoff r p q
  pub few : count ≤ row
  pub tries : TriesFor b.shape (WasOften b.shape segment cutoff p q) row p q
  pub order : GoesOver b segment cutoff row count p q

-- before the first row
pub keeping_first : (b : Board) (segment into cutoff : ℕ) (p : Pass) → IsQuiet b p → Keeping b segment into cutoff 0 0 p p
keeping_first b segment into cutoff p quiet = record {
  on = record { quiet = quiet; same = refl; marked = ([], refl); seen = ([], refl); steps = inr (refl, refl) };
  keeps = record { grew = ([], refl); linked = λ row. refl; spans = λ row on. refl; lasts = λ row gone. gone };
  rows = 0;
  uses = uses_none into p p refl refl;
  some = none_yet (most_rows b.limits);
  draws_nothing = λ bucket. refl;
  reads_nothing = refl;
  moves = [];
  counted = refl;
  all = tt;
  entries = refl;
  below = λ r lt. absurd (omega (arith, lt));
  few = omega arith;
  tries = no_tries b (WasOften b.shape segment cutoff p p) 0 p p (stays b p quiet.pass);
  order = (refl, refl);
}

-- one row more was gone over
one_row_on : (b : Board) (segment cutoff row count : ℕ) (p r : Pass) → GoesOver b segment cutoff (suc row) count p r → GoesOver b segment cutoff (row + 1) count p r
one_row_on b segment cutoff row count p r = subst (λ n. GoesOver b segment cutoff n count p r) (let e : suc row ≡ row + 1 = omega arith in e)

module _ (b : Board) (segment into cutoff row count : ℕ) (p q r : Pass) (own : owner b.shape segment ≡ number p) (e : Keeping b segment into cutoff row count p q) where
  own_q : owner b.shape segment ≡ number q
  own_q = own ∙ sym e.on.same

  -- what was so of moments before the row, and at the row, was so of moments of the whole
  often_then : TakesSteps q r → (key : List ℕ) → WasOften b.shape segment cutoff p q key → WasOften b.shape segment cutoff p r key
  often_then later key often = (often.0, had_after b.shape segment often.0 (λ n. cutoff ≤ n) key p q r later often.1)

  often_now : (key : List ℕ) → WasOften b.shape segment cutoff q r key → WasOften b.shape segment cutoff p r key
  often_now key often = (often.0, had_before b.shape segment often.0 (λ n. cutoff ≤ n) key p q r e.on.same e.on.steps often.1)

  tries_all : (most : ℕ) → TakesSteps q r → row + 1 ≤ most → TriesFor b.shape (WasOften b.shape segment cutoff q r) 1 q r → TriesFor b.shape (WasOften b.shape segment cutoff p r) most p r
  tries_all most later within tries = tries_then b.shape (WasOften b.shape segment cutoff p q)
      (WasOften b.shape segment cutoff q r) (WasOften b.shape segment cutoff p r) row 1 most p q r
      (often_then later) often_now within e.tries tries

  settled_below : KeepsGone b segment q r → TakesSteps q r → IsSettled b segment cutoff row p r → (n : ℕ) → n < row + 1 → IsSettled b segment cutoff n p r
  settled_below keeps later now n lt = ⊎_elim
      (λ same. subst (λ m. IsSettled b segment cutoff m p r) (sym same) now)
      (λ other. ⊎_elim
      (λ gone. inl (keeps.lasts n gone))
      (λ seldom. inr (seldom.0, keeps.linked n ∙ seldom.1, (seldom.2.0, had_after b.shape segment seldom.2.0 (λ n. n < cutoff) seldom.0 p q r later seldom.2.1)))
      (e.below n (omega (arith, lt, other))))
      (cases_eq n row)

  -- the next row's item was moved
  pub keeping_moved : segment ≢ into → KeepsRow b segment row into cutoff kept.Moved q r → KeepsItem b segment row cutoff kept.Moved q r → Keeping b segment into cutoff (row + 1) (count + 1) p r
  keeping_moved apart k item =
      let a = k.answer in let key = a.1.key in let few = e.few in let counted = e.counted in
      let keeps = moved_gone b segment row into cutoff q r own_q apart k in
      let often = often_now key (row, had_seen b segment row (λ n. cutoff ≤ n) q a.0 r a.1 a.2.steps) in record {
        on = goes_then b p q r e.on k.on;
        keeps = keeps_gone_then b segment p q r e.keeps keeps;
        rows = e.rows + span_in (trace a.0) segment row;
        uses = uses_then into e.rows (span_in (trace a.0) segment row) (e.rows + span_in (trace a.0) segment row) p q r refl e.uses
            (uses_more into q r (span_in (trace a.0) segment row) a.11 k.memo);
        some = one_more count (most_rows b.limits) e.rows (span_in (trace a.0) segment row) (header_some ((row_after (trace a.0) segment row).words 0))
            (seen_few b segment row (λ n. cutoff ≤ n) q a.0 a.1) e.some;
        draws_nothing = draws_none_then p q r e.draws_nothing k.draws_nothing;
        reads_nothing = k.reads_nothing ∙ e.reads_nothing;
        moves = entry.Moved (number p) key segment into ∷ e.moves;
        counted = omega arith;
        all = ((key, refl, often), moves_weaker (number p) segment into (WasOften b.shape segment cutoff p q) (WasOften b.shape segment cutoff p r) (often_then k.on.steps) e.moves e.all);
        entries = a.10 ∙ (λ t. entry.Moved (e.on.same t) key segment into ∷ e.entries t);
        below = settled_below keeps k.on.steps (inl a.12);
        few = omega arith;
        tries = tries_all (row + 1) k.on.steps (omega arith) k.tries;
        order = one_row_on b segment cutoff row (count + 1) p r (q, inl (count, refl, e.order, item));
      }

  settled_left : KeepsRow b segment row into cutoff kept.Left q r → IsSettled b segment cutoff row p r
  settled_left k = ⊎_elim
      (λ none. inl none.1)
      (λ some. ⊎_elim
      (λ seldom. let s = seldom.1 in inr (
        s.key,
        (idle_gone b segment row into cutoff seldom.0 r (own_q ∙ sym s.idles.moved.same) r seldom.2).linked row ∙ s.linked,
        (
          row,
          had_before b.shape segment row (λ n. n < cutoff) s.key p q r e.on.same e.on.steps
              (had_seen b segment row (λ n. n < cutoff) q seldom.0 r s seldom.2.moved.steps),
        ),
      ))
      (λ went. inl went.5)
      some)
      k.answer

  -- or left where it is
  pub keeping_left : KeepsRow b segment row into cutoff kept.Left q r → KeepsItem b segment row cutoff kept.Left q r → Keeping b segment into cutoff (row + 1) count p r
  keeping_left k item =
      let few = e.few in
      let keeps = left_gone b segment row into cutoff q r own_q k in
      let none = left_changes b segment row into cutoff q r e.on.quiet k in record {
        on = goes_then b p q r e.on k.on;
        keeps = keeps_gone_then b segment p q r e.keeps keeps;
        rows = e.rows;
        uses = uses_then into e.rows 0 e.rows p q r (omega arith) e.uses (uses_none into q r none.plain none.memo);
        some = e.some;
        draws_nothing = draws_none_then p q r e.draws_nothing k.draws_nothing;
        reads_nothing = k.reads_nothing ∙ e.reads_nothing;
        moves = e.moves;
        counted = e.counted;
        all = moves_weaker (number p) segment into (WasOften b.shape segment cutoff p q) (WasOften b.shape segment cutoff p r) (often_then k.on.steps) e.moves e.all;
        entries = none.entries ∙ e.entries;
        below = settled_below keeps k.on.steps (settled_left k);
        few = omega arith;
        tries = tries_all (row + 1) k.on.steps (omega arith) k.tries;
        order = one_row_on b segment cutoff row count p r (q, inr (e.order, item));
      }

-- ---- the answer

module _ (b : Board) (segment into cutoff row count : ℕ) (p q : Pass) (quiet : IsQuiet b p)
    (in_use : state_of p segment ≡ Some InUse) (target : IsKeepTarget segment into p)
    (e : Keeping b segment into cutoff row count p q) where
  -- the row is one of those that are used
  module _ (used : ℕ) (is_used : used_of p segment ≡ Some used) where
    own : owner b.shape segment ≡ number p
    own = owns_used b p segment used quiet.pass is_used

    -- the row is gone over as by a keep of one row
    pub item_of : (r : Pass) → row < used → (told : KeepRowAnswer) → KeepsRow b segment row into cutoff told q r
        → TakesAtMost (most_steps_of_keep_row told) q r → KeepsItem b segment row cutoff told q r
    item_of r within told k steps = row_answered b segment row into cutoff q r e.on.quiet has_row target_still told k steps
      where
        has_row : HasRow segment row q
        has_row = (e.uses.states segment ∙ in_use, (used, e.uses.others segment target.other ∙ is_used, within))

        target_still : IsKeepTarget segment into q
        target_still = record {
          current = e.uses.current ∙ target.current;
          other = target.other;
          deadlines = e.uses.deadlines segment ∙ (target.deadlines ∙ sym (e.uses.deadlines into));
        }

    -- its item takes as many rows as it took at the start
    took : row < used → (f : Pass) → SeesRow b segment row (λ n. cutoff ≤ n) q f → span_in (trace f) segment row ≡ span_in (trace p) segment row
    took within f s =
        let few = quiet.segments.few segment used is_used in
        let on = quiet.segments.rows segment used row is_used (omega (arith, within, few)) ∙ lt-ltb row used within in
        seen_span b segment row (λ n. cutoff ≤ n) q f (own ∙ sym e.on.same) s ∙ e.keeps.spans row on

    -- the room for it is that for so many
    room_then : (r : Pass) → row < used → (f : Pass) → SeesRow b segment row (λ n. cutoff ≤ n) q f → r.plain ≡ q.plain → (has : Bool)
        → has_rows_in b.shape into (span_in (trace f) segment row) q ≡ has → has_room_for b.shape (span_in (trace p) segment row) r ≡ has
    room_then r within f s plain has is =
        let takes = took within f s in
        subst (λ (x : PlainPart). has_room_for b.shape (span_in (trace p) segment row) (record q { plain = x }) ≡ has) (sym plain)
        (sym (room_now b into (span_in (trace p) segment row) q (e.uses.current ∙ target.current)) ∙ subst (λ n. has_rows_in b.shape into n q ≡ has) takes is)

    -- it takes no more than the limits allow
    took_few : row < used → (f : Pass) → SeesRow b segment row (λ n. cutoff ≤ n) q f → span_in (trace p) segment row ≤ most_rows b.limits
    took_few within f s = subst (λ n. n ≤ most_rows b.limits) (took within f s) (seen_few b segment row (λ n. cutoff ≤ n) q f s)

    module _ (r : Pass) (later : TakesSteps q r) (none : ChangesNothing q r) (within : row < used) (tries : TriesFor b.shape (WasOften b.shape segment cutoff q r) 1 q r) where
      moved_away : MovesAway b segment cutoff count p r
      moved_away = (
        in_use,
        (
          into,
          target,
          record {
            moves = e.moves;
            counted = e.counted;
            all = moves_weaker (number p) segment into (WasOften b.shape segment cutoff p q)
                (WasOften b.shape segment cutoff p r) (often_then b segment into cutoff row count p q r own e later)
                e.moves e.all;
            entries = none.entries ∙ e.entries;
            uses = (e.rows, e.some.some, e.some.few, uses_then into e.rows 0 e.rows p q r (omega arith) e.uses (uses_none into q r none.plain none.memo));
          },
        ),
      )

      tries_few : (rows : ℕ) → used_of p segment ≡ Some rows → TriesFor b.shape (WasOften b.shape segment cutoff p r) rows p r
      tries_few rows is = let same : used ≡ rows = same_Some used rows (sym is_used ∙ is) in tries_all b segment into cutoff row count p q r own e rows later (omega arith) tries

    -- there was no row for its item
    pub keep_stopped : (r : Pass) → row < used → KeepsRow b segment row into cutoff kept.NoRoom q r
        → TakesAtMost (most_steps_of_keep_row kept.NoRoom) q r → KeepsItems b segment cutoff (keep.NoRoom count) p r
    keep_stopped r within k steps =
        let s = k.answer.0 in
        let none = idle_changes b q r e.on.quiet s.idles in record {
          on = goes_then b p q r e.on k.on;
          answer = inr (
            moved_away r k.on.steps none within k.tries,
            (row, (used, is_used, within), took_few within r s, room_then r within r s none.plain false k.answer.1),
            (s.key, (row, had_at b segment row (λ n. cutoff ≤ n) q r s (marked r) (marked r) ([], refl) ([], refl))),
          );
          not_yours = ((λ other. absurd (not_so other)), (λ nobody. absurd (none-some InUse (sym nobody ∙ in_use))));
          costs = record {
            order = λ other used_too t. (row, used, is_used, within, q, e.order, item_of r within kept.NoRoom k steps);
            tries = tries_few r k.on.steps none within k.tries;
            draws_nothing = draws_none_then p q r e.draws_nothing k.draws_nothing;
            reads_nothing = k.reads_nothing ∙ e.reads_nothing;
          };
        }
      where
        not_so : keep.NoRoom count ≢ keep.NotYours
        not_so is = cc

    -- its bit couldn't be had
    pub keep_barred : (r : Pass) → row < used → KeepsRow b segment row into cutoff kept.Busy q r
        → TakesAtMost (most_steps_of_keep_row kept.Busy) q r → KeepsItems b segment cutoff (keep.Busy count) p r
    keep_barred r within k steps =
        let a = k.answer in let f = a.0 in let s = a.1 in let bucket = bucket_of b.shape s.key in
        let looked = idle_changes b q f e.on.quiet s.idles in
        let none : ChangesNothing q r = record { entries = a.4.entries ∙ looked.entries; plain = a.4.plain ∙ looked.plain; memo = a.4.memo ∙ looked.memo } in record {
          on = goes_then b p q r e.on k.on;
          answer = (
            moved_away r k.on.steps none within k.tries,
            (row, (used, is_used, within), room_then r within f s none.plain true a.3),
            (
              s.key,
              often_now b segment into cutoff row count p q r own e s.key (row, had_seen b segment row (λ n. cutoff ≤ n) q f r s a.2.steps),
              ⊎_elim
                  (λ locked. inl (sym (ap (λ (x : PlainPart). x.locked) s.idles.plain ∙ e.uses.locked) ∙ locked.0))
                  (λ tried.
                  let same = moved_count b [] q f (bounced bucket) s.idles.moved in
                  let grew = bounced_grows p q bucket e.on.same e.keeps.grew in let met = tried.tries in inr (omega arith))
                  a.5,
            ),
          );
          not_yours = ((λ other. absurd (not_so other)), (λ nobody. absurd (none-some InUse (sym nobody ∙ in_use))));
          costs = record {
            order = λ other used_too t. (row, used, is_used, within, q, e.order, item_of r within kept.Busy k steps);
            tries = tries_few r k.on.steps none within k.tries;
            draws_nothing = draws_none_then p q r e.draws_nothing k.draws_nothing;
            reads_nothing = k.reads_nothing ∙ e.reads_nothing;
          };
        }
      where
        not_so : keep.Busy count ≢ keep.NotYours
        not_so is = cc

  -- all rows are gone over
  module _ (all_rows : used_of p segment ≡ Some row) where
    abbrev segment_in : Option Cached → ℕ
    segment_in None = 0
    segment_in (Some x) = x.segment

    are_seldom : AreSeldom b.shape segment cutoff p q
    are_seldom key stands =
        let c = coherent b.shape (trace q) e.on.quiet.pass.lawful in
        let value = has_value b.shape (seen q) key segment stands in
        let there = c.all key (cached value.0 segment) value.1 in
        let a = there.1 in let st = c.items (bucket_of b.shape key) there.0 a there.2 in
        let at : a.segment ≡ segment = ap segment_in (sym st.stands ∙ ((λ t. standing_at b.shape (seen q) (there.3 t)) ∙ value.1)) in
        let linked : (row_after (trace q) segment a.row).linked ≡ Some key = ap (λ s. (row_after (trace q) s a.row).linked) (sym at) ∙ (st.linked ∙ ap Some there.3) in
        let own = owns_used b p segment row quiet.pass all_rows in
        let lt : a.row < row = ltb-true a.row row (sym (e.on.quiet.segments.rows segment row a.row (e.uses.others segment target.other ∙ all_rows) st.within.1) ∙ ap is_some linked) in
        ⊎_elim
        (λ gone. absurd (gone (bucket_of b.shape key) there.0 a there.2 at refl))
        (λ seldom. subst (WasSeldom b.shape segment cutoff p q) (same_Some seldom.0 key (sym seldom.1 ∙ linked)) seldom.2)
        (e.below a.row lt)

    pub keep_done : KeepsItems b segment cutoff (keep.Kept count) p q
    keep_done = record {
      on = e.on;
      answer = inl (
        (
          in_use,
          (
            into,
            target,
            record {
              moves = e.moves;
              counted = e.counted;
              all = e.all;
              entries = e.entries;
              uses = (e.rows, e.some.some, e.some.few, e.uses);
            },
          ),
        ),
        are_seldom,
      );
      not_yours = ((λ other. absurd (not_so other)), (λ nobody. absurd (none-some InUse (sym nobody ∙ in_use))));
      costs = record {
        order = λ other used_too t. (row, all_rows, e.order);
        tries = λ rows is. subst (λ n. TriesFor b.shape (WasOften b.shape segment cutoff p q) n p q) (same_Some row rows (sym all_rows ∙ is)) e.tries;
        draws_nothing = e.draws_nothing;
        reads_nothing = e.reads_nothing;
      };
    }
      where
        not_so : keep.Kept count ≢ keep.NotYours
        not_so is = cc
