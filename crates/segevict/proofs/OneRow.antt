-- A keep of one row: the answer for a used row in the call's terms, and refusals before any step.
use Rattle.std.specs.Prelude.{◌==◌, if◌then◌else◌}
use Rattle.std.proofs.Common.{◌≡◌, ℕ, ◌≤◌, ◌<◌, ◌↔◌, Bool, true, false, None, Some, IsSome, option_and_then, [], refl, sym, ap, ◌∙◌, subst, inl, inr, ⊎_elim, arith}
use Rattle.std.proofs.lemmas.Bool.{false≢true}
use Rattle.std.proofs.lemmas.Option.{none-some}
use Rattle.segmodel.specs.declared.answer.SegState.TheVariants.{InUse}
use Rattle.segmodel.specs.Words.{bucket_of, owner}
use Rattle.segcore.specs.Words.{bounced, span_in}
use Rattle.segbase.specs.declared.pass.PlainPart.{PlainPart}
use Rattle.segbase.specs.Words.{Board, count, current_of, marked, number, Pass, state_of, trace, used_of}
use Rattle.segbase.specs.Words.{with_own}
use Rattle.segbase.proofs.Moves.{moved_count}
use Rattle.segstore.specs.Words.{are_left, AreRows, ChangesNothing, has_room_for, is_below, IsQuiet, TakesAtMost, TakesNoBit}
use Rattle.segstore.proofs.Idling.{goes_same}
use Rattle.segstore.proofs.Keeping.{owns_used}
use Rattle.segwrite.specs.Words.{more}
use Rattle.segevict.specs.declared.retention.KeepRowAnswer.{KeepRowAnswer}
use Rattle.segevict.specs.declared.retention.KeepRowAnswer.TheVariants as kept
use Rattle.segevict.specs.Moving.{IsKeptRow, KeepsRow}
use Rattle.segevict.specs.OneRow.{CostsOfKeepRow, IsKeepRowAnswer, KeepsItem, KeepsItemInto, KeepsTo, TriesForRow}
use Rattle.segevict.specs.Rows.{HasRow}
use Rattle.segevict.specs.Steps.{most_steps_of_keep_row}
use Rattle.segevict.specs.Target.{has_rows_in, IsKeepTarget, IsMoveTarget}
use Rattle.segevict.proofs.Frequencies.{had_at, had_seen}
use Rattle.segevict.proofs.AfterRow.{idle_changes, left_changes, seen_span, uses_more}
use Rattle.segevict.proofs.Carrying.{carried}
use Rattle.segevict.proofs.Naming.{unnamed}

-- ---- the segment to move into

-- whether it has so many rows left
pub room_now : (b : Board) (into rows : ℕ) (p : Pass) → current_of p ≡ Some into
    → has_rows_in b.shape into rows p ≡ has_room_for b.shape rows p
room_now b into rows p current = ap (λ o. if rows == 1 then is_below b.shape.rows (option_and_then (used_of p) o)
    else are_left rows b.shape.rows (option_and_then (used_of p) o)) (sym current)

-- whether the current segment, or this one, has as many left as the item that begins in a row takes
abbrev has_room_of : Board → ℕ → ℕ → Pass → Bool
has_room_of b segment row p = has_room_for b.shape (span_in (trace p) segment row) p

abbrev has_rows_of : Board → ℕ → ℕ → ℕ → Pass → Bool
has_rows_of b into segment row p = has_rows_in b.shape into (span_in (trace p) segment row) p

-- ---- a used row

module _ (b : Board) (segment row into cutoff : ℕ) (p r : Pass) (quiet : IsQuiet b p) where
  abbrev rows : ℕ
  rows = span_in (trace p) segment row

  -- with this segment to move into
  kept_to : owner b.shape segment ≡ number p → (IsTarget : ℕ → Type 0) → IsTarget into → (told : KeepRowAnswer)
      → KeepsRow b segment row into cutoff told p r
      → KeepsTo b.shape segment row cutoff IsTarget (has_rows_in b.shape into rows r) told p r
  kept_to own IsTarget target kept.Moved k = let a = k.answer in
      let same : span_in (trace a.0) segment row ≡ rows = seen_span b segment row (λ n. cutoff ≤ n) p a.0 own a.1 in (
        into,
        target,
        uses_more into p r rows (a.11 ∙ ap (λ n. with_own into (more n) p.plain) same) k.memo,
        (a.1.key, carried b segment row into cutoff p a.0 r a.1 a.3 a.4 a.5 a.6 a.9 a.2.steps a.7 (subst (AreRows b.shape a.3) same a.8) a.10 a.12),
      )
  kept_to own IsTarget target kept.Left k = (
    into,
    target,
    left_changes b segment row into cutoff p r quiet k,
    ⊎_elim
        (λ none. inl (unnamed b.shape (trace r) segment row k.on.quiet.pass.lawful none.1))
        (λ some. ⊎_elim
        (λ seldom. inr (seldom.1.key, had_seen b segment row (λ n. n < cutoff) p seldom.0 r seldom.1 seldom.2.moved.steps))
        (λ went. inl (unnamed b.shape (trace r) segment row k.on.quiet.pass.lawful went.5))
        some)
        k.answer,
  )
  kept_to own IsTarget target kept.NoRoom k =
      let s = k.answer.0 in
      let none = idle_changes b p r quiet s.idles in inr (
        into,
        target,
        none,
        subst (λ (x : PlainPart). has_rows_in b.shape into rows (record p { plain = x }) ≡ false) (sym none.plain)
            (subst (λ n. has_rows_in b.shape into n p ≡ false) (seen_span b segment row (λ n. cutoff ≤ n) p r own s) k.answer.1),
        (s.key, had_at b segment row (λ n. cutoff ≤ n) p r s (marked r) (marked r) ([], refl) ([], refl)),
        s.looks,
      )
  kept_to own IsTarget target kept.Busy k =
      let a = k.answer in let f = a.0 in let s = a.1 in let bucket = bucket_of b.shape s.key in
      let looked = idle_changes b p f quiet s.idles in
      let none : ChangesNothing p r = record { entries = a.4.entries ∙ looked.entries; plain = a.4.plain ∙ looked.plain; memo = a.4.memo ∙ looked.memo } in (
        into,
        target,
        none,
        subst (λ (x : PlainPart). has_rows_in b.shape into rows (record p { plain = x }) ≡ true) (sym none.plain)
            (subst (λ n. has_rows_in b.shape into n p ≡ true) (seen_span b segment row (λ n. cutoff ≤ n) p f own s) a.3),
        (
          s.key,
          had_seen b segment row (λ n. cutoff ≤ n) p f r s a.2.steps,
          ⊎_elim
              (λ locked. inl (sym (ap (λ (x : PlainPart). x.locked) s.idles.plain) ∙ locked.0))
              (λ tried. let same : count (bounced bucket) f ≡ count (bounced bucket) p = moved_count b [] p f (bounced bucket) s.idles.moved in let met = tried.tries in inr (omega arith))
              a.5,
        ),
      )
  kept_to own IsTarget target kept.NotYours k = absurd k.answer
  kept_to own IsTarget target kept.NotUsed k = absurd k.answer

  own_row : HasRow segment row p → owner b.shape segment ≡ number p
  own_row has = owns_used b p segment has.1.0 quiet.pass has.1.1

  module _ (has : HasRow segment row p) (told : KeepRowAnswer) (k : KeepsRow b segment row into cutoff told p r) where
    none_not_yours : (told ≡ kept.NotYours) ↔ (state_of p segment ≡ None)
    none_not_yours = (
      (λ is. absurd (subst (λ t. IsKeptRow b segment row into cutoff t p r) is k.answer)),
      (λ none. absurd (none-some InUse (sym none ∙ has.0))),
    )

    none_not_used : (told ≡ kept.NotUsed) ↔ (IsSome (state_of p segment) × ¬ (HasRow segment row p))
    none_not_used = (
      (λ is. absurd (subst (λ t. IsKeptRow b segment row into cutoff t p r) is k.answer)),
      (λ without. absurd (without.1 has)),
    )

  -- into the current segment
  module _ (has : HasRow segment row p) (target : IsKeepTarget segment into p) where
    abbrev IsHere : ℕ → Type 0
    IsHere n = IsKeepTarget segment n p

    -- the room of the segment is what the pass has
    with_room : (told : KeepRowAnswer) → r.plain ≡ p.plain
        → KeepsTo b.shape segment row cutoff IsHere (has_rows_in b.shape into rows r) told p r
        → KeepsTo b.shape segment row cutoff IsHere (has_room_for b.shape rows r) told p r
    with_room told same = subst (λ room. KeepsTo b.shape segment row cutoff IsHere room told p r)
        (room_now b into rows r (ap (λ (x : PlainPart). x.current) same ∙ target.current))

    answers : (told : KeepRowAnswer) → KeepsRow b segment row into cutoff told p r → IsKeepRowAnswer b.shape segment row cutoff told p r
    answers kept.Moved k = kept_to (own_row has) IsHere target kept.Moved k
    answers kept.Left k = kept_to (own_row has) IsHere target kept.Left k
    answers kept.NoRoom k = with_room kept.NoRoom (idle_changes b p r quiet k.answer.0.idles).plain (kept_to (own_row has) IsHere target kept.NoRoom k)
    answers kept.Busy k = let is = kept_to (own_row has) IsHere target kept.Busy k in with_room kept.Busy is.2.plain is
    answers kept.NotYours k = absurd k.answer
    answers kept.NotUsed k = absurd k.answer

    pub row_answered : (told : KeepRowAnswer) → KeepsRow b segment row into cutoff told p r → TakesAtMost (most_steps_of_keep_row told) p r → KeepsItem b segment row cutoff told p r
    row_answered told k steps = record {
      on = k.on;
      answer = answers told k;
      not_yours = none_not_yours has told k;
      not_used = none_not_used has told k;
      costs = record {
        tries = subst (λ room. TriesForRow b segment row cutoff room told p r) (room_now b into rows p target.current) k.tried;
        steps = steps;
        draws_nothing = k.draws_nothing;
        reads_nothing = k.reads_nothing;
      };
    }

  -- into one that the caller names
  module _ (has : HasRow segment row p) (target : IsMoveTarget segment into p) where
    pub row_answered_into : (told : KeepRowAnswer) → KeepsRow b segment row into cutoff told p r → TakesAtMost (most_steps_of_keep_row told) p r → KeepsItemInto b segment row cutoff into told p r
    row_answered_into told k steps = record {
      on = k.on;
      answer = kept_to (own_row has) (λ other. (other ≡ into) × IsMoveTarget segment into p) (refl, target) told k;
      not_yours = none_not_yours has told k;
      not_used = none_not_used has told k;
      costs = record {
        tries = k.tried;
        steps = steps;
        draws_nothing = k.draws_nothing;
        reads_nothing = k.reads_nothing;
      };
    }

-- ---- refused before any step

module _ (b : Board) (segment row cutoff : ℕ) (p : Pass) (quiet : IsQuiet b p) where
  none_tried : TakesNoBit p p
  none_tried = record { taken = refl; bounced = λ bucket. refl }

  costs_none : (room : Bool) (told : KeepRowAnswer) → TriesForRow b segment row cutoff room told p p → CostsOfKeepRow b segment row cutoff room told p p
  costs_none room told tries = record { tries = tries; steps = omega arith; draws_nothing = λ bucket. refl; reads_nothing = refl }

  -- of these answers neither is the other, nor NoRoom
  refused_not_yours : state_of p segment ≡ None → ((kept.NotYours ≡ kept.NotYours) ↔ (state_of p segment ≡ None))
      × ((kept.NotYours ≡ kept.NotUsed) ↔ (IsSome (state_of p segment) × ¬ (HasRow segment row p)))
  refused_not_yours none = (
    ((λ is. none), (λ nobody. refl)),
    (
      (λ is. let no : kept.NotYours ≡ kept.NotUsed = is in cc),
      (λ without. absurd (false≢true (subst IsSome none without.0))),
    ),
  )

  refused_not_used : IsSome (state_of p segment) → ¬ (HasRow segment row p)
      → ((kept.NotUsed ≡ kept.NotYours) ↔ (state_of p segment ≡ None))
      × ((kept.NotUsed ≡ kept.NotUsed) ↔ (IsSome (state_of p segment) × ¬ (HasRow segment row p)))
  refused_not_used some without = (
    (
      (λ is. let no : kept.NotUsed ≡ kept.NotYours = is in cc),
      (λ none. absurd (false≢true (subst IsSome none some))),
    ),
    ((λ is. (some, without)), (λ all. refl)),
  )

  refused_no_room : HasRow segment row p → ((kept.NoRoom ≡ kept.NotYours) ↔ (state_of p segment ≡ None)) × ((kept.NoRoom ≡ kept.NotUsed) ↔ (IsSome (state_of p segment) × ¬ (HasRow segment row p)))
  refused_no_room has = (
    (
      (λ is. let no : kept.NoRoom ≡ kept.NotYours = is in cc),
      (λ none. absurd (none-some InUse (sym none ∙ has.0))),
    ),
    (
      (λ is. let no : kept.NoRoom ≡ kept.NotUsed = is in cc),
      (λ without. absurd (without.1 has)),
    ),
  )

  pub row_not_yours : state_of p segment ≡ None → KeepsItem b segment row cutoff kept.NotYours p p
  row_not_yours none = let is = refused_not_yours none in
      record { on = goes_same b p quiet; answer = refl; not_yours = is.0; not_used = is.1; costs = costs_none (has_room_of b segment row p) kept.NotYours none_tried }

  pub row_not_used : IsSome (state_of p segment) → ¬ (HasRow segment row p) → KeepsItem b segment row cutoff kept.NotUsed p p
  row_not_used some without = let is = refused_not_used some without in
      record { on = goes_same b p quiet; answer = refl; not_yours = is.0; not_used = is.1; costs = costs_none (has_room_of b segment row p) kept.NotUsed none_tried }

  pub row_no_target : HasRow segment row p → ((into : ℕ) → ¬ (IsKeepTarget segment into p)) → KeepsItem b segment row cutoff kept.NoRoom p p
  row_no_target has nowhere = let is = refused_no_room has in
      record { on = goes_same b p quiet; answer = inl (nowhere, refl); not_yours = is.0; not_used = is.1; costs = costs_none (has_room_of b segment row p) kept.NoRoom none_tried }

  -- where the caller names a segment
  module _ (into : ℕ) where
    pub into_not_yours : state_of p segment ≡ None → KeepsItemInto b segment row cutoff into kept.NotYours p p
    into_not_yours none = let is = refused_not_yours none in
        record { on = goes_same b p quiet; answer = refl; not_yours = is.0; not_used = is.1; costs = costs_none (has_rows_of b into segment row p) kept.NotYours none_tried }

    pub into_not_used : IsSome (state_of p segment) → ¬ (HasRow segment row p) → KeepsItemInto b segment row cutoff into kept.NotUsed p p
    into_not_used some without = let is = refused_not_used some without in
        record { on = goes_same b p quiet; answer = refl; not_yours = is.0; not_used = is.1; costs = costs_none (has_rows_of b into segment row p) kept.NotUsed none_tried }

    pub into_no_target : HasRow segment row p → ¬ (IsMoveTarget segment into p) → KeepsItemInto b segment row cutoff into kept.NoRoom p p
    into_no_target has nowhere = let is = refused_no_room has in
        record {
          on = goes_same b p quiet;
          answer = inl ((λ other is. nowhere is.1), refl);
          not_yours = is.0;
          not_used = is.1;
          costs = costs_none (has_rows_of b into segment row p) kept.NoRoom none_tried;
        }
