-- Turns of clearing: what their steps come to, and that the rows that are done stay unnamed.
use Rattle.std.proofs.Common.{◌≡◌, ◌≢◌, ◌⊎◌, ℕ, ◌+◌, ◌^◌, ◌<◌, ◌≤◌, List, [], ◌∷◌, ◌++◌, length-append, Option, Some, refl, sym, ap, ◌∙◌, subst, inr, ⊎_elim, arith}
use Rattle.std.proofs.lemmas.List.Sums.{sum_by-append, sum_by-cons}
use Rattle.std.proofs.lemmas.Option.{same_Some}
use Rattle.segmodel.specs.declared.answer.EvictAnswer.TheVariants as evict
use Rattle.segmodel.specs.declared.answer.RefillAnswer.TheVariants as refill
use Rattle.segmodel.specs.declared.entry.Entry.TheVariants.{Evicted, Moved, Refilled}
use Rattle.segmodel.specs.Words.{Entry, EvictAnswer, RefillAnswer}
use Rattle.segbase.specs.declared.pass.PlainPart.{PlainPart}
use Rattle.segbase.specs.Words.{Board, mine, number, Pass}
use Rattle.segstore.specs.Words.{ChangesNothing, GoesOn, IsQuiet}
use Rattle.segread.specs.Holds.{NoneFills}
use Rattle.segevict.specs.declared.eviction.EvictRowAnswer.{EvictRowAnswer}
use Rattle.segevict.specs.declared.eviction.EvictRowAnswer.TheVariants as evict_row
use Rattle.segevict.specs.declared.retention.KeepRowAnswer.{KeepRowAnswer}
use Rattle.segevict.specs.declared.retention.KeepRowAnswer.TheVariants as kept
use Rattle.segevict.specs.Words.{AreUnnamed, EvictsItem, HasRow, KeepsItemInto, TellsSpan}
use Rattle.segindex.specs.Refilling.{RefillsAside}
use Rattle.segindex.proofs.UnnamedRows.{evicted_is_unnamed, has_row, moved_is_unnamed}
use Rattle.segtally.specs.Recycling.{evicted_by, refilled_by}
use Rattle.segclient.specs.declared.segments.SourceSegment.{SourceSegment}
use Rattle.segclient.specs.declared.effort.Effort.{Effort}
use Rattle.segclient.specs.Clearing.{came_to_step, Clears, ClearsAtMost, evicts_rest, evicts_row, IsCleared, IsClearing, IsEffortOf, IsStep, keeps_into, looks_at, most_steps_of_turn, refills_aside, Step, TakesRows}
use Rattle.segclient.specs.PutCalls.{evicted_keys, kept_items, refilled_segments}
use Rattle.segclient.specs.PutParts.{effort_from}
use Rattle.segclient.proofs.Calls.{both}
use Rattle.segclient.proofs.Cleared.{nothing_stays, refilled_in, source_stays, stays_same}
use Rattle.segclient.proofs.Items.{cleared_behind, last_low, span_kept, way_kept}
use Rattle.segclient.proofs.Steps.{look_goes, none_cleared, one_cleared}

-- ---- what steps come to

no_steps : IsEffortOf [] (effort_from 0 0 0)
no_steps = record { refilled = refl; kept = refl; keys = refl }

steps_then : (later earlier : List Step) (first more : Effort) → IsEffortOf earlier first → IsEffortOf later more → IsEffortOf (later ++ earlier) (both first more)
steps_then later earlier first more one two = record {
  refilled = let all = sum_by-append (came_to_step refilled_segments) later earlier in let x = one.refilled in let y = two.refilled in omega (arith, all, x, y);
  kept = let all = sum_by-append (came_to_step kept_items) later earlier in let x = one.kept in let y = two.kept in omega (arith, all, x, y);
  keys = let all = sum_by-append (came_to_step evicted_keys) later earlier in let x = one.keys in let y = two.keys in omega (arith, all, x, y);
}

abbrev pub of_step : Step → Effort
of_step step = effort_from (came_to_step refilled_segments step) (came_to_step kept_items step) (came_to_step evicted_keys step)

one_step : (step : Step) → IsEffortOf (step ∷ []) (of_step step)
one_step step = record {
  refilled = let all = sum_by-cons (came_to_step refilled_segments) step [] in omega (arith, all);
  kept = let all = sum_by-cons (came_to_step kept_items) step [] in omega (arith, all);
  keys = let all = sum_by-cons (came_to_step evicted_keys) step [] in omega (arith, all);
}

both_none : (effort : Effort) → effort ≡ both (effort_from 0 0 0) effort
both_none effort =
    let one : effort.refilled ≡ 0 + effort.refilled = omega arith in
    let two : effort.kept ≡ 0 + effort.kept = omega arith in
    let three : effort.keys ≡ 0 + effort.keys = omega arith in
    ap (λ (n : ℕ). effort_from n effort.kept effort.keys) one
    ∙ ap (λ (n : ℕ). effort_from (0 + effort.refilled) n effort.keys) two
    ∙ ap (λ (n : ℕ). effort_from (0 + effort.refilled) (0 + effort.kept) n) three

pub aside_refilled : (segment : ℕ) (told : RefillAnswer) → refilled_by told ≡ came_to_step refilled_segments (refills_aside segment told)
aside_refilled segment refill.Refilled = refl
aside_refilled segment refill.NotYours = refl
aside_refilled segment refill.NotEvicted = refl
aside_refilled segment refill.Held = refl

pub rest_evicted : (segment from : ℕ) (told : EvictAnswer) → evicted_by told ≡ came_to_step evicted_keys (evicts_rest segment from told)
rest_evicted segment from (evict.Evicted keys) = refl
rest_evicted segment from (evict.Busy keys) = refl
rest_evicted segment from evict.NotYours = refl

module _ (b : Board) (cutoff : Option ℕ) where
  appended : (later earlier : List Step) (p q r : Pass) → Clears b cutoff earlier p q → Clears b cutoff later q r → Clears b cutoff (later ++ earlier) p r
  unfolding Clears
  appended [] earlier p q r first same = subst (Clears b cutoff earlier p) (sym same) first
  appended (step ∷ later) earlier p q r first (between, rest, last) = (between, appended later earlier p q between first rest, last)

  pub none_clears : (p : Pass) → ClearsAtMost b cutoff 0 (effort_from 0 0 0) p p
  none_clears p = record { steps = []; clears = none_cleared b cutoff p; few = omega arith; comes = no_steps }

  -- by other names, and within more steps
  pub clears_as : (most total : ℕ) (first effort : Effort) (p q : Pass) → most ≤ total → effort ≡ first
      → ClearsAtMost b cutoff most first p q → ClearsAtMost b cutoff total effort p q
  clears_as most total first effort p q enough same clears = subst (λ e. ClearsAtMost b cutoff total e p q) (sym same) (record {
    steps = clears.steps;
    clears = clears.clears;
    few = let few = clears.few in omega (arith, few, enough);
    comes = clears.comes;
  })

  pub clears_then : (most more total : ℕ) (first last sum : Effort) (p q r : Pass) → most + more ≤ total
      → sum ≡ both first last → ClearsAtMost b cutoff most first p q
      → ClearsAtMost b cutoff more last q r
      → ClearsAtMost b cutoff total sum p r
  clears_then most more total first last sum p q r enough same one two = subst (λ e. ClearsAtMost b cutoff total e p r) (sym same) (record {
    steps = two.steps ++ one.steps;
    clears = appended two.steps one.steps p q r one.clears two.clears;
    few = let all = length-append two.steps one.steps in let x = one.few in let y = two.few in omega (arith, all, x, y, enough);
    comes = steps_then two.steps one.steps first last one.comes two.comes;
  })

  -- by the same numbers one by one
  pub some_clears : (step : Step) (effort : Effort) (p q : Pass)
      → effort.refilled ≡ came_to_step refilled_segments step → effort.kept ≡ came_to_step kept_items step
      → effort.keys ≡ came_to_step evicted_keys step
      → IsStep b cutoff step p q → ClearsAtMost b cutoff 1 effort p q
  some_clears step effort p q one two three is = record {
    steps = step ∷ [];
    clears = one_cleared b cutoff step [] p p q (none_cleared b cutoff p) is;
    few = omega arith;
    comes = let of = one_step step in record { refilled = one ∙ of.refilled; kept = two ∙ of.kept; keys = three ∙ of.keys };
  }

  -- a step that came to nothing, and then others
  pub clears_after : (most more total : ℕ) (last : Effort) (p q r : Pass) → most + more ≤ total
      → ClearsAtMost b cutoff most (effort_from 0 0 0) p q → ClearsAtMost b cutoff more last q r
      → ClearsAtMost b cutoff total last p r
  clears_after most more total last p q r enough one two = clears_then most more total (effort_from 0 0 0) last last p q r enough (both_none last) one two

-- ---- the source

-- the pass had a used row, and added entries that refill another segment or none
record HadRow (b : Board) (segment row : ℕ) (p q : Pass) : Type 0 where
  has : HasRow segment row p
  added : List Entry
  entries : mine q ≡ added ++ mine p
  none : NoneFills segment added

module _ (b : Board) (p q : Pass) (segment row : ℕ) where
  evicted_had : (told : EvictRowAnswer) → EvictsItem b segment row told p q → (told ≡ evict_row.Evicted) ⊎ (told ≡ evict_row.Left) → HadRow b segment row p q
  evicted_had evict_row.Evicted e which = record {
    has = has_row segment row p
        (λ none. let no : evict_row.Evicted ≡ evict_row.NotYours = e.not_yours.1 none in cc)
        (λ without. let no : evict_row.Evicted ≡ evict_row.NotUsed = e.not_used.1 without in cc);
    added = Evicted (number p) e.answer.0.key segment ∷ [];
    entries = e.answer.0.entry;
    none = ((λ n d is. let no : Evicted (number p) e.answer.0.key segment ≡ Refilled n segment d = is in cc), tt);
  }
  evicted_had evict_row.Left e which = record {
    has = has_row segment row p
        (λ none. let no : evict_row.Left ≡ evict_row.NotYours = e.not_yours.1 none in cc)
        (λ without. let no : evict_row.Left ≡ evict_row.NotUsed = e.not_used.1 without in cc);
    added = [];
    entries = e.answer.0.entries;
    none = tt;
  }
  evicted_had evict_row.Busy e which = ⊎_elim
      (λ is. let no : evict_row.Busy ≡ evict_row.Evicted = is in cc)
      (λ is. let no : evict_row.Busy ≡ evict_row.Left = is in cc)
      which
  evicted_had evict_row.NotYours e which = ⊎_elim
      (λ is. let no : evict_row.NotYours ≡ evict_row.Evicted = is in cc)
      (λ is. let no : evict_row.NotYours ≡ evict_row.Left = is in cc)
      which
  evicted_had evict_row.NotUsed e which = ⊎_elim
      (λ is. let no : evict_row.NotUsed ≡ evict_row.Evicted = is in cc)
      (λ is. let no : evict_row.NotUsed ≡ evict_row.Left = is in cc)
      which

  moved_had : (cutoff into : ℕ) → KeepsItemInto b segment row cutoff into kept.Moved p q → HadRow b segment row p q
  moved_had cutoff into k = let key = k.answer.3.0 in record {
    has = has_row segment row p
        (λ none. let no : kept.Moved ≡ kept.NotYours = k.not_yours.1 none in cc)
        (λ without. let no : kept.Moved ≡ kept.NotUsed = k.not_used.1 without in cc);
    added = Moved (number p) key segment k.answer.0 ∷ [];
    entries = k.answer.3.1.entries;
    none = ((λ n d is. let no : Moved (number p) key segment k.answer.0 ≡ Refilled n segment d = is in cc), tt);
  }

module _ (b : Board) (source : SourceSegment) (p q : Pass) (quiet : IsQuiet b p) (is : IsClearing b.shape source p) where
  -- the item is done, and the clearing goes on behind its rows
  abbrev IsDone : ℕ → Type 0
  IsDone rows = IsCleared b.shape (Some (record { segment = source.segment; row = source.row + rows })) q

  done : (rows : ℕ) → TakesRows source rows p → GoesOn b p q → HadRow b source.segment source.row p q → AreUnnamed b.shape source.segment (source.row + 1) q → IsDone rows
  done rows takes on had are =
      let s = source.segment in let row = source.row in let own = is.0.0 in
      let same = span_kept b p q s had.added quiet on had.entries had.none own row had.has.1 in
      cleared_behind b q source rows on.quiet (own ∙ sym on.same) are
      (way_kept b p q s had.added quiet on had.entries had.none own row is.0.1 is.0.2) (takes had.has ∙ sym same)

  -- its rows are used, so they are among those of the table
  ends_low : (rows : ℕ) → TakesRows source rows p → GoesOn b p q → HadRow b source.segment source.row p q → AreUnnamed b.shape source.segment (source.row + 1) q → source.row + rows < 2 ^ 32
  ends_low rows takes on had are = last_low b q source.segment (source.row + rows) on.quiet (done rows takes on had are).1

  evicted_are : (told : EvictRowAnswer) → EvictsItem b source.segment source.row told p q → (told ≡ evict_row.Evicted) ⊎ (told ≡ evict_row.Left) → AreUnnamed b.shape source.segment (source.row + 1) q
  evicted_are told evicts which = evicted_is_unnamed b p q source.segment source.row told quiet evicts which is.0.1

  pub evicted_done : (rows : ℕ) → TakesRows source rows p → (told : EvictRowAnswer) → EvictsItem b source.segment source.row told p q
      → (told ≡ evict_row.Evicted) ⊎ (told ≡ evict_row.Left) → IsDone rows
  evicted_done rows takes told evicts which = done rows takes evicts.on (evicted_had b p q source.segment source.row told evicts which) (evicted_are told evicts which)

  pub evicted_fits : (rows : ℕ) → TakesRows source rows p → (told : EvictRowAnswer) → EvictsItem b source.segment source.row told p q
      → (told ≡ evict_row.Evicted) ⊎ (told ≡ evict_row.Left) → source.row + rows < 2 ^ 32
  evicted_fits rows takes told evicts which = ends_low rows takes evicts.on (evicted_had b p q source.segment source.row told evicts which) (evicted_are told evicts which)

  module _ (told : KeepRowAnswer) (cutoff into : ℕ) (same : told ≡ kept.Moved) (keeps : KeepsItemInto b source.segment source.row cutoff into told p q) where
    moved : KeepsItemInto b source.segment source.row cutoff into kept.Moved p q
    moved = subst (λ t. KeepsItemInto b source.segment source.row cutoff into t p q) same keeps

    moved_are : AreUnnamed b.shape source.segment (source.row + 1) q
    moved_are = moved_is_unnamed b p q source.segment source.row cutoff quiet (inr (into, moved)) is.0.1

    pub moved_done : (rows : ℕ) → TakesRows source rows p → IsDone rows
    moved_done rows takes = done rows takes keeps.on (moved_had b p q source.segment source.row cutoff into moved) moved_are

    pub moved_fits : (rows : ℕ) → TakesRows source rows p → source.row + rows < 2 ^ 32
    moved_fits rows takes = ends_low rows takes keeps.on (moved_had b p q source.segment source.row cutoff into moved) moved_are

  -- an item that was left where it is takes as many rows as before
  pub takes_still : (rows : ℕ) → TakesRows source rows p → (told : KeepRowAnswer) (cutoff into : ℕ) → told ≡ kept.Left
      → KeepsItemInto b source.segment source.row cutoff into told p q → TakesRows source rows q
  takes_still rows takes told cutoff into same keeps =
      let left = subst (λ t. KeepsItemInto b source.segment source.row cutoff into t p q) same keeps in
      let s = source.segment in let row = source.row in
      λ has.
      let had = subst (λ (x : PlainPart). HasRow s row (record p { plain = x })) left.answer.2.plain has in
      takes had ∙ sym (span_kept b p q s [] quiet left.on left.answer.2.entries tt is.0.0 row had.1)

  -- an item was left where it is
  pub left_stays : (told : KeepRowAnswer) (cutoff into : ℕ) → told ≡ kept.Left → KeepsItemInto b source.segment source.row cutoff into told p q → IsClearing b.shape source q
  left_stays told cutoff into same keeps = let left = subst (λ t. KeepsItemInto b source.segment source.row cutoff into t p q) same keeps in (
    nothing_stays b p q quiet left.on left.answer.2.entries (Some source) is.0,
    λ current. is.1 (sym (ap (λ (x : PlainPart). x.current) left.answer.2.plain) ∙ current),
  )

  -- another segment was refilled, or refused
  pub opened_stays : (segment deadline : ℕ) (told : RefillAnswer) → source.segment ≢ segment → RefillsAside b segment deadline told p q → IsCleared b.shape (Some source) q
  opened_stays segment deadline refill.Refilled other fills = source_stays b p q quiet fills.on (Some source) (Refilled (number p) segment deadline ∷ []) fills.answer.entry
      (λ one same. ((λ pass late filled. other (ap (λ (x : SourceSegment). x.segment) (same_Some source one same) ∙ sym (refilled_in (number p) pass segment one.segment deadline late filled))), tt))
      is.0
  opened_stays segment deadline refill.NotYours other fills = stays_same b.shape p q fills.answer (Some source) is.0
  opened_stays segment deadline refill.NotEvicted other fills = stays_same b.shape p q fills.answer (Some source) is.0
  opened_stays segment deadline refill.Held other fills = nothing_stays b p q quiet fills.on fills.answer.0.entries (Some source) is.0

  -- ---- what became of its row

  pub evicted_clears : (cutoff : Option ℕ) (n : ℕ) (told : EvictRowAnswer) (effort : Effort)
      → effort ≡ effort_from 0 0 n → n ≡ came_to_step evicted_keys (evicts_row source.segment source.row told)
      → EvictsItem b source.segment source.row told p q
      → ClearsAtMost b cutoff 1 effort p q
  evicted_clears cutoff n told effort same value evicts = some_clears b cutoff (evicts_row source.segment source.row told) effort p q
      (ap (λ (e : Effort). e.refilled) same) (ap (λ (e : Effort). e.kept) same) (ap (λ (e : Effort). e.keys) same ∙ value)
      ((is.0.0, is.1), evicts)

  kept_once : (least n by into : ℕ) (told : KeepRowAnswer) (effort : Effort) → effort ≡ effort_from 0 n 0
      → n ≡ came_to_step kept_items (keeps_into source.segment source.row by into told) → least ≤ by
      → KeepsItemInto b source.segment source.row by into told p q
      → ClearsAtMost b (Some least) 1 effort p q
  kept_once least n by into told effort same value enough keeps = some_clears b (Some least) (keeps_into source.segment source.row by into told) effort p q
      (ap (λ (e : Effort). e.refilled) same) (ap (λ (e : Effort). e.kept) same ∙ value) (ap (λ (e : Effort). e.keys) same)
      ((is.0.0, is.1), (least, refl, enough), keeps)

  pub kept_clears : (least n by into : ℕ) (told : KeepRowAnswer) (effort : Effort)
      → effort ≡ effort_from 0 n 0 → n ≡ came_to_step kept_items (keeps_into source.segment source.row by into told)
      → least ≤ by → KeepsItemInto b source.segment source.row by into told p q
      → ClearsAtMost b (Some least) 2 effort p q
  kept_clears least n by into told effort same value enough keeps =
      clears_as b (Some least) 1 2 effort effort p q (omega arith) refl
      (kept_once least n by into told effort same value enough keeps)

  pub left_clears : (least by into : ℕ) (told : KeepRowAnswer) → told ≡ kept.Left → least ≤ by
      → KeepsItemInto b source.segment source.row by into told p q
      → ClearsAtMost b (Some least) 1 (effort_from 0 0 0) p q
  left_clears least by into told left enough keeps =
      kept_once least 0 by into told (effort_from 0 0 0) refl
      (sym (ap (λ t. came_to_step kept_items (keeps_into source.segment source.row by into t)) left)) enough keeps

-- ---- a look at how many rows the item takes

module _ (b : Board) (source : SourceSegment) (told : ℕ) (p q : Pass) (quiet : IsQuiet b p) (is : IsClearing b.shape source p)
    (tells : TellsSpan b source.segment source.row told p q) where
  goes : GoesOn b p q × ChangesNothing p q
  goes = look_goes b source.segment source.row told p q quiet tells

  pub looked_on : GoesOn b p q
  looked_on = goes.0

  pub looked_stays : IsClearing b.shape source q
  looked_stays = (
    nothing_stays b p q quiet goes.0 goes.1.entries (Some source) is.0,
    λ current. is.1 (sym (ap (λ (x : PlainPart). x.current) goes.1.plain) ∙ current),
  )

  pub looked_takes : TakesRows source told q
  looked_takes has = tells.2 (subst (λ (x : PlainPart). HasRow source.segment source.row (record p { plain = x })) goes.1.plain has)

  -- and then a turn for the item
  pub looked_clears : (least : ℕ) (effort : Effort) (r : Pass) → ClearsAtMost b (Some least) 2 effort q r → ClearsAtMost b (Some least) most_steps_of_turn effort p r
  looked_clears least effort r clears =
      clears_after b (Some least) 1 2 most_steps_of_turn effort p q r (omega arith)
      (some_clears b (Some least) (looks_at source.segment source.row told) (effort_from 0 0 0) p q refl refl refl
      ((is.0.0, is.1), tells))
      clears
