-- What the steps of a put come to by which it clears a segment.
use Rattle.std.proofs.Common.{◌≡◌, ℕ, ◌+◌, List, [], ◌∷◌, Option, is_some, refl, sym, ap, ◌∙◌, subst, arith}
use Rattle.std.specs.Prelude.{sum_by}
use Rattle.std.proofs.lemmas.List.Sums.{sum_by-cons}
use Rattle.segmodel.specs.declared.answer.EvictAnswer.TheVariants as evict
use Rattle.segmodel.specs.declared.answer.RefillAnswer.TheVariants as refill
use Rattle.segmodel.specs.Words.{EvictAnswer, RefillAnswer}
use Rattle.segbase.specs.Words.{Board, Pass}
use Rattle.segstore.specs.Words.{ChangesNothing, GoesOn, IsQuiet}
use Rattle.segstore.proofs.Idling.{does_nothing, goes_nowhere, goes_same}
use Rattle.segevict.specs.Words.{TellsSpan}
use Rattle.segevict.proofs.RowsOut.{goes_then}
use Rattle.segclient.specs.declared.effort.Effort.{Effort}
use Rattle.segclient.specs.declared.stats.Stats.{Stats}
use Rattle.segclient.specs.Clearing.{came_to_step, Clears, ClearsSome, evicts_rest, evicts_row, IsEffortOf, IsStep, keeps_into, looks_at, refills_aside, Step}
use Rattle.segclient.specs.Counting.{cleared_too}
use Rattle.segclient.specs.Entries.{IsAny}
use Rattle.segclient.specs.PutCalls.{came_to, evicted_keys, evicts, kept_items, refilled_segments, refills}
use Rattle.segclient.specs.PutParts.{effort_from, with_effort}
use Rattle.segclient.proofs.Ways.{Comes, comes_then, evicted_some, row_evicted, row_kept_into, same_none, so_many, some_refilled, unchanged_none}

rest_came : (segment from : ℕ) (told : EvictAnswer) → came_to evicted_keys (evicts segment told) ≡ came_to_step evicted_keys (evicts_rest segment from told)
rest_came segment from (evict.Evicted keys) = refl
rest_came segment from (evict.Busy keys) = refl
rest_came segment from evict.NotYours = refl

aside_came : (segment : ℕ) (told : RefillAnswer) → came_to refilled_segments (refills segment told) ≡ came_to_step refilled_segments (refills_aside segment told)
aside_came segment refill.Refilled = refl
aside_came segment refill.NotYours = refl
aside_came segment refill.NotEvicted = refl
aside_came segment refill.Held = refl

-- ---- a look

-- the pass did nothing but look
module _ (b : Board) (segment row told : ℕ) (p q : Pass) where
  pub look_goes : IsQuiet b p → TellsSpan b segment row told p q → GoesOn b p q × ChangesNothing p q
  look_goes quiet is = (goes_nowhere b p q quiet is.0.moved is.0.plain is.0.memo, does_nothing b p q quiet is.0.moved is.0.plain is.0.memo)

module _ (b : Board) (cutoff : Option ℕ) where
  -- ---- some steps and then more

  pub none_cleared : (p : Pass) → Clears b cutoff [] p p
  unfolding Clears
  none_cleared p = refl

  pub one_cleared : (step : Step) (earlier : List Step) (p q r : Pass) → Clears b cutoff earlier p q → IsStep b cutoff step q r → Clears b cutoff (step ∷ earlier) p r
  unfolding Clears
  one_cleared step earlier p q r first last = (q, first, last)

  abbrev pub nothing_cleared : (effort : Effort) (p : Pass) → effort ≡ effort_from 0 0 0 → ClearsSome b cutoff effort p p
  nothing_cleared effort p none = record {
    steps = [];
    clears = none_cleared p;
    few = omega arith;
    comes = subst (IsEffortOf []) (sym none) (record { refilled = refl; kept = refl; keys = refl });
  }

  -- no steps leave the pass as it was
  pub unasked_same : (steps : List Step) (p q : Pass) → steps ≡ [] → Clears b cutoff steps p q → q ≡ p
  unfolding Clears
  unasked_same steps p q none clears = subst (λ l. Clears b cutoff l p q) none clears

  pub step_on : (step : Step) (p q : Pass) → IsQuiet b p → IsStep b cutoff step p q → GoesOn b p q
  step_on (looks_at segment row told) p q quiet is = (look_goes b segment row told p q quiet is.1).0
  step_on (keeps_into segment row by into told) p q quiet is = is.2.on
  step_on (evicts_row segment row told) p q quiet is = is.1.on
  step_on (evicts_rest segment from told) p q quiet is = is.2.on
  step_on (refills_aside segment told) p q quiet is = is.1.4.on

  pub clears_on : (steps : List Step) (p q : Pass) → IsQuiet b p → Clears b cutoff steps p q → GoesOn b p q
  unfolding Clears
  clears_on [] p q quiet same = subst (GoesOn b p) (sym same) (goes_same b p quiet)
  clears_on (step ∷ earlier) p q quiet (between, rest, last) = let first = clears_on earlier p between quiet rest in goes_then b p between q first (step_on step between q first.quiet last)

  -- ---- what they come to

  abbrev Came : ℕ → ℕ → ℕ → Pass → Pass → Type 0
  Came = Comes b cutoff IsAny

  step_comes : (step : Step) (p q : Pass) → IsQuiet b p → IsStep b cutoff step p q
      → Came (came_to_step refilled_segments step) (came_to_step kept_items step) (came_to_step evicted_keys step) p
      q
  step_comes (looks_at segment row told) p q quiet is = let goes = look_goes b segment row told p q quiet is.1 in unchanged_none b cutoff IsAny p q goes.0 goes.1
  step_comes (keeps_into segment row by into told) p q quiet is = row_kept_into b cutoff IsAny segment row by into told p q is.0.0 (ap is_some is.1.1) quiet is.2
  step_comes (evicts_row segment row told) p q quiet is = row_evicted b cutoff IsAny segment row told p q is.0.0 quiet is.1
  step_comes (evicts_rest segment from told) p q quiet is = subst (λ n. Came 0 0 n p q) (rest_came segment from told) (evicted_some b cutoff IsAny segment from told p q quiet is.2)
  step_comes (refills_aside segment told) p q quiet is = subst (λ n. Came n 0 0 p q) (aside_came segment told) (some_refilled b cutoff IsAny segment is.1.1 _ told p q tt quiet is.1.4)

  pub clears_come : (steps : List Step) (p q : Pass) → IsQuiet b p → Clears b cutoff steps p q
      → Came (sum_by (came_to_step refilled_segments) steps) (sum_by (came_to_step kept_items) steps)
      (sum_by (came_to_step evicted_keys) steps) p q
  unfolding Clears
  clears_come [] p q quiet same = same_none b cutoff IsAny p q quiet same
  clears_come (step ∷ earlier) p q quiet (between, rest, last) =
      let first = clears_come earlier p between quiet rest in
      let then = step_comes step between q first.on.quiet last in
      let one = sum_by-cons (came_to_step refilled_segments) step earlier in
      let two = sum_by-cons (came_to_step kept_items) step earlier in
      let three = sum_by-cons (came_to_step evicted_keys) step earlier in
      so_many b cutoff IsAny (sum_by (came_to_step refilled_segments) earlier + came_to_step refilled_segments step)
      (sum_by (came_to_step kept_items) earlier + came_to_step kept_items step)
      (sum_by (came_to_step evicted_keys) earlier + came_to_step evicted_keys step)
      (sum_by (came_to_step refilled_segments) (step ∷ earlier)) (sum_by (came_to_step kept_items) (step ∷ earlier))
      (sum_by (came_to_step evicted_keys) (step ∷ earlier)) p q (omega (arith, one)) (omega (arith, two))
      (omega (arith, three))
      (comes_then b cutoff IsAny (sum_by (came_to_step refilled_segments) earlier)
      (sum_by (came_to_step kept_items) earlier) (sum_by (came_to_step evicted_keys) earlier)
      (came_to_step refilled_segments step) (came_to_step kept_items step) (came_to_step evicted_keys step) p
      between q first then)

-- what they came to is counted
pub steps_counted : (steps : List Step) (effort : Effort) (stats : Stats) → IsEffortOf steps effort → with_effort effort stats ≡ cleared_too steps stats
steps_counted steps effort stats is =
    ap (λ (n : ℕ). with_effort (effort_from n effort.kept effort.keys) stats) is.refilled
    ∙ ap (λ (n : ℕ). with_effort (effort_from (sum_by (came_to_step refilled_segments) steps) n effort.keys) stats) is.kept
    ∙ ap (λ (n : ℕ). with_effort (effort_from (sum_by (came_to_step refilled_segments) steps) (sum_by (came_to_step kept_items) steps) n) stats) is.keys
