-- A refill: it may be tried, what stops it, and what it leaves.
use Rattle.std.proofs.Common.{◌≡◌, ◌≢◌, ℕ, ◌+◌, ◌*◌, ◌^◌, ◌<◌, Bool, true, false, cond, eqb, List, [], ◌∷◌, ◌++◌, Option, Some, refl, sym, ap, ◌∙◌, subst, arith}
use Rattle.std.proofs.lemmas.Bool.{cond-true, cond-false, eq-eqb, false≢true}
use Rattle.segmodel.specs.Words.{SegState}
use Rattle.segmodel.specs.declared.answer.RefillAnswer.TheVariants.{Held}
use Rattle.segmodel.specs.declared.answer.SegState.TheVariants.{InUse}
use Rattle.segcore.specs.declared.event.Event.TheVariants.{Refilled}
use Rattle.segcore.specs.Words.{Event, inside, May, NoneBy, none_reading, readers, View}
use Rattle.segcore.specs.Segment.{deadline_of as deadline_of_trace}
use Rattle.segcore.proofs.Readers.{some_reader}
use Rattle.segcore.proofs.Quiet.{own_deadline}
use Rattle.segcore.proofs.Deadlines.{deadline_seen}
use Rattle.segbase.specs.declared.pass.PlainPart.{PlainPart}
use Rattle.segbase.specs.Words.{AddsAtOnce, AddsEvents, AsksReaders, Board, current_of, HasStep, IsPassOf, deadline_of, number, own_segment, Pass, state_in, state_of}
use Rattle.segbase.specs.Words.{Stepped, trace, with_current, with_deadline, with_state, with_used}
use Rattle.segbase.proofs.Known.{state_lasting}
use Rattle.segbase.proofs.Moves.{stays}
use Rattle.segbase.proofs.Owned.{moved_still, state_there}
use Rattle.segbase.proofs.Stepping.{starts}
use Rattle.segstore.specs.Segments.{KeepsSegments}
use Rattle.segstore.specs.Refilling.{FillsWith, Idles, IsOutcomeWith, refilled_aside, TakesOneStep}
use Rattle.segstore.proofs.Keeping.{in_table, keeps_current, keeps_plain, owns_stated, owns_lasting, refilled_state, same_states}

pub idles : (b : Board) (p : Pass) → IsPassOf b p → Idles b p p
idles b p is = record { moved = stays b p is; plain = refl; memo = refl }

-- nothing stands in a segment that isn't in use
pub may_refill : (b : Board) (p : Pass) (s old deadline : ℕ) (state : SegState) → IsPassOf b p → KeepsSegments b p
    → state_of p s ≡ Some state → state ≢ InUse → deadline < 2 ^ 32
    → May b.shape (trace p) (number p) (none_reading s old deadline)
may_refill b p s old deadline state is k there other small = let own = owns_stated b p s state is there in (in_table b p s is own, (k.unused s state there other, own), small)

-- what a failed exchange found: a word of this deadline that isn't the deadline alone counts a reader
some_counted : (deadline count : ℕ) → deadline * 2 ^ 32 + count ≢ deadline * 2 ^ 32 → 0 < count
some_counted deadline count other = omega (arith, other)

-- an exchange that failed found a reader, and nothing was done
pub is_read : (b : Board) (p q : Pass) (s old deadline found : ℕ) (t : Bool) → IsPassOf b p → KeepsSegments b p → deadline_of p s ≡ Some old
    → Stepped b (none_reading s old deadline) found p q → t ≡ eqb found (old * 2 ^ 32) → t ≡ false → Idles b p q × ((other : ℕ) × (0 < inside (trace q) other s)) × HasStep p q × TakesOneStep p q
is_read b p q s old deadline found t is k knows step at f =
    let h : List Event = step.told.more ++ trace p in
    let none : eqb found (old * 2 ^ 32) ≡ false = sym at ∙ f in
    let now : trace q ≡ h = ap (λ (v : View). v.trace) step.told.now ∙ ap (λ x. cond x (Refilled (number p) s deadline ∷ []) [] ++ h) none in
    let lasts : deadline_of_trace h s ≡ old =
    own_deadline b.shape step.told.more (trace p) s step.told.before (subst (λ x. NoneBy x step.told.more) (sym (owns_lasting b p s old is knows)) step.told.others)
    ∙ (sym (deadline_seen b.shape (trace p) s) ∙ k.deadlines s old knows) in
    let counted : found ≡ old * 2 ^ 32 + readers h s = step.told.found_is ∙ ap (λ n. n * 2 ^ 32 + readers h s) lasts in
    let other : old * 2 ^ 32 + readers h s ≢ old * 2 ^ 32 = (λ e. false≢true (sym none ∙ eq-eqb found (old * 2 ^ 32) (counted ∙ e))) in
    let reader = some_reader b.shape h step.told.before s (some_counted old (readers h s) other) in (
      record {
        moved = subst (λ es. AddsEvents b es p q) (cond-false (eqb found (old * 2 ^ 32)) (Refilled (number p) s deadline ∷ []) [] none) step.did.moved;
        plain = step.plain;
        memo = step.memo;
      },
      (reader.0, subst (λ g. 0 < inside g reader.0 s) (sym now) reader.1),
      (h, starts p q (none_reading s old deadline) found step.told),
      (h, ap (λ (v : View). v.looks) step.told.now),
    )

pub did_refill : (b : Board) (p q : Pass) (s deadline : ℕ) (t : Bool) → t ≡ true
    → AddsAtOnce b (cond t (Refilled (number p) s deadline ∷ []) []) p q
    → AddsAtOnce b (Refilled (number p) s deadline ∷ []) p q
did_refill b p q s deadline t y d = subst (λ es. AddsAtOnce b es p q) (cond-true t (Refilled (number p) s deadline ∷ []) [] y) d

-- what a refill leaves that was stopped by a reader
pub held : (b : Board) (p q : Pass) (s deadline : ℕ) (current : Option ℕ) (t : Bool) → IsPassOf b p → KeepsSegments b p → AsksReaders b s deadline t p q → t ≡ false
    → IsOutcomeWith b s deadline current Held p q × KeepsSegments b q
held b p q s deadline current t is k asks f =
    let same : q ≡ asks.now = asks.keeps ∙ cond-false t (record asks.now { plain = with_deadline s deadline asks.now.plain }) asks.now f in
    let out = is_read b p asks.now s asks.old deadline asks.found t is k asks.knew asks.step asks.told f in
    subst (λ r. IsOutcomeWith b s deadline current Held p r × KeepsSegments b r) (sym same) (out, keeps_plain b [] p asks.now out.0.moved tt out.0.plain k)

-- what one leaves that no reader stopped, but for the setters
module _ (b : Board) (p q : Pass) (s deadline : ℕ) (asks : AsksReaders b s deadline true p q) where
  pub adds_refilling : AddsAtOnce b (Refilled (number p) s deadline ∷ []) p asks.now
  adds_refilling = did_refill b p asks.now s deadline (eqb asks.found (asks.old * 2 ^ 32)) (sym asks.told) asks.step.did

  pub still_own : (state : SegState) → state_of p s ≡ Some state → state_of q s ≡ Some state
  still_own state was =
      ap (λ (r : Pass). state_of r s) asks.keeps ∙ (state_lasting asks.now.plain s deadline s ∙ (same_states p asks.now s asks.step.plain ∙ was))

-- the setters of a refilling
pub set_anew : (s deadline : ℕ) (r q one two : Pass) → q ≡ record r { plain = with_deadline s deadline r.plain } → one ≡ record q { plain = with_state s InUse q.plain }
    → two ≡ record one { plain = with_used s 0 one.plain } → two ≡ record r { plain = refilled_aside s deadline r.plain }
set_anew s deadline r q one two dated first second =
    second ∙ ap (λ (q : Pass). record q { plain = with_used s 0 q.plain }) (first ∙ ap (λ (q : Pass). record q { plain = with_state s InUse q.plain }) dated)

-- a segment that was refilled is made current
module _ (b : Board) (s deadline : ℕ) (p q : Pass) where
  abbrev made_current : Pass
  made_current = record q { plain = with_current (Some s) q.plain }

  pub refilled_current : FillsWith b s deadline (current_of p) p q → FillsWith b s deadline (Some s) p made_current
  refilled_current f = record {
    own = f.own;
    moved = moved_still b _ p q made_current.plain f.moved refl;
    plain = ap (with_current (Some s)) f.plain;
    memo = f.memo;
    once = f.once;
  }

  pub current_kept : FillsWith b s deadline (current_of p) p q → KeepsSegments b q → KeepsSegments b made_current
  current_kept f = keeps_current b q s (ap (λ (x : PlainPart). state_in (own_segment x s)) f.plain ∙ refilled_state p.plain s deadline (sym (state_there (own_segment p.plain s)) ∙ f.own))
