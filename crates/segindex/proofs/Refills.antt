-- A refill in the terms of its answer.
use Rattle.std.proofs.Common.{◌≡◌, ◌≢◌, ℕ, IsSome, ◌<◌, Bool, true, false, cond, eqb, List, [], ◌∷◌, Option, Some, None, refl, sym, ap, ◌∙◌, subst, inl, inr, ⊎_elim, arith}
use Rattle.std.proofs.lemmas.Bool.{cases_eq, cases_Bool, cond-true, cond-false, eq-eqb, false≢true}
use Rattle.std.proofs.lemmas.Option.{same_Some, none-some}
use Rattle.segmodel.specs.Words.{RefillAnswer, SegState}
use Rattle.segmodel.specs.declared.answer.RefillAnswer.TheVariants as refill
use Rattle.segmodel.specs.declared.answer.SegState.TheVariants.{InUse, Evicted}
use Rattle.segmodel.specs.declared.entry.Entry.TheVariants as entry
use Rattle.segcore.specs.declared.event.Event.TheVariants.{Refilled}
use Rattle.segcore.specs.Words.{by, Event, inside, NoneRefills}
use Rattle.segbase.specs.declared.pass.PlainPart.{PlainPart}
use Rattle.segbase.specs.Words.{AddsEvents, Board, holding, mine, number, own_of, own_segment, Pass}
use Rattle.segbase.specs.Words.{state_in, state_of, trace, used_in, used_of}
use Rattle.segbase.proofs.Moves.{moved_inside, moved_mine}
use Rattle.segbase.proofs.Owned.{state_there}
use Rattle.segstore.specs.Words.{CostsNothing, FillsWith, GoesOn, Idles, is_held_in, IsOutcomeWith}
use Rattle.segstore.specs.Words.{IsQuiet, KeepsSegments}
use Rattle.segindex.specs.Refilling.{IsBeingRead, IsRefillAnswerWith, Refills}
use Rattle.segstore.proofs.Keeping.{refilled_state, refilled_used, others_state, others_used}
use Rattle.segstore.proofs.Bits.{bit_before}
use Rattle.segstore.proofs.Draws.{moved_undrawn}
use Rattle.segstore.proofs.Quiet.{StaysQuiet, quiet_again, goes_on}
use Rattle.segstore.proofs.Still.{no_reader}
use Rattle.segstore.proofs.Idling.{goes_same, goes_nowhere, does_nothing, took_none}
use Rattle.segstore.proofs.Costs.{costs_nothing, idle_costs_nothing}

-- ---- quiet again

fills_settles : (b : Board) (s d : ℕ) (c : Option ℕ) (p q : Pass) → FillsWith b s d c p q → KeepsSegments b q → StaysQuiet b (Refilled (number p) s d ∷ []) p q
fills_settles b s d c p q f segments = record {
  moved = f.moved;
  memo = f.memo;
  locked_of = ap (λ (x : PlainPart). x.locked) f.plain;
  holding = ap (λ (x : PlainPart). x.is_holding) f.plain;
  segments = segments;
  bits = λ bucket. bit_before b (Refilled (number p) s d ∷ []) p q bucket f.moved (refl, tt);
  untouched = λ lock is. (refl, tt);
  readings = λ t. moved_inside b (Refilled (number p) s d ∷ []) p q t f.moved;
  stays = λ t there. (there, there);
}

pub refill_goes_on : (b : Board) (s d : ℕ) (c : Option ℕ) (r : RefillAnswer) (p q : Pass) → IsQuiet b p → IsOutcomeWith b s d c r p q → KeepsSegments b q → GoesOn b p q
refill_goes_on b s d c refill.Refilled p q quiet is k = let own = Refilled (number p) s d ∷ [] in goes_on b own p q is.moved (quiet_again b own p q quiet (fills_settles b s d c p q is k))
refill_goes_on b s d c refill.NotYours p q quiet is k = rw is (goes_same b p quiet)
refill_goes_on b s d c refill.NotEvicted p q quiet is k = rw is (goes_same b p quiet)
refill_goes_on b s d c refill.Held p q quiet is k = goes_nowhere b p q quiet is.0.moved is.0.plain is.0.memo

-- ---- the answer

-- a reader that is the pass itself holds an item there
held_there : (t : Bool) → (let n : ℕ = cond t 1 0 in 0 < n) → t ≡ true
held_there true lt = refl
held_there false lt = absurd (omega arith)

is_read : (b : Board) (s other : ℕ) (p q : Pass) → IsQuiet b p → Idles b p q → 0 < inside (trace q) other s → IsBeingRead s q
is_read b s other p q quiet i there = ⊎_elim
    (λ own. inr (held_there (is_held_in (holding q) s)
    (subst (λ n. 0 < n) (ap (λ n. inside (trace q) n s) (own ∙ i.moved.same)
    ∙ (moved_inside b [] p q s i.moved ∙ (quiet.inside s
    ∙ ap (λ m. cond (is_held_in m.holding s) 1 0) (sym i.memo)))) there)))
    (λ ne. inl (other, ne, there))
    (cases_eq other (number q))

pub refill_answers : (b : Board) (s d : ℕ) (c : Option ℕ) (r : RefillAnswer) (p q : Pass) → IsQuiet b p → IsOutcomeWith b s d c r p q → IsRefillAnswerWith s d c r p q
refill_answers b s d c refill.Refilled p q quiet is = record {
  entry = moved_mine b (Refilled (number p) s d ∷ []) p q is.moved ∙ cond-true (eqb (number p) (number p)) (entry.Refilled (number p) s d ∷ mine p) (mine p) (eq-eqb (number p) (number p) refl);
  own = is.own;
  plain = is.plain;
  memo = is.memo;
  once = is.once;
}
refill_answers b s d c refill.NotYours p q quiet is = is
refill_answers b s d c refill.NotEvicted p q quiet is = is
refill_answers b s d c refill.Held p q quiet is = (does_nothing b p q quiet is.0.moved is.0.plain is.0.memo, is_read b s is.1.0 p q quiet is.0 is.1.1, is.2, is.3)

pub refill_costs_nothing : (b : Board) (s d : ℕ) (c : Option ℕ) (r : RefillAnswer) (p q : Pass) → IsOutcomeWith b s d c r p q → CostsNothing p q
refill_costs_nothing b s d c refill.Refilled p q is = let own = Refilled (number p) s d ∷ [] in
    costs_nothing p q (took_none b own p q is.moved refl (λ bucket. refl)) (moved_undrawn b own p q is.moved (tt, tt)) (no_reader b own p q is.moved (tt, tt))
refill_costs_nothing b s d c refill.NotYours p q is = rw is refl
refill_costs_nothing b s d c refill.NotEvicted p q is = rw is refl
refill_costs_nothing b s d c refill.Held p q is = idle_costs_nothing b p q is.0.moved

-- ---- what is known of the segments

module _ (segment deadline : ℕ) (p q : Pass) (is : Refills segment deadline p q) where
  own_before : IsSome (own_segment p.plain segment)
  own_before = sym (state_there (own_segment p.plain segment)) ∙ is.own

  pub refills_state : state_of q segment ≡ Some InUse
  refills_state = ap (λ (x : PlainPart). state_in (own_segment x segment)) is.plain ∙ refilled_state p.plain segment deadline own_before

  pub refills_used : used_of q segment ≡ Some 0
  refills_used = ap (λ (x : PlainPart). used_in (own_segment x segment)) is.plain ∙ refilled_used p.plain segment deadline own_before

  pub other_states : (s : ℕ) → s ≢ segment → state_of q s ≡ state_of p s
  other_states s ne = ap (λ (x : PlainPart). state_in (own_segment x s)) is.plain ∙ others_state p.plain segment deadline s ne

  pub other_used : (s : ℕ) → s ≢ segment → used_of q s ≡ used_of p s
  other_used s ne = ap (λ (x : PlainPart). used_in (own_segment x s)) is.plain ∙ others_used p.plain segment deadline s ne

-- ---- a segment in which the pass holds an item

none_own : (s p : ℕ) (more : List Event) → NoneRefills s more → NoneRefills s (own_of p more)
none_own s p [] none = tt
none_own s p (e ∷ more) none = ⊎_elim
    (λ t. subst (NoneRefills s) (sym (cond-true (eqb (by e) p) (e ∷ own_of p more) (own_of p more) t)) (none.0, none_own s p more none.1))
    (λ f. subst (NoneRefills s) (sym (cond-false (eqb (by e) p) (e ∷ own_of p more) (own_of p more) f)) (none_own s p more none.1))
    (cases_Bool (eqb (by e) p))

stays_unfilled : (b : Board) (s d : ℕ) (p q : Pass) → AddsEvents b (Refilled (number p) s d ∷ []) p q → 0 < inside (trace p) (number p) s → ⊥
stays_unfilled b s d p q m there =
    let none : NoneRefills s (Refilled (number p) s d ∷ []) = subst (NoneRefills s) m.adds (none_own s (number p) m.more (m.kept s (there, there))) in
    none.0 (number p) d refl

abbrev is_evicted : SegState → Bool
is_evicted Evicted = true
is_evicted state = false

pub refill_held : (b : Board) (s d : ℕ) (c : Option ℕ) (r : RefillAnswer) (p q : Pass) → IsQuiet b p
    → IsOutcomeWith b s d c r p q → (r ≡ refill.NotYours → state_of p s ≡ None)
    → (r ≡ refill.NotEvicted → state_of p s ≡ Some InUse) → state_of p s ≡ Some Evicted
    → is_held_in (holding p) s ≡ true → r ≡ refill.Held
refill_held b s d c refill.Refilled p q quiet is yours used evicted held =
    absurd (stays_unfilled b s d p q is.moved (subst (λ n. 0 < n) (sym (quiet.inside s ∙ ap (λ t. cond t 1 0) held)) (omega arith)))
refill_held b s d c refill.NotYours p q quiet is yours used evicted held = absurd (none-some Evicted (sym (yours refl) ∙ evicted))
refill_held b s d c refill.NotEvicted p q quiet is yours used evicted held = absurd (false≢true (ap is_evicted (same_Some InUse Evicted (sym (used refl) ∙ evicted))))
refill_held b s d c refill.Held p q quiet is yours used evicted held = refl
