-- The first step of a call, and of two calls after one another: that of the first which took one.
use Rattle.std.proofs.Common.{◌≡◌, ◌≢◌, List, [], ◌∷◌, ◌++◌, sym, ap, ◌∙◌, subst, inl, inr, append_assoc}
use Rattle.segmodel.specs.Words.{Begins}
use Rattle.segcore.specs.Words.{Event, NoneBy}
use Rattle.std.proofs.lemmas.List.{append_cancel_right}
use Rattle.segbase.specs.Words.{Board, own_of, Pass}
use Rattle.segbase.specs.Passes.{number, trace, looks, AddsEvents, HasStep, SinceFirst, StartsAt, TakesSteps}
use Rattle.segbase.proofs.Begun.{begins_then}

-- what a pass had seen begins what its first step saw
pub start_grew : (p q : Pass) (start : List Event) → StartsAt p q start → Begins (trace p) start
start_grew p q start s = (s.others, s.since)

pub steps_grew : (p q : Pass) → TakesSteps p q → Begins (trace p) (trace q)
steps_grew p q (inl t) = begins_then (trace p) t.0 (trace q) (start_grew p q t.0 t.1) t.1.until
steps_grew p q (inr t) = ([], t.1)

steps_looked : (p q : Pass) → TakesSteps p q → (news : List (List Event)) × (looks q ≡ news ++ looks p)
steps_looked p q (inl t) = (t.1.later ++ t.0 ∷ [], t.1.looked ∙ sym (append_assoc t.1.later (t.0 ∷ []) (looks p)))
steps_looked p q (inr t) = ([], t.0)

-- whatever the pass does later, the first step stays the first
pub starts_on : (p q r : Pass) (start : List Event) → StartsAt p q start → TakesSteps q r → StartsAt p r start
starts_on p q r start s more = let news = steps_looked q r more in record {
  later = news.0 ++ s.later;
  looked = news.1 ∙ (ap (λ l. news.0 ++ l) s.looked ∙ sym (append_assoc news.0 s.later (start ∷ looks p)));
  others = s.others;
  since = s.since;
  none = s.none;
  until = begins_then start (trace q) (trace r) s.until (steps_grew q r more);
}

-- if a call took no step, the next one begins where it began
pub starts_same : (p q r : Pass) (start : List Event) → number q ≡ number p → looks q ≡ looks p → trace q ≡ trace p → StartsAt q r start → StartsAt p r start
starts_same p q r start same looked seen s = record {
  later = s.later;
  looked = s.looked ∙ ap (λ l. s.later ++ start ∷ l) looked;
  others = s.others;
  since = s.since ∙ ap (λ h. s.others ++ h) seen;
  none = subst (λ n. NoneBy n s.others) same s.none;
  until = s.until;
}

pub steps_then : (p q r : Pass) → number q ≡ number p → TakesSteps p q → TakesSteps q r → TakesSteps p r
steps_then p q r same (inl t) more = inl (t.0, starts_on p q r t.0 t.1 more)
steps_then p q r same (inr t) (inl s) = inl (s.0, starts_same p q r s.0 same t.0 t.1 s.1)
steps_then p q r same (inr t) (inr s) = inr (s.0 ∙ t.0, s.1 ∙ t.1)

-- two calls have a step if one has
pub has_later : (p q r : Pass) → number q ≡ number p → TakesSteps p q → HasStep q r → HasStep p r
has_later p q r same (inl t) s = (t.0, starts_on p q r t.0 t.1 (inl s))
has_later p q r same (inr t) s = (s.0, starts_same p q r s.0 same t.0 t.1 s.1)

no_cons : (e : Event) (own : List Event) → e ∷ own ≢ []
no_cons e own same = cc

-- a call that adds an event has one
pub has_added : (b : Board) (e : Event) (own : List Event) (p q : Pass) → AddsEvents b (e ∷ own) p q → HasStep p q
has_added b e own p q m = by m.steps
  where
    by : TakesSteps p q → HasStep p q
    by (inl t) = t
    by (inr t) = let none : m.more ≡ [] = append_cancel_right m.more [] (trace p) (sym m.goes_on ∙ t.1) in absurd (no_cons e own (sym m.adds ∙ ap (own_of (number p)) none))

-- what is so from the first step on, is so of a longer call
pub since_then : (p q r : Pass) (Is Is' : List Event → Type 0) → TakesSteps q r → ((start : List Event) → Is start → Is' start) → SinceFirst p q Is → SinceFirst p r Is'
since_then p q r Is Is' more so s = (s.0, starts_on p q r s.0 s.1 more, so s.0 s.2)

-- it is so of the first step of two calls, if it is so of that of the second
pub since_before : (p q r : Pass) (Is : List Event → Type 0) → number q ≡ number p → TakesSteps p q
    → ((start later : List Event) → Begins start later → Is later → Is start) → SinceFirst q r Is
    → SinceFirst p r Is
since_before p q r Is same (inl t) wider s = (t.0, starts_on p q r t.0 t.1 (inl (s.0, s.1)), wider t.0 s.0 (begins_then t.0 (trace q) s.0 t.1.until (start_grew q r s.0 s.1)) s.2)
since_before p q r Is same (inr t) wider s = (s.0, starts_same p q r s.0 same t.0 t.1 s.1, s.2)
