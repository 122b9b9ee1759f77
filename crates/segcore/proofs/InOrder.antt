-- What a step sees is all that has happened, and so calls of which one comes before the other see what they should.
use Rattle.std.proofs.Common.{◌≡◌, ℕ, suc, List, [], ◌∷◌, ◌++◌, get_or, refl, sym, ap, ◌∙◌, subst, ⊎_elim, append_assoc}
use mathlib.Core.Option.{some, some-injective}
use lib.ListN.{get_elem?}
use Rattle.atomic_table.proofs.Lists.{at_set, set_here}
use Rattle.std.proofs.lemmas.List.{append_cancel_right}
use Rattle.segword.specs.Words.{Shape}
use Rattle.segmodel.specs.Words.{Begins}
use Rattle.segcore.specs.Words.{Event, View}
use Rattle.segcore.specs.Kind.{Step, adds, cell}
use Rattle.segcore.specs.Word.{address, word}
use Rattle.segcore.specs.Event.{NoneBy}
use Rattle.segcore.specs.Lawful.{IsLawful}
use Rattle.segcore.specs.Run.{IsStepOf}
use Rattle.segcore.specs.World.{steps_of, Told, World, Reaches, ReachesOn}
use Rattle.segcore.proofs.KeepsLaw.{inside_list}
use Rattle.segcore.proofs.Moments.{begins_on}
use Rattle.segcore.proofs.Schedules.{kept_at, lawful}

-- the view of a pass after a step
abbrev view_after : ℕ → View → Step → Shape → World → View
view_after p v st z w = record v { trace = adds st p (get_or w.words (address z (cell st)) 0) ++ w.trace; looks = w.trace ∷ v.looks; turn = suc (steps_of w.views) }

pub sees_all : (z : Shape) (ss : List (ℕ × Step)) (s : ℕ × Step) (w : World) (r : Reaches z (s ∷ ss) w) → (v : View)
    × (get_elem? w.views s.0 ≡ some v) × (v.trace ≡ w.trace) × (v.looks ≡ r.0.trace ∷ r.1.looks)
sees_all z ss s w r = let b = r.0 in let v = view_after s.0 r.1 s.1 z b in
    (v, ap (λ x. get_elem? x.views s.0) r.5 ∙ set_here b.views s.0 v (inside_list b.views s.0 r.1 r.3), sym (ap (λ (x : World). x.trace) r.5), refl)

pub is_told : (z : Shape) (ss : List (ℕ × Step)) (s : ℕ × Step) (w : World) (r : Reaches z (s ∷ ss) w) → IsStepOf z s.0 r.0 w
is_told z ss s w r =
    let b = r.0 in let v = r.1 in let st = s.1 in let l = lawful z ss b r.2 in let after = lawful z (s ∷ ss) w r in
    let k = l.knows s.0 v r.3 in let kept = kept_at z b.words b.views b.trace s.0 v st l r.3 r.4 in let found = get_or b.words (address z (cell st)) 0 in
    let new = view_after s.0 v st z b in
    let told : Told z st found v new = record {
      more = k.more;
      others = subst (λ n. NoneBy n k.more) (sym k.number) k.others;
      before = subst (IsLawful z) k.rest l.legal;
      found_is = l.each (cell st) kept.inside ∙ ap (λ h. word z h (cell st)) k.rest;
      turn = suc (steps_of b.views);
      now = (λ j. record v { trace = adds st (sym k.number j) found ++ k.rest j; looks = k.rest j ∷ v.looks; turn = suc (steps_of b.views) });
      legal = subst (IsLawful z) (ap (λ (x : World). x.trace) r.5) after.legal;
    } in
    record { old = v; new = new; there = r.3; apart = ap (λ (x : World). x.views) r.5; step = st; found = found; told = told; lawful = after }

-- ---- one call after another

trace_on : (z : Shape) (start : World) (ss : List (ℕ × Step)) (w : World) → ReachesOn z start ss w → Begins start.trace w.trace
trace_on z start [] w r = ([], ap (λ (x : World). x.trace) r)
trace_on z start (s ∷ ss) w r = let b = r.0 in
    begins_on start.trace b.trace w.trace (trace_on z start ss b r.2) (adds s.1 s.0 (get_or b.words (address z (cell s.1)) 0), ap (λ (x : World). x.trace) r.5)

-- each of these traces goes on from this one
abbrev AllBegin : List Event → List (List Event) → Type 0
AllBegin h [] = Unit {0}
AllBegin h (t ∷ ts) = Begins h t × AllBegin h ts

-- all that a pass has looked at since goes on from a trace
record LooksSince (h : List Event) (from to : View) : Type 0 where
  pub news : List (List Event)
  pub looks : to.looks ≡ news ++ from.looks
  pub all : AllBegin h news

looks_since : (z : Shape) (start : World) (ss : List (ℕ × Step)) (w : World) (q : ℕ) (from to : View)
    → ReachesOn z start ss w → get_elem? start.views q ≡ some from → get_elem? w.views q ≡ some to
    → LooksSince start.trace from to
looks_since z start [] w q from to r at on =
    record {
      news = [];
      looks = ap (λ (v : View). v.looks)
          (sym (some-injective from to (sym at ∙ (ap (λ (x : World). get_elem? x.views q) (sym r) ∙ on))));
      all = tt;
    }
looks_since z start (s ∷ ss) w q from to r at on = let b = r.0 in let v = view_after s.0 r.1 s.1 z b in ⊎_elim
    (λ t. let old = looks_since z start ss b q from r.1 r.2 at (subst (λ n. get_elem? b.views n ≡ some r.1) (sym t.0) r.3) in
    record { news = b.trace ∷ old.news; looks = ap (λ (x : View). x.looks) (sym t.1) ∙ ap (λ l. b.trace ∷ l) old.looks; all = (trace_on z start ss b r.2, old.all) })
    (λ t. looks_since z start ss b q from to r.2 at t.1)
    (at_set b.views s.0 q v to (subst (λ (x : World). get_elem? x.views q ≡ some to) r.5 on))

last_begins : (h t : List Event) (ts : List (List Event)) → AllBegin h (ts ++ t ∷ []) → Begins h t
last_begins h t [] a = a.0
last_begins h t (x ∷ ts) a = last_begins h t ts a.1

pub in_order : (z : Shape) (before after : List (ℕ × Step)) (between w : World) (p q : ℕ) (had from to : View)
    (later : List (List Event)) (first : List Event) → Reaches z before between → ReachesOn z between after w
    → get_elem? between.views p ≡ some had → get_elem? between.views q ≡ some from → get_elem? w.views q ≡ some to → to.looks ≡ later ++ first ∷ from.looks → Begins had.trace first
in_order z before after between w p q had from to later first r on at there now is =
    let since = looks_since z between after w q from to on there now in
    let same : since.news ≡ later ++ first ∷ [] = append_cancel_right since.news (later ++ first ∷ []) from.looks (sym since.looks ∙ (is ∙ sym (append_assoc later (first ∷ []) from.looks))) in
    let k = (lawful z before between r).knows p had at in
    begins_on had.trace between.trace first (k.more, k.rest) (last_begins between.trace first later (subst (AllBegin between.trace) same since.all))
