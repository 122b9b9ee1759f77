-- Every schedule, by induction on its steps.
use Rattle.std.proofs.Common.{◌≡◌, ℕ, suc, List, [], ◌∷◌, ◌++◌, get_or, set, refl, sym, ap, ◌∙◌, subst, ⊎_elim, append_assoc}
use mathlib.Core.Option.{some-injective}
use Rattle.atomic_table.proofs.Lists.{set_here, set_else}
use Rattle.std.proofs.lemmas.Bool.{cases_eq}
use Rattle.segmodel.specs.Words.{Begins}
use Rattle.segcore.proofs.Moments.{marked_begins, seen_begins}
use mathlib.Core.Option.{some}
use lib.ListN.{get_elem?}
use Rattle.segword.specs.Words.{Shape}
use Rattle.segcore.specs.Words.{Event, View}
use Rattle.segcore.specs.Event.{NoneBy}
use Rattle.segcore.specs.Kind.{adds, cell, Step, May, KeepsLaw}
use Rattle.segcore.specs.Lawful.{IsLawful}
use Rattle.segcore.specs.Word.{address}
use Rattle.segcore.specs.World.{Grew, Lawful, SeeMore, steps_of, World, IsOpening, Reaches, IsLawfulWorld}
use Rattle.segcore.proofs.KeepsLaw.{steps, inside_list}
use Rattle.segcore.proofs.StepKinds.{keeps}
use Rattle.segcore.proofs.Timed.{timed_first}

-- a step that the pass p may take, having seen what its view says, changes its word as the history then says
pub kept_at : (z : Shape) (ws : List ℕ) (views : List View) (h : List Event) (p : ℕ) (v : View) (st : Step) → Lawful z ws views h → get_elem? views p ≡ some v → May z v.trace p st → KeepsLaw z st p h
kept_at z ws views h p v st l at may = let k = l.knows p v at in
    subst (KeepsLaw z st p) (sym k.rest) (keeps z st p k.more v.trace l.valid (subst (IsLawful z) k.rest l.legal) k.others may)

pub opens : (z : Shape) (w : World) → IsOpening z w → IsLawfulWorld z w
opens z w o = record {
  valid = o.valid;
  legal = subst (IsLawful z) (sym o.untouched) tt;
  long = o.long;
  each = rw o.untouched o.each;
  knows = λ p v at. let f = o.new p v at in record { number = f.number; more = []; rest = rw (o.untouched, f.unseen) refl; others = tt };
  later = λ p _. subst (NoneBy p) (sym o.untouched) tt;
  dealt = λ v at. (o.new 0 v at).dealt;
  timed = timed_first w.views (λ p v at. let f = o.new p v at in (f.unlooked, f.unturned));
}

pub lawful : (z : Shape) (ss : List (ℕ × Step)) (w : World) → Reaches z ss w → IsLawfulWorld z w
lawful z [] w o = opens z w o
lawful z (s ∷ ss) w r =
    let l = lawful z ss r.0 r.2 in
    subst (IsLawfulWorld z) (sym r.5) (steps z r.0.words r.0.views r.0.trace s.0 r.1 s.1 l r.3 (kept_at z r.0.words r.0.views r.0.trace s.0 r.1 s.1 l r.3 r.4))

grew : (v w : View) → Begins v.trace w.trace → Grew v w
grew v w b = record { trace = b; marks = marked_begins v.trace w.trace b; entries = seen_begins v.trace w.trace b }

pub sees_more : (z : Shape) (ss : List (ℕ × Step)) (s : ℕ × Step) (w : World) (r : Reaches z (s ∷ ss) w) → SeeMore r.0.views w.views
sees_more z ss s w r p v at =
    let b = r.0 in
    let k = (lawful z ss b r.2).knows s.0 r.1 r.3 in
    let es = adds s.1 s.0 (get_or b.words (address z (cell s.1)) 0) in
    let u : View = record r.1 { trace = es ++ b.trace; looks = b.trace ∷ r.1.looks; turn = suc (steps_of b.views) } in ⊎_elim
    (λ e. let same : v ≡ r.1 = some-injective v r.1 (sym at ∙ subst (λ x. get_elem? b.views x ≡ some r.1) (sym e) r.3) in (
      u,
      subst (λ x. get_elem? x.views p ≡ some u) (sym r.5) (subst (λ x. get_elem? (set b.views s.0 u) x ≡ some u) (sym e) (set_here b.views s.0 u (inside_list b.views s.0 r.1 r.3))),
      grew v u (es ++ k.more, ap (λ x. es ++ x) k.rest ∙ (sym (append_assoc es k.more r.1.trace) ∙ ap (λ (x : View). (es ++ k.more) ++ x.trace) (sym same))),
    ))
    (λ ne. (v, subst (λ x. get_elem? x.views p ≡ some v) (sym r.5) (set_else b.views s.0 p u ne ∙ at), grew v v ([], refl)))
    (cases_eq p s.0)
