-- By the clock a step sees all that has happened, whatever its pass is told.
use Rattle.std.proofs.Common.{◌≡◌, ◌≢◌, ℕ, suc, ◌+◌, ◌<◌, List, [], ◌∷◌, ◌++◌, length, set, sym, refl, ap, ◌∙◌, subst, ⊎_elim, arith, append-nil, length-append}
use Rattle.std.proofs.lemmas.Bool.{cases_eq, cases_lt}
use mathlib.Core.Option.{some}
use lib.ListN.{get_elem?}
use Rattle.atomic_table.proofs.Lists.{at_set, set_here, set_else}
use Rattle.segword.specs.Words.{Shape}
use Rattle.segmodel.specs.Words.{Begins}
use Rattle.segcore.specs.Words.{Event, View}
use Rattle.segcore.specs.Event.{by, NoneBy}
use Rattle.segcore.specs.Run.{IsSeenStep, IsSeenWorld, IsStepOf}
use Rattle.segcore.specs.World.{IsLawfulWorld, steps_of, World}
use Rattle.segcore.proofs.Facts.Passes.{in_list}
use Rattle.segcore.proofs.Moments.{begins_on}
use Rattle.segcore.proofs.SeenRuns.{seen_step, seen_world}
use Rattle.segcore.proofs.Timed.{inside_list, steps_set}

-- ---- traces

same_tail : {A : Type 0} (x y : A) (xs ys : List A) → x ∷ xs ≡ y ∷ ys → xs ≡ ys
same_tail x y xs ys e = cc

same_head : {A : Type 0} (x y : A) (xs ys : List A) → x ∷ xs ≡ y ∷ ys → x ≡ y
same_head x y xs ys e = cc

-- each begins the other, so they are the same
pub both_begin : (h g : List Event) → Begins h g → Begins g h → h ≡ g
both_begin h g a b = by_more a.0 a.1
  where
    by_more : (more : List Event) → g ≡ more ++ h → h ≡ g
    by_more [] is = sym is
    by_more (e ∷ more) is =
        let up : length g ≡ suc (length more) + length h = ap length is ∙ length-append (e ∷ more) h in
        let down : length h ≡ length b.0 + length g = ap length b.1 ∙ length-append b.0 g in absurd (omega (arith, up, down))

-- what a pass has seen goes on from its newest event
from_newest : (front rest : List Event) (e : Event) (more u : List Event) → front ++ (e ∷ rest) ≡ more ++ u → NoneBy (by e) more → Begins (e ∷ rest) u
from_newest front rest e [] u is none = (front, sym is)
from_newest [] rest e (x ∷ more) u is none = absurd (none.0 (ap by (sym (same_head e x rest (more ++ u) is))))
from_newest (y ∷ front) rest e (x ∷ more) u is none = from_newest front rest e more u (same_tail y x (front ++ (e ∷ rest)) (more ++ u) is) none.1

-- the pass of an event of a trace isn't none of its passes
is_by : (front rest : List Event) (e : Event) → ¬ (NoneBy (by e) (front ++ (e ∷ rest)))
is_by [] rest e none = none.0 refl
is_by (x ∷ front) rest e none = is_by front rest e none.1

-- ---- a world that its passes see

-- the pass of an event that has happened is there
is_there : (w : World) → IsSeenWorld w → (front rest : List Event) (e : Event) → w.trace ≡ front ++ (e ∷ rest) → by e < length w.views
is_there w l front rest e is = ⊎_elim
    (λ lt. lt)
    (λ past. absurd (is_by front rest e (subst (NoneBy (by e)) is (l.later (by e) past))))
    (cases_lt (by e) (length w.views))

-- and has seen it
has_seen : (w : World) → IsSeenWorld w → (front rest : List Event) (e : Event)
    → w.trace ≡ front ++ (e ∷ rest) → (u : View) × (get_elem? w.views (by e) ≡ some u) × Begins (e ∷ rest) u.trace
has_seen w l front rest e is =
    let v = in_list w.views (by e) (is_there w l front rest e is) in let k = l.knows (by e) v.0 v.1 in
    (v.0, v.1, from_newest front rest e k.more v.0.trace (sym is ∙ k.rest) k.others)

-- what goes on from what each pass has seen goes on from the whole trace
seen_by_all : (w : World) (g : List Event) → IsSeenWorld w → ((q : ℕ) (u : View) → get_elem? w.views q ≡ some u → Begins u.trace g) → Begins w.trace g
seen_by_all w g l sees = by_trace w.trace refl
  where
    by_trace : (h : List Event) → w.trace ≡ h → Begins h g
    by_trace [] is = (g, sym (append-nil g))
    by_trace (e ∷ h) is = let u = has_seen w l [] h e is in begins_on (e ∷ h) u.0.trace g u.2 (sees (by e) u.0 u.1)

pub all_seen : (z : Shape) (w : World) (g : List Event) → IsLawfulWorld z w → ((q : ℕ) (u : View) → get_elem? w.views q ≡ some u → Begins u.trace g) → Begins w.trace g
all_seen z w g l sees = seen_by_all w g (seen_world z w l) sees

-- ---- a step

module _ (before after : World) (p : ℕ) (v w : View) (more own : List Event)
    (l : IsSeenWorld before) (m : IsSeenWorld after) (at : get_elem? before.views p ≡ some v) (one : after.views ≡ set before.views p w)
    (others : NoneBy p more) (looked : w.looks ≡ (more ++ v.trace) ∷ v.looks) (now : w.trace ≡ own ++ (more ++ v.trace)) where
  abbrev look : List Event
  look = more ++ v.trace

  here : get_elem? after.views p ≡ some w
  here = ap (λ l. get_elem? l p) one ∙ set_here before.views p w (inside_list before.views p v at)

  kept : (q : ℕ) (u : View) → q ≢ p → get_elem? before.views q ≡ some u → get_elem? after.views q ≡ some u
  kept q u ne is = ap (λ l. get_elem? l q) one ∙ (set_else before.views p q w ne ∙ is)

  was : (q : ℕ) (u : View) → q ≢ p → get_elem? after.views q ≡ some u → get_elem? before.views q ≡ some u
  was q u ne is = sym (set_else before.views p q w ne) ∙ (ap (λ l. get_elem? l q) (sym one) ∙ is)

  one_step : steps_of after.views ≡ suc (steps_of before.views)
  one_step = ap steps_of one ∙ steps_set before.views p v w at (ap length looked)

  -- the newest turn is the pass's
  turn : w.turn ≡ suc (steps_of before.views)
  turn =
      let newest = m.timed.all (let steps = one_step in omega (arith, steps)) in ⊎_elim
      (λ e. ap (λ (x : View). x.turn) e.1 ∙ (newest.3 ∙ one_step))
      (λ e. let few = l.timed.few newest.0 newest.1 e.1 in let steps = one_step in let is = newest.3 in absurd (omega (arith, few, steps, is)))
      (at_set before.views p newest.0 w newest.1 (ap (λ l. get_elem? l newest.0) (sym one) ∙ newest.2))

  -- so its look goes on from what each pass has seen
  sees : (q : ℕ) (u : View) → get_elem? before.views q ≡ some u → Begins u.trace look
  sees q u is = ⊎_elim
      (λ same. (more, ap (λ (x : View). more ++ x.trace) (same_some v u (sym at ∙ subst (λ n. get_elem? before.views n ≡ some u) same is))))
      (λ ne. let few = l.timed.few q u is in let newest = turn in
      m.timed.later q p u w look v.looks (kept q u ne is) here (omega (arith, few, newest)) looked)
      (cases_eq q p)
    where
      same_some : (x y : View) → some x ≡ some y → x ≡ y
      same_some x y e = cc

  wide : Begins before.trace look
  wide = seen_by_all before look l sees

  onward : Begins look w.trace
  onward = (own, now)

  within : Begins w.trace after.trace
  within = let k = m.knows p w here in (k.more, k.rest)

  -- and it looks at nothing that hasn't happened
  small : Begins look before.trace
  small = by_more more others refl
    where
      by_more : (es : List Event) → NoneBy p es → more ≡ es → Begins look before.trace
      by_more [] none is = subst (λ es. Begins (es ++ v.trace) before.trace) (sym is) (let k = l.knows p v at in (k.more, k.rest))
      by_more (e ∷ es) none is =
          let look_is : look ≡ e ∷ (es ++ v.trace) = ap (λ es. es ++ v.trace) is in
          let whole = begins_on look w.trace after.trace onward within in
          let u = has_seen after m whole.0 (es ++ v.trace) e (whole.1 ∙ ap (λ h. whole.0 ++ h) look_is) in
          let old = was (by e) u.0 none.0 u.1 in let k = l.knows (by e) u.0 old in
          begins_on look u.0.trace before.trace (subst (λ h. Begins h u.0.trace) (sym look_is) u.2) (k.more, k.rest)

  pub whole_look : w.looks ≡ before.trace ∷ v.looks
  whole_look = looked ∙ ap (λ h. h ∷ v.looks) (both_begin look before.trace small wide)

  pub whole_trace : w.trace ≡ after.trace
  whole_trace = both_begin w.trace after.trace within (seen_by_all after w.trace m sees_now)
    where
      sees_now : (q : ℕ) (u : View) → get_elem? after.views q ≡ some u → Begins u.trace w.trace
      sees_now q u is = ⊎_elim
          (λ e. ([], ap (λ (x : View). x.trace) e.1))
          (λ e. begins_on u.trace look w.trace (sees q u e.1) onward)
          (at_set before.views p q w u (ap (λ l. get_elem? l q) (sym one) ∙ is))

pub seen_step_sees_all : (p : ℕ) (before after : World) → IsSeenWorld before → (taken : IsSeenStep p before after)
    → (taken.new.looks ≡ before.trace ∷ taken.old.looks) × (taken.new.trace ≡ after.trace)
seen_step_sees_all p before after l s = (
  whole_look before after p s.old s.new s.more s.own l s.still s.there s.apart s.others s.looked s.now,
  whole_trace before after p s.old s.new s.more s.own l s.still s.there s.apart s.others s.looked s.now,
)

pub step_sees_all : (z : Shape) (p : ℕ) (before after : World) → IsLawfulWorld z before → (taken : IsStepOf z p before after)
    → (taken.new.looks ≡ before.trace ∷ taken.old.looks) × (taken.new.trace ≡ after.trace)
step_sees_all z p before after l s = seen_step_sees_all p before after (seen_world z before l) (seen_step z p before after l s)
