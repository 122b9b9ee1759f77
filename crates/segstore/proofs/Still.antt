-- Calls that enter and leave no segment, raise no frequency and look at no bit: the pass is where it was.
use Rattle.std.proofs.Common.{◌≡◌, ℕ, ◌<◌, ◌⊎◌, List, [], ◌∷◌, ◌++◌, sym, refl, ap, ◌∙◌, subst}
use Rattle.segcore.specs.declared.event.Event.TheVariants.{Glanced, Bumped, Entered, Left}
use Rattle.segcore.specs.Words.{count, Counted, entered, Event, glanced, inside, raised, View}
use Rattle.segbase.specs.Words.{AddsEvents, Board, holding, is_holding_of, IsPassOf, number, Pass}
use Rattle.segbase.specs.Words.{looks, StaysIn, TakesSteps, trace, view}
use Rattle.segbase.specs.Passes.{StartsFrom}
use Rattle.segbase.proofs.Moves.{moved_inside, moved_count}
use Rattle.segstore.specs.Calls.{ReadsNothing}
use Rattle.segstore.proofs.Quiet.{SettlesIn}

abbrev pub IsStill : Event → Type 0
IsStill (Glanced p b) = ⊥
IsStill (Bumped p s r f) = ⊥
IsStill (Entered p s) = ⊥
IsStill (Left p s) = ⊥
IsStill e = Unit {0}

abbrev pub AreStill : List Event → Type 0
AreStill [] = Unit {0}
AreStill (e ∷ own) = IsStill e × AreStill own

one_still : (e : Event) (h : List Event) (p s : ℕ) → IsStill e → inside (e ∷ h) p s ≡ inside h p s
one_still (Entered q t) h p s still = absurd still
one_still (Left q t) h p s still = absurd still
one_still e h p s still = refl

pub still_inside : (own h : List Event) (p s : ℕ) → AreStill own → inside (own ++ h) p s ≡ inside h p s
still_inside [] h p s still = refl
still_inside (e ∷ own) h p s still = one_still e (own ++ h) p s still.0 ∙ still_inside own h p s still.1

pub still_stays : (own h : List Event) (p s : ℕ) → AreStill own → 0 < inside h p s → StaysIn own h p s
still_stays [] h p s still there = there
still_stays (e ∷ own) h p s still there = (
  subst (λ n. 0 < n) (sym (still_inside (e ∷ own) h p s still)) there,
  still_stays own h p s still.1 there,
)

-- what readers do, as it is counted
abbrev pub IsOfReaders : Counted → Type 0
IsOfReaders raised = Unit {0}
IsOfReaders entered = Unit {0}
IsOfReaders (glanced bucket) = Unit {0}
IsOfReaders what = ⊥

one_unread : (what : Counted) (p : ℕ) (e : Event) (h : List Event) → IsOfReaders what → IsStill e → count what p (e ∷ h) ≡ count what p h
one_unread raised p (Bumped q s r f) h is still = absurd still
one_unread entered p (Entered q s) h is still = absurd still
one_unread (glanced b) p (Glanced q c) h is still = absurd still
one_unread raised p e h is still = refl
one_unread entered p e h is still = refl
one_unread (glanced b) p e h is still = refl
one_unread what p e h is still = absurd is

pub still_count : (what : Counted) (p : ℕ) (own h : List Event) → IsOfReaders what → AreStill own → count what p (own ++ h) ≡ count what p h
still_count what p [] h is still = refl
still_count what p (e ∷ own) h is still = one_unread what p e (own ++ h) is still.0 ∙ still_count what p own h is still.1

pub no_reader : (b : Board) (own : List Event) (p q : Pass) → AddsEvents b own p q → AreStill own → ReadsNothing p q
no_reader b own p q m still = λ i. (
  (moved_count b own p q raised m ∙ still_count raised (number p) own (trace p) tt still) i,
  (moved_count b own p q entered m ∙ still_count entered (number p) own (trace p) tt still) i,
  λ bucket. (moved_count b own p q (glanced bucket) m ∙ still_count (glanced bucket) (number p) own (trace p) tt still) i,
)

pub settles_still : (b : Board) (own : List Event) (p q : Pass) → AddsEvents b own p q → AreStill own → holding q ≡ holding p → is_holding_of q ≡ is_holding_of p → SettlesIn own p q
settles_still b own p q m still memo plain = record {
  memo = memo;
  plain = plain;
  readings = λ s. moved_inside b own p q s m ∙ still_inside own (trace p) (number p) s still;
  stays = λ s there. still_stays own (trace p) (number p) s still there;
}

-- what the pass keeps in mind is no step
pub steps_to : (p r q : Pass) → view q ≡ view r → TakesSteps p r → TakesSteps p q
steps_to p r q same = subst (λ (v : View). ((start : List Event) × StartsFrom (view p) v start) ⊎ ((v.looks ≡ looks p) × (v.trace ≡ trace p))) (sym same)

-- what the pass then keeps in mind is no event
pub then_minds : (b : Board) (own : List Event) (p r q : Pass) → AddsEvents b own p r → view q ≡ view r → IsPassOf b q → AddsEvents b own p q
then_minds b own p r q m same is = record {
  pass = is;
  same = ap (λ (v : View). v.number) same ∙ m.same;
  more = m.more;
  goes_on = ap (λ (v : View). v.trace) same ∙ m.goes_on;
  adds = m.adds;
  steps = steps_to p r q same m.steps;
  kept = m.kept;
}
