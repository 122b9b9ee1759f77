-- The clock of the passes' views: each step takes the next turn.
use Rattle.std.proofs.Common.{◌≡◌, ℕ, zero, suc, ◌+◌, ◌<◌, ◌≤◌, List, [], ◌∷◌, ◌++◌, length, set, sym, refl, ap, ◌∙◌, subst, ⊎_elim, arith, append-nil}
use Rattle.std.proofs.lemmas.Bool.{cases_eq}
use mathlib.Core.Option.{some, some-injective, some-ne-none}
use lib.ListN.{get_elem?}
use Rattle.atomic_table.proofs.Lists.{at_longer, at_set, at_snoc, set_here, set_else}
use Rattle.segmodel.specs.Words.{Begins}
use Rattle.segcore.specs.Words.{Event, View}
use Rattle.segcore.specs.World.{IsTimed, steps_of}

pub inside_list : {A : Type 0} (l : List A) (i : ℕ) (a : A) → get_elem? l i ≡ some a → i < length l
inside_list [] i a e = absurd (some-ne-none a (sym e))
inside_list (x ∷ xs) zero a e = omega arith
inside_list (x ∷ xs) (suc i) a e = let h = inside_list xs i a e in omega arith

same_head : (x y : List Event) (xs ys : List (List Event)) → x ∷ xs ≡ y ∷ ys → x ≡ y
same_head x y xs ys e = cc

-- ---- how many steps there were

-- a step of one pass is one step more of all
pub steps_set : (views : List View) (p : ℕ) (v w : View) → get_elem? views p ≡ some v → length w.looks ≡ suc (length v.looks) → steps_of (set views p w) ≡ suc (steps_of views)
steps_set [] p v w at more = absurd (some-ne-none v (sym at))
steps_set (x ∷ xs) zero v w at more = let same : length x.looks ≡ length v.looks = ap (λ (u : View). length u.looks) (some-injective x v at) in omega (arith, more, same)
steps_set (x ∷ xs) (suc p) v w at more = let i = steps_set xs p v w at more in omega (arith, i)

steps_none : (views : List View) → ((p : ℕ) (v : View) → get_elem? views p ≡ some v → v.looks ≡ []) → steps_of views ≡ 0
steps_none [] none = refl
steps_none (x ∷ xs) none = let first : length x.looks ≡ 0 = ap length (none 0 x refl) in let i = steps_none xs (λ p v at. none (suc p) v at) in omega (arith, first, i)

-- ---- the clock

pub timed_first : (views : List View) → ((p : ℕ) (v : View) → get_elem? views p ≡ some v → (v.looks ≡ []) × (v.turn ≡ 0)) → IsTimed views
timed_first views new = record {
  few = λ p v at. let none = (new p v at).1 in omega (arith, none);
  all = λ took. let none = steps_none views (λ p v at. (new p v at).0) in absurd (omega (arith, none, took));
  later = λ p q u v last older at at' lt looked. let none = (new q v at').1 in absurd (omega (arith, none, lt));
}

-- a step that sees what each pass has seen, and takes the next turn
pub timed_step : (views : List View) (h : List Event) (p : ℕ) (v w : View) → IsTimed views → get_elem? views p ≡ some v → w.looks ≡ h ∷ v.looks → w.turn ≡ suc (steps_of views)
    → ((q : ℕ) (u : View) → get_elem? views q ≡ some u → Begins u.trace h) → IsTimed (set views p w)
timed_step views h p v w t at looks turn knows =
    let more : steps_of (set views p w) ≡ suc (steps_of views) = steps_set views p v w at (ap length looks) in record {
      few = λ q u is. ⊎_elim
          (λ e. subst (λ (x : View). x.turn ≤ steps_of (set views p w)) e.1 (omega (arith, turn, more)))
          (λ e. let old = t.few q u e.1 in omega (arith, old, more))
          (at_set views p q w u is);
      all = λ _. (p, w, set_here views p w (inside_list views p v at), turn ∙ sym more);
      later = λ q r old new last older is is' lt looked. ⊎_elim
          (λ e. ⊎_elim
          (λ o. let same : old.turn ≡ new.turn = ap (λ (x : View). x.turn) (sym o.1 ∙ e.1) in absurd (omega (arith, same, lt)))
          (λ o. subst (Begins old.trace) (same_head h last v.looks older (sym looks ∙ (ap (λ (x : View). x.looks) e.1 ∙ looked))) (knows q old o.1))
          (at_set views p q w old is))
          (λ e. ⊎_elim
          (λ o. let same : w.turn ≡ old.turn = ap (λ (x : View). x.turn) o.1 in let few = t.few r new e.1 in absurd (omega (arith, same, few, turn, lt)))
          (λ o. t.later q r old new last older o.1 e.1 lt looked)
          (at_set views p q w old is))
          (at_set views p r w new is');
    }

-- ---- the same clock, over other views

same_steps : (views : List View) (p : ℕ) (v w : View) → get_elem? views p ≡ some v → w.looks ≡ v.looks → steps_of (set views p w) ≡ steps_of views
same_steps [] p v w at same = refl
same_steps (x ∷ xs) zero v w at same = ap (λ (l : List (List Event)). length l + steps_of xs) (same ∙ ap (λ (u : View). u.looks) (sym (some-injective x v at)))
same_steps (x ∷ xs) (suc p) v w at same = ap (λ n. length x.looks + n) (same_steps xs p v w at same)

-- a view that keeps its trace, its looks and its turn
pub timed_same : (views : List View) (p : ℕ) (v w : View) → IsTimed views → get_elem? views p ≡ some v → w.trace ≡ v.trace → w.looks ≡ v.looks → w.turn ≡ v.turn → IsTimed (set views p w)
timed_same views p v w t at trace looks turn =
    let same : steps_of (set views p w) ≡ steps_of views = same_steps views p v w at looks in
    let was : (q : ℕ) (u : View) → get_elem? (set views p w) q ≡ some u → (x : View) × (get_elem? views q ≡ some x) × (u.trace ≡ x.trace) × (u.looks ≡ x.looks) × (u.turn ≡ x.turn) = λ q u is. ⊎_elim
    (λ e. (
      v,
      subst (λ n. get_elem? views n ≡ some v) (sym e.0) at,
      ap (λ (x : View). x.trace) (sym e.1)
          ∙ trace,
      ap (λ (x : View). x.looks) (sym e.1) ∙ looks,
      ap (λ (x : View). x.turn) (sym e.1) ∙ turn,
    ))
    (λ e. (u, e.1, refl, refl, refl))
    (at_set views p q w u is) in record {
      few = λ q u is. let x = was q u is in let few = t.few q x.0 x.1 in let now = x.4 in omega (arith, same, few, now);
      all = λ took. let newest = t.all (omega (arith, same, took)) in ⊎_elim
          (λ e. let it : newest.1 ≡ v = some-injective newest.1 v (sym newest.2 ∙ subst (λ n. get_elem? views n ≡ some v) (sym e) at) in
          (p, w, set_here views p w (inside_list views p v at), turn ∙ (ap (λ (x : View). x.turn) (sym it) ∙ (newest.3 ∙ sym same))))
          (λ ne. (newest.0, newest.1, set_else views p newest.0 w ne ∙ newest.2, newest.3 ∙ sym same))
          (cases_eq newest.0 p);
      later = λ q r old new last older is is' lt looked. let x = was q old is in let y = was r new is' in
          subst (λ h. Begins h last) (sym x.2) (t.later q r x.0 y.0 last older x.1 y.1 (let a = x.4 in let b = y.4 in omega (arith, a, b, lt)) (sym y.3 ∙ looked));
    }

steps_longer : (views : List View) (u : View) → u.looks ≡ [] → steps_of (views ++ u ∷ []) ≡ steps_of views
steps_longer [] u none = let n : length u.looks ≡ 0 = ap length none in omega (arith, n)
steps_longer (x ∷ xs) u none = ap (λ n. length x.looks + n) (steps_longer xs u none)

-- one view more, of a pass that took no step
pub timed_longer : (views : List View) (u : View) → IsTimed views → u.trace ≡ [] → u.looks ≡ [] → u.turn ≡ 0 → IsTimed (views ++ u ∷ [])
timed_longer views u t trace looks turn =
    let same : steps_of (views ++ u ∷ []) ≡ steps_of views = steps_longer views u looks in record {
      few = λ q x is. ⊎_elim
          (λ at. let few = t.few q x at in omega (arith, few, same))
          (λ e. let none : x.turn ≡ 0 = ap (λ (y : View). y.turn) (sym e) ∙ turn in omega (arith, none))
          (at_snoc views u x q is);
      all = λ took. let newest = t.all (omega (arith, same, took)) in (newest.0, newest.1, at_longer views (u ∷ []) newest.0 newest.1 newest.2, newest.3 ∙ sym same);
      later = λ q r old new last older is is' lt looked. ⊎_elim
          (λ at. ⊎_elim
          (λ at'. t.later q r old new last older at' at lt looked)
          (λ e. (last, sym (ap (λ l. last ++ l) (ap (λ (y : View). y.trace) (sym e) ∙ trace) ∙ append-nil last)))
          (at_snoc views u old q is))
          (λ e. let none : new.turn ≡ 0 = ap (λ (y : View). y.turn) (sym e) ∙ turn in absurd (omega (arith, none, lt)))
          (at_snoc views u new r is');
    }
