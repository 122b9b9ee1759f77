-- A running step is a step of a run: the rule's views are those of the seats, so it changes one of them.
use Rattle.std.proofs.Common.{◌≡◌, ◌≢◌, ◌↔◌, ℕ, suc, ◌<◌, List, [], ◌∷◌, length, set, true, refl, sym, ap, ◌∙◌, subst, ⊎_elim, arith, length-set}
use Rattle.std.proofs.lemmas.Bool.{cases_eq}
use mathlib.Core.Option.{some, some-injective, some-ne-none}
use lib.ListN.{get_elem?}
use Rattle.atomic_table.specs.Table.{State}
use Rattle.atomic_table.proofs.Lists.{at_set, set_here, set_else}
use Rattle.segmodel.specs.Words.{Begins}
use Rattle.segcore.specs.Words.{Event, IsStepOf, Step, View}
use Rattle.segcore.proofs.Facts.Passes.{in_list}
use Rattle.segcore.proofs.KeepsLaw.{inside_list}
use Rattle.segcore.proofs.Whole.{all_seen, both_begin}
use Rattle.segbase.specs.declared.law.Constants.{Constants}
use Rattle.segbase.specs.declared.law.Sight.{Sight}
use Rattle.segbase.specs.Ruled.{AreViews, HasView, IsAmong, IsHeld, IsSight, Learns, Rule}
use Rattle.segbase.specs.Running.{world_of}
use Rattle.segbase.proofs.Holders.{pass_only}

same_list : (l m : List View) → length l ≡ length m → ((n : ℕ) (a : View) → get_elem? m n ≡ some a → get_elem? l n ≡ some a) → l ≡ m
same_list [] [] long all = refl
same_list [] (y ∷ ys) long all = absurd (omega (arith, long))
same_list (x ∷ xs) [] long all = absurd (omega (arith, long))
same_list (x ∷ xs) (y ∷ ys) long all =
    let first : x ≡ y = some-injective x y (all 0 y refl) in
    let rest : xs ≡ ys = same_list xs ys (omega (arith, long)) (λ n a at. all (suc n) a at) in (λ j. first j ∷ rest j)

among : (views ended : List View) (v : View) → AreViews views ended → IsAmong v ended → get_elem? views v.number ≡ some v
among views [] v are is = absurd is
among views (x ∷ more) v are is = ⊎_elim
    (λ same. subst (λ (u : View). get_elem? views u.number ≡ some u) same are.0)
    (λ later. among views more v are.1 later)
    is

-- a view that a seat has is one of the rule's
has_view : (views : List View) (h : List Event) (x : Sight) (v : View) → IsSight views h x → HasView x v → get_elem? views v.number ≡ some v
has_view views h x v is has = ⊎_elim
    (λ t. subst (λ (u : View). get_elem? views u.number ≡ some u) t.1 (is.own t.0))
    (λ t. among views x.ended v is.ended t.1)
    has

module _ (z : Constants) (st : Step) (found : ℕ) (before after : State (Unit {0}) Sight) (id : ℕ) (x y : Sight) (was : Rule z before) (is : Rule z after)
    (at : get_elem? before.views id ≡ some x) (pass : x.is_pass ≡ true) (one : after.views ≡ set before.views id y) (learns : Learns z st found x y) where
  abbrev p : ℕ
  p = x.view.number

  there : get_elem? was.views p ≡ some x.view
  there = (was.sights id x at).own pass

  now : get_elem? after.views id ≡ some y
  now = ap (λ l. get_elem? l id) one ∙ set_here before.views id y (inside_list before.views id x at)

  here : get_elem? is.views p ≡ some y.view
  here = subst (λ n. get_elem? is.views n ≡ some y.view) (ap (λ (v : View). v.number) learns.told.now) ((is.sights id y now).own (learns.is_pass ∙ pass))

  kept : (n : ℕ) (u : View) → n ≢ p → get_elem? was.views n ≡ some u → get_elem? is.views n ≡ some u
  kept n u ne on =
      let held = was.held n u on in let number : u.number ≡ n = (was.lawful.knows n u on).number in
      let away : held.0 ≢ id = λ e. (let it : held.1 ≡ x = some-injective held.1 x (sym held.2 ∙ subst (λ m. get_elem? before.views m ≡ some x) (sym e) at) in
      ne (sym number ∙ ap (λ (v : View). v.number) (sym (pass_only x u pass (subst (λ (s : Sight). HasView s u) it held.3))))) in
      let still : get_elem? after.views held.0 ≡ some held.1 = ap (λ l. get_elem? l held.0) one ∙ (set_else before.views id held.0 y away ∙ held.2) in
      subst (λ m. get_elem? is.views m ≡ some u) number (has_view is.views is.trace held.1 u (is.sights held.0 held.1 still) held.3)

  long : length is.views ≡ length was.views
  long =
      let some_there : 0 < length was.views = let within = inside_list was.views p x.view there in omega (arith, within) in
      let first = in_list was.views 0 some_there in let all = was.lawful.dealt first.0 first.1 in ⊎_elim
      (λ e. let it : first.0 ≡ x.view = some-injective first.0 x.view (sym first.1 ∙ subst (λ n. get_elem? was.views n ≡ some x.view) (sym e) there) in
      sym (is.lawful.dealt y.view (subst (λ n. get_elem? is.views n ≡ some y.view) (sym e) here)) ∙ (ap (λ (v : View). v.dealt) learns.told.now ∙ (ap (λ (v : View). v.dealt) (sym it) ∙ all)))
      (λ ne. sym (is.lawful.dealt first.0 (kept 0 first.0 ne first.1)) ∙ all)
      (cases_eq 0 p)

  pub running : IsStepOf z.shape p (world_of was) (world_of is)
  running = record {
    old = x.view;
    new = y.view;
    there = there;
    apart = same_list is.views (set was.views p y.view) (long ∙ sym (length-set was.views p y.view)) (λ n a on. ⊎_elim
        (λ t. subst (λ (v : View). get_elem? is.views n ≡ some v) t.1 (subst (λ m. get_elem? is.views m ≡ some y.view) (sym t.0) here))
        (λ t. kept n a t.0 t.1)
        (at_set was.views p n y.view a on));
    step = st;
    found = found;
    told = learns.told;
    lawful = is.lawful;
  }

-- ---- seats beside steps

still_there : (z : Constants) (before after : State (Unit {0}) Sight) (was : Rule z before) (is : Rule z after) → ((v : View) → IsHeld before.views v → IsHeld after.views v)
    → (n : ℕ) (v : View) → get_elem? was.views n ≡ some v → get_elem? is.views n ≡ some v
still_there z before after was is still n v at =
    let held = still v (was.held n v at) in
    subst (λ m. get_elem? is.views m ≡ some v) (was.lawful.knows n v at).number (has_view is.views is.trace held.1 v (is.sights held.0 held.1 held.2) held.3)

same_views : (l m : List View) → ((n : ℕ) (v : View) → get_elem? l n ≡ some v → get_elem? m n ≡ some v) → ((n : ℕ) (v : View) → get_elem? m n ≡ some v → get_elem? l n ≡ some v) → l ≡ m
same_views [] [] a b = refl
same_views [] (y ∷ ys) a b = absurd (some-ne-none y (sym (b 0 y refl)))
same_views (x ∷ xs) [] a b = absurd (some-ne-none x (sym (a 0 x refl)))
same_views (x ∷ xs) (y ∷ ys) a b =
    let first : x ≡ y = some-injective x y (b 0 y refl) in
    let rest : xs ≡ ys = same_views xs ys (λ n v at. a (suc n) v at) (λ n v at. b (suc n) v at) in (λ j. first j ∷ rest j)

-- the world of the longer trace has seen no more
goes_on : (z : Constants) (before after : State (Unit {0}) Sight) (was : Rule z before) (is : Rule z after)
    → ((n : ℕ) (v : View) → get_elem? was.views n ≡ some v → get_elem? is.views n ≡ some v)
    → Begins was.trace is.trace
goes_on z before after was is still = all_seen z.shape (world_of was) is.trace was.lawful (λ n v at. let k = is.lawful.knows n v (still n v at) in (k.more, k.rest))

pub beside : (z : Constants) (before after : State (Unit {0}) Sight) (was : Rule z before) (is : Rule z after)
    → after.words ≡ before.words → ((v : View) → IsHeld before.views v ↔ IsHeld after.views v)
    → world_of is ≡ world_of was
beside z before after was is words held =
    let on = still_there z before after was is (λ v. (held v).0) in let back = still_there z after before is was (λ v. (held v).1) in
    let views : is.views ≡ was.views = same_views is.views was.views back on in
    let trace : is.trace ≡ was.trace = both_begin is.trace was.trace (goes_on z after before is was back) (goes_on z before after was is on) in
    (λ j. record { words = words j; views = views j; trace = trace j })
