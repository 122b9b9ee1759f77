-- Passes that were given up to a seat: their views stay those of their numbers, since no other pass has one of these.
use Rattle.std.proofs.Common.{◌≡◌, ℕ, ◌≤◌, List, [], ◌∷◌, ◌++◌, length, set, true, false, refl, sym, ap, ◌∙◌, subst, ⊎_elim, arith}
use Rattle.std.proofs.lemmas.Bool.{false≢true}
use mathlib.Core.Option.{some}
use lib.ListN.{get_elem?}
use Rattle.atomic_table.proofs.Lists.{at_longer, at_set, at_snoc, set_else}
use Rattle.segcore.specs.Words.{View}
use Rattle.segcore.proofs.KeepsLaw.{inside_list}
use Rattle.segbase.specs.declared.law.Sight.{Sight}
use Rattle.segbase.specs.Ruled.{AreApart, AreViews, ends, NoneNumbered, spent}

-- ---- their views

pub views_kept : (views : List View) (n : ℕ) (w : View) (ended : List View) → NoneNumbered n ended → AreViews views ended → AreViews (set views n w) ended
views_kept views n w [] none are = tt
views_kept views n w (v ∷ more) none are = (set_else views n v.number w none.0 ∙ are.0, views_kept views n w more none.1 are.1)

pub views_longer : (views : List View) (w : View) (ended : List View) → AreViews views ended → AreViews (views ++ w ∷ []) ended
views_longer views w [] are = tt
views_longer views w (v ∷ more) are = (at_longer views (w ∷ []) v.number v are.0, views_longer views w more are.1)

-- a number that no pass has yet is none of theirs
pub none_new : (views : List View) (n : ℕ) (ended : List View) → length views ≤ n → AreViews views ended → NoneNumbered n ended
none_new views n [] past are = tt
none_new views n (v ∷ more) past are = ((λ same. let within = inside_list views v.number v are.0 in omega (arith, same, past, within)), none_new views n more past are.1)

-- ---- the seats

-- a seat stood at the same place before one of them changed, and was a pass if it is one now
pub stood : (sights : List Sight) (id : ℕ) (x u : Sight) → get_elem? sights id ≡ some x → x.is_pass ≡ true → u.view.number ≡ x.view.number → u.ended ≡ x.ended
    → (j : ℕ) (y : Sight) → get_elem? (set sights id u) j ≡ some y
    → (z : Sight) × (get_elem? sights j ≡ some z) × (z.view.number ≡ y.view.number) × (z.ended ≡ y.ended) × (y.is_pass ≡ true → z.is_pass ≡ true)
stood sights id x u at pass same ended j y is = ⊎_elim
    (λ t. (x, subst (λ k. get_elem? sights k ≡ some x) (sym t.0) at, sym same ∙ ap (λ (s : Sight). s.view.number) t.1, sym ended ∙ ap (λ (s : Sight). s.ended) t.1, λ _. pass))
    (λ t. (y, t.1, refl, refl, λ yes. yes))
    (at_set sights id j u y is)

-- a pass changes, and keeps its number
pub apart_moved : (sights : List Sight) (id : ℕ) (x u : Sight) → AreApart sights → get_elem? sights id ≡ some x
    → x.is_pass ≡ true → u.view.number ≡ x.view.number → u.ended ≡ x.ended → AreApart (set sights id u)
apart_moved sights id x u apart at pass same ended i j a b ai bj pb =
    let f = stood sights id x u at pass same ended i a ai in let g = stood sights id x u at pass same ended j b bj in
    subst (λ n. NoneNumbered n a.ended) g.2 (subst (NoneNumbered g.0.view.number) f.3 (apart i j f.0 g.0 f.1 g.1 (g.4 pb)))

-- a seat comes to them that is no pass, and to which none was given up
pub apart_longer : (sights : List Sight) (u : Sight) → AreApart sights → u.is_pass ≡ false → u.ended ≡ [] → AreApart (sights ++ u ∷ [])
apart_longer sights u apart off none i j a b ai bj pb = ⊎_elim
    (λ there. ⊎_elim
    (λ t. apart i j a b t there pb)
    (λ t. subst (λ (s : Sight). NoneNumbered b.view.number s.ended) t (subst (NoneNumbered b.view.number) (sym none) tt))
    (at_snoc sights u a i ai))
    (λ t. absurd (false≢true (sym off ∙ (ap (λ (s : Sight). s.is_pass) t ∙ pb))))
    (at_snoc sights u b j bj)

-- or takes the place of another
pub apart_spent : (sights : List Sight) (id : ℕ) (u : Sight) → AreApart sights → u.is_pass ≡ false → u.ended ≡ [] → AreApart (set sights id u)
apart_spent sights id u apart off none i j a b ai bj pb = ⊎_elim
    (λ t. absurd (false≢true (sym off ∙ (ap (λ (s : Sight). s.is_pass) t.1 ∙ pb))))
    (λ there. ⊎_elim
    (λ t. subst (λ (s : Sight). NoneNumbered b.view.number s.ended) t.1 (subst (NoneNumbered b.view.number) (sym none) tt))
    (λ t. apart i j a b t.1 there.1 pb)
    (at_set sights id i u a ai))
    (at_set sights id j u b bj)

-- the same where the pass at this place is given up to the seat at another
pub apart_given : (sights : List Sight) (id other : ℕ) (x w : Sight) → AreApart sights
    → ((j : ℕ) (y : Sight) → get_elem? sights j ≡ some y → y.is_pass ≡ true → w.view.number ≡ y.view.number
    → other ≡ j)
    → get_elem? sights id ≡ some x → x.is_pass ≡ false → AreApart (set (set sights id (ends x w)) other spent)
apart_given sights id other x w apart one at off i j a b ai bj pb = ⊎_elim
    (λ t. absurd (false≢true (ap (λ (s : Sight). s.is_pass) t.1 ∙ pb)))
    (λ t. ⊎_elim
    (λ o. absurd (false≢true (sym off ∙ (ap (λ (s : Sight). s.is_pass) o.1 ∙ pb))))
    (λ there. ⊎_elim
    (λ o. subst (λ (s : Sight). NoneNumbered b.view.number s.ended) o.1 tt)
    (λ o. ⊎_elim
    (λ u. subst (λ (s : Sight). NoneNumbered b.view.number s.ended) u.1 ((λ same. t.0 (sym (one j b there.1 pb same))), apart id j x b at there.1 pb))
    (λ u. apart i j a b u.1 there.1 pb)
    (at_set sights id i (ends x w) a o.1))
    (at_set (set sights id (ends x w)) other i spent a ai))
    (at_set sights id j (ends x w) b t.1))
    (at_set (set sights id (ends x w)) other j spent b bj)
