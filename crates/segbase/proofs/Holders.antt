-- Each view is held by a seat, whatever the seats do.
use Rattle.std.proofs.Common.{◌≡◌, ℕ, List, [], ◌∷◌, ◌++◌, set, true, false, sym, ◌∙◌, subst, inl, inr, ⊎_elim}
use Rattle.std.proofs.lemmas.Bool.{cases_eq, false≢true}
use mathlib.Core.Option.{some, some-injective}
use lib.ListN.{get_elem?}
use Rattle.atomic_table.proofs.Lists.{at_longer, set_here, set_else}
use Rattle.segcore.specs.Words.{View}
use Rattle.segcore.proofs.KeepsLaw.{inside_list}
use Rattle.segbase.specs.declared.law.Sight.{Sight}
use Rattle.segbase.specs.Ruled.{ends, HasView, IsAmong, IsHeld, spent}

-- the seat of a pass has that pass's view alone
pub pass_only : (x : Sight) (v : View) → x.is_pass ≡ true → HasView x v → x.view ≡ v
pass_only x v pass has = ⊎_elim (λ t. t.1) (λ t. absurd (false≢true (sym t.0 ∙ pass))) has

-- a seat of no pass, to which none was given up, has none
pub has_none : (x : Sight) (v : View) → x.is_pass ≡ false → x.ended ≡ [] → ¬ (HasView x v)
has_none x v off none has = ⊎_elim (λ t. false≢true (sym off ∙ t.0)) (λ t. subst (IsAmong v) none t.1) has

-- a seat changes, and still has the view if it had it
pub held_moved : (sights : List Sight) (id : ℕ) (x u : Sight) (v : View) → get_elem? sights id ≡ some x → (HasView x v → HasView u v) → IsHeld sights v → IsHeld (set sights id u) v
held_moved sights id x u v at so held = ⊎_elim
    (λ e. let it : held.1 ≡ x = some-injective held.1 x (sym held.2 ∙ subst (λ n. get_elem? sights n ≡ some x) (sym e) at) in
    (id, u, set_here sights id u (inside_list sights id x at), so (subst (λ (s : Sight). HasView s v) it held.3)))
    (λ ne. (held.0, held.1, set_else sights id held.0 u ne ∙ held.2, held.3))
    (cases_eq held.0 id)

pub held_longer : (sights : List Sight) (u : Sight) (v : View) → IsHeld sights v → IsHeld (sights ++ u ∷ []) v
held_longer sights u v held = (held.0, held.1, at_longer sights (u ∷ []) held.0 held.1 held.2, held.3)

-- the pass at one place is given up to the seat of no pass at another
pub held_given : (sights : List Sight) (id other : ℕ) (x w : Sight) (v : View) → x.is_pass ≡ false → w.is_pass ≡ true → get_elem? sights id ≡ some x → ¬ (other ≡ id) → get_elem? sights other ≡ some w
    → IsHeld sights v → IsHeld (set (set sights id (ends x w)) other spent) v
held_given sights id other x w v off pass at apart at' held =
    let u = ends x w in let there = set sights id u in
    let mine : get_elem? (set there other spent) id ≡ some u = set_else there other id spent (λ e. apart (sym e)) ∙ set_here sights id u (inside_list sights id x at) in
    let first : IsHeld there v = held_moved sights id x u v at (λ has. ⊎_elim (λ t. absurd (false≢true (sym off ∙ t.0))) (λ t. inr (off, inr t.1)) has) held in
    let still : get_elem? there other ≡ some w = set_else sights id other u apart ∙ at' in ⊎_elim
    (λ e. let it : first.1 ≡ w = some-injective first.1 w (sym first.2 ∙ subst (λ n. get_elem? there n ≡ some w) (sym e) still) in
    (id, u, mine, inr (off, inl (pass_only w v pass (subst (λ (s : Sight). HasView s v) it first.3)))))
    (λ ne. (first.0, first.1, set_else there other first.0 spent ne ∙ first.2, first.3))
    (cases_eq first.0 other)
