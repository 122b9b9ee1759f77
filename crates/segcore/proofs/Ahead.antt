-- A search along a chain, for anything whose place only moves forward until it is gone.
use Rattle.std.proofs.Common.{ℕ, ◌+◌, ◌<◌, ◌≤◌, List, [], ◌∷◌, ◌++◌, sym, refl, ap, subst, inl, inr, ⊎_elim, ◌⊎◌, arith}
use Rattle.std.proofs.lemmas.Bool.{cases_eq}
use Rattle.segmodel.specs.Words.{Begins}
use Rattle.segcore.specs.Ahead.{WasGone, Ahead}
use Rattle.segcore.proofs.Moments.{begins_on}

-- ---- it moves forward as others go on

module _ {E : Type 0} (Ok : List E → Type 0) (At : List E → ℕ → Type 0) (Gone : List E → Type 0) (before : (e : E) (h : List E) → Ok (e ∷ h) → Ok h)
    (moves : (e : E) (h : List E) (a : ℕ) → Ok (e ∷ h) → At h a → ((m : ℕ) × (a ≤ m) × At (e ∷ h) m) ⊎ Gone (e ∷ h)) where
  goes_on : (n : ℕ) (h g more : List E) → Ok (more ++ g) → Begins h g → (m : ℕ) → n ≤ m → At g m → Ahead At Gone n h (more ++ g)
  goes_on n h g [] ok b m le at = inr (m, le, at)
  goes_on n h g (e ∷ more) ok b m le at = ⊎_elim
      (λ gone. inl (gone.0, gone.1, (e ∷ gone.2.0, ap (λ x. e ∷ x) gone.2.1), gone.3))
      (λ there. ⊎_elim
      (λ on. inr (on.0, (let x = there.1 in let y = on.1 in omega arith), on.2))
      (λ gone. inl (e ∷ (more ++ g), begins_on h g (e ∷ (more ++ g)) b (e ∷ more, refl), ([], refl), gone))
      (moves e (more ++ g) there.0 ok there.2))
      (goes_on n h g more (before e (more ++ g) ok) b m le at)

  pub ahead_later : (n : ℕ) (h g f : List E) → Ok f → Begins h g → Begins g f → Ahead At Gone n h g → Ahead At Gone n h f
  ahead_later n h g f ok b e a = ⊎_elim
      (λ gone. inl (gone.0, gone.1, begins_on gone.0 g f gone.2 e, gone.3))
      (λ there. subst (Ahead At Gone n h) (sym e.1) (goes_on n h g e.0 (subst Ok e.1 ok) b there.0 there.1 there.2)) a

-- ---- the search moves forward

module _ {E : Type 0} (At : List E → ℕ → Type 0) (Gone : List E → Type 0) where
  -- the word that is looked at isn't its place
  pub ahead_passed : (n : ℕ) (h g : List E) → ¬ At g n → Ahead At Gone n h g → Ahead At Gone (n + 1) h g
  ahead_passed n h g none a = ⊎_elim
      (λ gone. inl gone)
      (λ there. ⊎_elim (λ e. absurd (none (subst (At g) (sym e) there.2))) (λ ne. let le = there.1 in inr (there.0, omega arith, there.2)) (cases_eq n there.0)) a

  -- the positions between have no items
  pub ahead_jump : (n n' : ℕ) (h g : List E) → ((m : ℕ) → At g m → n ≤ m → n' ≤ m) → Ahead At Gone n h g → Ahead At Gone n' h g
  ahead_jump n n' h g skip a = ⊎_elim (λ gone. inl gone) (λ there. inr (there.0, skip there.0 there.2 there.1, there.2)) a

  -- the chain ends here
  pub ahead_end : (n : ℕ) (h g : List E) → ((m : ℕ) → At g m → m < n) → Ahead At Gone n h g → WasGone Gone h g
  ahead_end n h g last a = ⊎_elim (λ gone. gone) (λ there. let lt = last there.0 there.2 in let le = there.1 in absurd (omega arith)) a
