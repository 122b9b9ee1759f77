-- What the segments of the plain cache show after one of them was changed.
use Rattle.std.proofs.Common.{◌≡◌, ◌≢◌, ℕ, zero, suc, ◌<◌, ◌≤◌, ◌⊎◌, List, [], ◌∷◌, get_or, length, Some, refl, sym, ap, ◌∙◌, subst, inl, inr, arith}
use Rattle.std.specs.Prelude.{IsSomeAnd, slice_get, slice_set}
use Rattle.std.specs.Vec.{vec_capacity}
use Rattle.std.proofs.lemmas.Bool.{cases_eq, eq-eqb, ne_eqb}
use Rattle.std.proofs.lemmas.Option.{none-some, same_Some}
use Rattle.segmodel.specs.declared.segment.Segment.{Segment}
use Rattle.segmodel.specs.Cache.{with_at}
use Rattle.segmodel.specs.Segments.{AreRoomy, deadline_in, deadlines, filling_of, fillings}
use Rattle.segmodel.proofs.ListPlaces.{elsewhere}

-- what stands at a place of a list
pub there : {A : Type 0} (xs : List A) (n : ℕ) (x : A) → n < length xs → x ≡ get_or xs n x → slice_get xs n ≡ Some x
there [] n x within is = absurd (omega arith)
there (y ∷ ys) zero x within is = ap Some (sym is)
there (y ∷ ys) (suc n) x within is = there ys n x (omega arith) is

pub there_if : {A : Type 0} (xs : List A) (n : ℕ) (x : A) (P : A → Type 0) → IsSomeAnd (slice_get xs n) P → x ≡ get_or xs n x → slice_get xs n ≡ Some x
there_if [] n x P has is = absurd has
there_if (y ∷ ys) zero x P has is = ap Some (sym is)
there_if (y ∷ ys) (suc n) x P has is = there_if ys n x P has is

-- the place that was set has the new one
pub here_set : {A : Type 0} (xs : List A) (n : ℕ) (x y : A) → slice_get xs n ≡ Some y → slice_get (slice_set xs n x) n ≡ Some x
here_set [] n x y was = absurd (none-some y was)
here_set (z ∷ zs) zero x y was = refl
here_set (z ∷ zs) (suc n) x y was = here_set zs n x y was

module _ (segments : List Segment) (n : ℕ) (old new : Segment) (was : slice_get segments n ≡ Some old) where
  -- a fact of each segment is one of the changed one and one of the others
  place : (m : ℕ) → ((n ≡ m) × (slice_get (slice_set segments n new) m ≡ Some new)) ⊎ ((n ≢ m) × (slice_get (slice_set segments n new) m ≡ slice_get segments m))
  place m = elim (cases_eq n m) [
    | inl same ↦ inl (same, subst (λ k. slice_get (slice_set segments n new) k ≡ Some new) same (here_set segments n new old was))
    | inr other ↦ inr (other, elsewhere segments n m new (λ e. other (sym e)))
  ]

  pub fillings_set : fillings (slice_set segments n new) ≡ with_at (fillings segments) n (filling_of (Some new))
  fillings_set = λ i m. at m (place m) i
    where
      at : (m : ℕ) → ((n ≡ m) × (slice_get (slice_set segments n new) m ≡ Some new)) ⊎ ((n ≢ m) × (slice_get (slice_set segments n new) m ≡ slice_get segments m))
          → fillings (slice_set segments n new) m ≡ with_at (fillings segments) n (filling_of (Some new)) m
      at m (inl here) = rw (eq-eqb n m here.0) (ap filling_of here.1)
      at m (inr there) = rw (ne_eqb n m there.0) (ap filling_of there.1)

  pub deadlines_set : new.deadline ≡ old.deadline → deadlines (slice_set segments n new) ≡ deadlines segments
  deadlines_set same = λ i m. at m (place m) i
    where
      at : (m : ℕ) → ((n ≡ m) × (slice_get (slice_set segments n new) m ≡ Some new)) ⊎ ((n ≢ m) × (slice_get (slice_set segments n new) m ≡ slice_get segments m))
          → deadlines (slice_set segments n new) m ≡ deadlines segments m
      at m (inl here) = ap deadline_in here.1 ∙ (same ∙ sym (ap deadline_in (ap (slice_get segments) (sym here.0) ∙ was)))
      at m (inr there) = ap deadline_in there.1

  pub roomy_set : (rows : ℕ) → (vec_capacity old.keys ≤ vec_capacity new.keys) × (vec_capacity old.frequencies ≤ vec_capacity new.frequencies)
      → AreRoomy rows segments → AreRoomy rows (slice_set segments n new)
  roomy_set rows more roomy m found is = at (place m)
    where
      at : ((n ≡ m) × (slice_get (slice_set segments n new) m ≡ Some new)) ⊎ ((n ≢ m) × (slice_get (slice_set segments n new) m ≡ slice_get segments m))
          → (rows ≤ vec_capacity found.keys) × (rows ≤ vec_capacity found.frequencies)
      at (inl here) = subst (λ (x : Segment). (rows ≤ vec_capacity x.keys) × (rows ≤ vec_capacity x.frequencies)) (same_Some new found (sym here.1 ∙ is))
          (let room = roomy n old was in (omega (arith, room.0, more.0), omega (arith, room.1, more.1)))
      at (inr there) = roomy m found (sym there.1 ∙ is)
