-- What a pass knows of its segments after one of them was changed.
use Rattle.std.proofs.Common.{◌≡◌, ◌≢◌, ℕ, zero, suc, ◌-◌, nat_le, cond, List, [], ◌∷◌, length, set, Option, Some, None, IsSome, option_map, slice_get, slice_index_or, refl, sym, ap, ◌∙◌, subst, ⊎_elim, arith, length-set}
use Rattle.std.proofs.lemmas.Bool.{cases_Bool, cases_eq, cond-true, cond-false, leb-true, false≢true}
use Rattle.std.proofs.lemmas.Option.{none-some, get_or_from_slice_get}
use Rattle.std.specs.Box.{boxed_slice_items}
use Rattle.segmodel.specs.Words.{SegState}
use Rattle.segbase.specs.Words.{OwnSegment}
use Rattle.segbase.specs.declared.pass.PlainPart.{PlainPart}
use Rattle.segbase.specs.PlainPart.{own_segment, put_own, OwnSegments, segments_of, state_in, used_in, with_own, with_state, with_used, deadline_in, with_deadline}
use Rattle.segbase.proofs.Owned.{owner_of}

-- ---- one place of a list

set_here : {A : Type 0} (l : List A) (i : ℕ) (old new : A) → slice_get l i ≡ Some old → slice_get (set l i new) i ≡ Some new
set_here [] i old new is = absurd (none-some old is)
set_here (x ∷ xs) zero old new is = refl
set_here (x ∷ xs) (suc i) old new is = set_here xs i old new is

set_apart : {A : Type 0} (l : List A) (i j : ℕ) (new : A) → j ≢ i → slice_get (set l i new) j ≡ slice_get l j
set_apart [] i j new ne = refl
set_apart (x ∷ xs) zero zero new ne = absurd (ne refl)
set_apart (x ∷ xs) zero (suc j) new ne = refl
set_apart (x ∷ xs) (suc i) zero new ne = refl
set_apart (x ∷ xs) (suc i) (suc j) new ne = set_apart xs i j new (λ e. ne (ap suc e))

module _ (v : OwnSegments) (i : ℕ) where
  put_here : (change : OwnSegment → OwnSegment) (o : Option OwnSegment) → slice_get (boxed_slice_items v) i ≡ o
      → slice_get (boxed_slice_items (put_own v i (option_map change o))) i ≡ option_map change o
  put_here change None is = is
  put_here change (Some own) is = set_here (boxed_slice_items v) i own (change own) is

  put_apart : (j : ℕ) (o : Option OwnSegment) → j ≢ i → slice_get (boxed_slice_items (put_own v i o)) j ≡ slice_get (boxed_slice_items v) j
  put_apart j None ne = refl
  put_apart j (Some own) ne = set_apart (boxed_slice_items v) i j own ne

  put_long : (o : Option OwnSegment) → length (boxed_slice_items (put_own v i o)) ≡ length (boxed_slice_items v)
  put_long None = refl
  put_long (Some own) = length-set (boxed_slice_items v) i own

-- ---- one segment

module _ (x : PlainPart) (s : ℕ) where
  abbrev at : ℕ
  at = s - x.first

  own_at : (own : OwnSegment) → own_segment x s ≡ Some own → slice_get (segments_of x) at ≡ Some own
  own_at own is = ⊎_elim
      (λ t. sym (cond-true (nat_le x.first s) (slice_get (segments_of x) at) None t) ∙ is)
      (λ f. absurd (none-some own (sym (cond-false (nat_le x.first s) (slice_get (segments_of x) at) None f) ∙ is)))
      (cases_Bool (nat_le x.first s))

  -- it is the one at its place
  own_is : (o : Option OwnSegment) (own : OwnSegment) → own_segment x s ≡ o → IsSome o → own ≡ slice_index_or (segments_of x) at own → o ≡ Some own
  own_is None own is some at_place = absurd (false≢true some)
  own_is (Some known) own is some at_place = ap Some (sym (at_place ∙ get_or_from_slice_get (segments_of x) at known own (own_at known is)))

  module _ (change : OwnSegment → OwnSegment) where
    -- the setter changed what was known
    pub changes : (own : OwnSegment) → IsSome (own_segment x s) → own ≡ slice_index_or (segments_of x) at own
        → record x { segments = put_own x.segments at (Some (change own)) } ≡ with_own s change x
    changes own some at_place = ap (λ o. record x { segments = put_own x.segments at (option_map change o) }) (sym (own_is (own_segment x s) own refl some at_place))

    pub owner_changed : owner_of (with_own s change x) ≡ owner_of x
    owner_changed = ap (λ n. (x.number, x.first, x.rows, n)) (put_long x.segments at (option_map change (own_segment x s)))

    pub own_here : own_segment (with_own s change x) s ≡ option_map change (own_segment x s)
    own_here = let low = nat_le x.first s in let old = slice_get (segments_of x) at in ⊎_elim
        (λ t. cond-true low (slice_get (boxed_slice_items (put_own x.segments at (option_map change (own_segment x s)))) at) None
        t ∙ put_here x.segments at change (own_segment x s) (sym (cond-true low old None t)))
        (λ f. cond-false low (slice_get (boxed_slice_items (put_own x.segments at (option_map change (own_segment x s)))) at) None f ∙ sym (ap (option_map change) (cond-false low old None f)))
        (cases_Bool low)

    pub own_apart : (t : ℕ) → t ≢ s → own_segment (with_own s change x) t ≡ own_segment x t
    own_apart t ne = ⊎_elim
        (λ low. ⊎_elim
        (λ there. let a = leb-true x.first s low in let c = leb-true x.first t there in
        ap (λ o. cond (nat_le x.first t) o None) (put_apart x.segments at (t - x.first) (option_map change (own_segment x s)) (λ e. ne (omega (arith, e)))))
        (λ f. cond-false (nat_le x.first t) (slice_get
        (boxed_slice_items (put_own x.segments at (option_map change (own_segment x s)))) (t - x.first)) None f
        ∙ sym (cond-false (nat_le x.first t) (slice_get (segments_of x) (t - x.first)) None f))
        (cases_Bool (nat_le x.first t)))
        (λ f. ap (λ o. cond (nat_le x.first t) (slice_get (boxed_slice_items (put_own x.segments at (option_map change o)))
        (t - x.first)) None) (cond-false (nat_le x.first s) (slice_get (segments_of x) at) None f))
        (cases_Bool (nat_le x.first s))

    -- two changes that come to the same of the segment
    pub own_alike : (other : OwnSegment → OwnSegment) → option_map change (own_segment x s) ≡ option_map other (own_segment x s) → with_own s change x ≡ with_own s other x
    own_alike other = ap (λ o. record x { segments = put_own x.segments at o })

    -- what the change leaves is known as before of each segment
    pub own_kept : {A : Type 0} (read : Option OwnSegment → A)
        → ((o : Option OwnSegment) → read (option_map change o) ≡ read o) → (t : ℕ)
        → read (own_segment (with_own s change x) t) ≡ read (own_segment x t)
    own_kept read same t = ⊎_elim
        (λ e. subst (λ n. read (own_segment (with_own s change x) n) ≡ read (own_segment x n)) (sym e) (ap read own_here ∙ same (own_segment x s)))
        (λ ne. ap read (own_apart t ne))
        (cases_eq t s)

-- ---- its state, its used rows and its deadline

abbrev stated : SegState → OwnSegment → OwnSegment
stated state own = record own { state = state }

abbrev pub counted : ℕ → OwnSegment → OwnSegment
counted used own = record own { used = used }

abbrev pub lasting : ℕ → OwnSegment → OwnSegment
lasting deadline own = record own { deadline = deadline }

module _ (x : PlainPart) (s : ℕ) where
  in_state : (state : SegState) (o : Option OwnSegment) → IsSome o → state_in (option_map (stated state) o) ≡ Some state
  in_state state None none = absurd (false≢true none)
  in_state state (Some own) there = refl

  in_used : (used : ℕ) (o : Option OwnSegment) → IsSome o → used_in (option_map (counted used) o) ≡ Some used
  in_used used None none = absurd (false≢true none)
  in_used used (Some own) there = refl

  in_deadline : (deadline : ℕ) (o : Option OwnSegment) → IsSome o → deadline_in (option_map (lasting deadline) o) ≡ Some deadline
  in_deadline deadline None none = absurd (false≢true none)
  in_deadline deadline (Some own) there = refl

  pub state_set : (state : SegState) → IsSome (own_segment x s) → state_in (own_segment (with_state s state x) s) ≡ Some state
  state_set state there = ap state_in (own_here x s (stated state)) ∙ in_state state (own_segment x s) there

  pub used_set : (used : ℕ) → IsSome (own_segment x s) → used_in (own_segment (with_used s used x) s) ≡ Some used
  used_set used there = ap used_in (own_here x s (counted used)) ∙ in_used used (own_segment x s) there

  pub deadline_set : (deadline : ℕ) → IsSome (own_segment x s) → deadline_in (own_segment (with_deadline s deadline x) s) ≡ Some deadline
  deadline_set deadline there = ap deadline_in (own_here x s (lasting deadline)) ∙ in_deadline deadline (own_segment x s) there

  pub state_apart : (state : SegState) (t : ℕ) → t ≢ s → state_in (own_segment (with_state s state x) t) ≡ state_in (own_segment x t)
  state_apart state t ne = ap state_in (own_apart x s (stated state) t ne)

  pub used_apart : (used t : ℕ) → t ≢ s → used_in (own_segment (with_used s used x) t) ≡ used_in (own_segment x t)
  used_apart used t ne = ap used_in (own_apart x s (counted used) t ne)

  pub deadline_apart : (deadline t : ℕ) → t ≢ s → deadline_in (own_segment (with_deadline s deadline x) t) ≡ deadline_in (own_segment x t)
  deadline_apart deadline t ne = ap deadline_in (own_apart x s (lasting deadline) t ne)

  pub owner_stated : (state : SegState) → owner_of (with_state s state x) ≡ owner_of x
  owner_stated state = owner_changed x s (stated state)

  pub owner_counted : (used : ℕ) → owner_of (with_used s used x) ≡ owner_of x
  owner_counted used = owner_changed x s (counted used)

  pub owner_lasting : (deadline : ℕ) → owner_of (with_deadline s deadline x) ≡ owner_of x
  owner_lasting deadline = owner_changed x s (lasting deadline)

  pub state_kept : (used t : ℕ) → state_in (own_segment (with_used s used x) t) ≡ state_in (own_segment x t)
  state_kept used = own_kept x s (counted used) state_in same
    where
      same : (o : Option OwnSegment) → state_in (option_map (counted used) o) ≡ state_in o
      same None = refl
      same (Some own) = refl

  pub used_kept : (state : SegState) (t : ℕ) → used_in (own_segment (with_state s state x) t) ≡ used_in (own_segment x t)
  used_kept state = own_kept x s (stated state) used_in same
    where
      same : (o : Option OwnSegment) → used_in (option_map (stated state) o) ≡ used_in o
      same None = refl
      same (Some own) = refl

  pub deadline_stated : (state : SegState) (t : ℕ) → deadline_in (own_segment (with_state s state x) t) ≡ deadline_in (own_segment x t)
  deadline_stated state = own_kept x s (stated state) deadline_in same
    where
      same : (o : Option OwnSegment) → deadline_in (option_map (stated state) o) ≡ deadline_in o
      same None = refl
      same (Some own) = refl

  pub deadline_counted : (used t : ℕ) → deadline_in (own_segment (with_used s used x) t) ≡ deadline_in (own_segment x t)
  deadline_counted used = own_kept x s (counted used) deadline_in same
    where
      same : (o : Option OwnSegment) → deadline_in (option_map (counted used) o) ≡ deadline_in o
      same None = refl
      same (Some own) = refl

  pub state_lasting : (deadline t : ℕ) → state_in (own_segment (with_deadline s deadline x) t) ≡ state_in (own_segment x t)
  state_lasting deadline = own_kept x s (lasting deadline) state_in same
    where
      same : (o : Option OwnSegment) → state_in (option_map (lasting deadline) o) ≡ state_in o
      same None = refl
      same (Some own) = refl

  pub used_lasting : (deadline t : ℕ) → used_in (own_segment (with_deadline s deadline x) t) ≡ used_in (own_segment x t)
  used_lasting deadline = own_kept x s (lasting deadline) used_in same
    where
      same : (o : Option OwnSegment) → used_in (option_map (lasting deadline) o) ≡ used_in o
      same None = refl
      same (Some own) = refl
