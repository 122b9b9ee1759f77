-- The tries of a call for a bucket's bit, one after another.
use Rattle.std.proofs.Common.{◌≡◌, ◌⊎◌, ℕ, zero, suc, ◌+◌, ◌<◌, true, false, List, [], ◌∷◌, Option, Some, None, refl, sym, ap, ◌∙◌, subst, inl, inr, ⊎_elim, arith, add-one}
use Rattle.std.proofs.lemmas.Bool.{cases_Bool, eqb-true, eq-eqb, false≢true, false_from_ne_true}
use Rattle.segword.specs.Words.{Shape}
use Rattle.segcore.specs.declared.event.Event.TheVariants.{Took, Bounced}
use Rattle.segcore.specs.Words.{bucket_after, Event, HasBit, is, NoneAt, unless_own}
use Rattle.segbase.specs.Words.{AddsAtOnce, AddsEvents, Board, has_bit, IsPassOf, number, Pass}
use Rattle.segbase.specs.Words.{Takes, trace}
use Rattle.segbase.proofs.Moves.{stays, moved_then}
use Rattle.segstore.specs.Taking.{bounces, TakesBucket}
use Rattle.segstore.proofs.UnderBit.{moved_bit}
use Rattle.segstore.proofs.Bits.{bit_before}

-- what goes on over one found bit more holds of so many
pub bounces_all : (P : List Event → Type 0) (p b n : ℕ) → P [] → ((own : List Event) → P own → P (Bounced p b ∷ own)) → P (bounces p b n)
unfolding bounces
bounces_all P p b zero first more = first
bounces_all P p b (suc n) first more = more (bounces p b n) (bounces_all P p b n first more)

pub no_bounces : (p b : ℕ) → bounces p b 0 ≡ []
unfolding bounces
no_bounces p b = refl

pub one_bounce_more : (p b n : ℕ) → bounces p b (n + 1) ≡ Bounced p b ∷ bounces p b n
unfolding bounces
one_bounce_more p b n = ap (bounces p b) (add-one n)

-- a bit that was found set is no event of a bucket
pub bounces_none : (z : Shape) (c p b n : ℕ) → NoneAt z c (bounces p b n)
bounces_none z c p b n = bounces_all (NoneAt z c) p b n tt (λ own none. (refl, none))

is_some_of : (o : Option ℕ) (n : ℕ) → is o n ≡ true → o ≡ Some n
is_some_of None n t = absurd (false≢true t)
is_some_of (Some m) n t = ap Some (eqb-true m n t)

some_is : (o : Option ℕ) (n : ℕ) → o ≡ Some n → is o n ≡ true
some_is o n e = ap (λ x. is x n) e ∙ eq-eqb n n refl

pub has : (b : Board) (p : Pass) (bucket : ℕ) → bucket < b.shape.buckets → has_bit b p bucket ≡ true → HasBit b.shape (trace p) (number p) bucket
has b p bucket within t = (within, is_some_of (bucket_after b.shape (trace p) bucket).holder (number p) t)

pub told_has : (b : Board) (p : Pass) (bucket : ℕ) → HasBit b.shape (trace p) (number p) bucket → has_bit b p bucket ≡ true
told_has b p bucket bit = some_is (bucket_after b.shape (trace p) bucket).holder (number p) bit.1

-- so many tries found the bit set: that of the pass itself, which isn't counted, or another's
abbrev pub Tried : Board → ℕ → ℕ → Pass → Pass → Type 0
Tried b bucket times p q =
    ((has_bit b p bucket ≡ true) × AddsEvents b [] p q) ⊎ ((has_bit b p bucket ≡ false) × AddsEvents b (bounces (number p) bucket times) p q)

pub none_tried : (b : Board) (bucket : ℕ) (p : Pass) → IsPassOf b p → Tried b bucket 0 p p
none_tried b bucket p is = ⊎_elim
    (λ t. inl (t, stays b p is))
    (λ f. inr (f, subst (λ own. AddsEvents b own p p) (sym (no_bounces (number p) bucket)) (stays b p is)))
    (cases_Bool (has_bit b p bucket))

module _ (b : Board) (bucket n : ℕ) (p q r : Pass) (within : bucket < b.shape.buckets) where
  own_again : AddsEvents b [] p q → has_bit b p bucket ≡ true → has_bit b q bucket ≡ true
  own_again m t = told_has b q bucket (moved_bit b [] p q bucket m (has b p bucket within t) tt)

  not_own : AddsEvents b (bounces (number p) bucket n) p q → has_bit b p bucket ≡ false → has_bit b q bucket ≡ false
  not_own m f = false_from_ne_true (has_bit b q bucket) (λ t. false≢true (sym f
      ∙ told_has b p bucket (bit_before b (bounces (number p) bucket n) p q bucket m (bounces_none b.shape bucket (number p) bucket n) (has b q bucket within t))))

  -- one more try that found it set
  pub tried_more : Tried b bucket n p q → Takes b bucket false q r → Tried b bucket (n + 1) p r
  tried_more tried missed = ⊎_elim
      (λ t. let none : AddsAtOnce b [] q r = subst (λ o. AddsAtOnce b (unless_own o (Bounced (number q) bucket)) q r) (own_again t.1 t.0) missed in
      inl (t.0, moved_then b [] [] p q r t.1 none.moved))
      (λ f. let one : AddsAtOnce b (Bounced (number q) bucket ∷ []) q r = subst (λ o. AddsAtOnce b (unless_own o (Bounced (number q) bucket)) q r) (not_own f.1 f.0) missed in
      let all : AddsEvents b (Bounced (number q) bucket ∷ bounces (number p) bucket n) p r = moved_then b (bounces (number p) bucket n) (Bounced (number q) bucket ∷ []) p q r f.1 one.moved in
      inr (f.0, subst (λ own. AddsEvents b own p r) (ap (λ x. Bounced x bucket ∷ bounces (number p) bucket n) f.1.same ∙ sym (one_bounce_more (number p) bucket n)) all))
      tried

  took_after : (times : ℕ) → times < 64 → AddsEvents b (bounces (number p) bucket times) p q → Takes b bucket true q r → TakesBucket b bucket true p r
  took_after times few m took =
      let all : AddsEvents b (Took (number q) bucket ∷ bounces (number p) bucket times) p r = moved_then b (bounces (number p) bucket times) (Took (number q) bucket ∷ []) p q r m took.0.moved in
      (times, few, subst (λ x. AddsEvents b (Took x bucket ∷ bounces (number p) bucket times) p r) m.same all, record { bit = took.1; unwritten = took.2; undrawn = took.3 })

  -- and one that took it
  pub taken_at : n < 64 → Tried b bucket n p q → Takes b bucket true q r → TakesBucket b bucket true p r
  taken_at few tried took = ⊎_elim
      (λ t. took_after 0 (omega arith) (subst (λ own. AddsEvents b own p q) (sym (no_bounces (number p) bucket)) t.1) took)
      (λ f. took_after n few f.1 took)
      tried
