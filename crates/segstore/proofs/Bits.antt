-- Which bits a pass has after a call: nobody else gives it one.
use Rattle.std.proofs.Common.{◌≡◌, ◌≢◌, ℕ, eqb, List, [], ◌∷◌, ◌++◌, Some, None, sym, ap, ◌∙◌, subst, ⊎_elim}
use Rattle.std.proofs.lemmas.Bool.{cases_Bool, cases_eq, cond-true, cond-false, eq-eqb, false≢true}
use Rattle.std.proofs.lemmas.Option.{same_Some, none-some}
use Rattle.segword.specs.Words.{Shape}
use Rattle.segcore.specs.declared.event.Event.TheVariants.{Took, Freed}
use Rattle.segcore.specs.Words.{acts, Bucket, bucket_after, bucket_at, by, Event, HasBit, is}
use Rattle.segcore.specs.Words.{NoneAt}
use Rattle.segbase.specs.Words.{AddsEvents, Board, number, own_of, Pass, trace}

pub none_at_both : (z : Shape) (b : ℕ) (xs ys : List Event) → NoneAt z b xs → NoneAt z b ys → NoneAt z b (xs ++ ys)
none_at_both z b [] ys n m = m
none_at_both z b (e ∷ xs) ys n m = (n.0, none_at_both z b xs ys n.1 m)

held_before : (e : Event) (u : Bucket) (p : ℕ) → by e ≢ p → (acts e u).holder ≡ Some p → u.holder ≡ Some p
held_before (Took q b) u p other held = absurd (other (same_Some q p held))
held_before (Freed q b counted) u p other held = absurd (none-some p held)
held_before e u p other held = held

-- a bit that the pass has it had before, where none of its own events is of the bucket
had_bit : (z : Shape) (more h : List Event) (p b : ℕ) → NoneAt z b (own_of p more) → (bucket_after z (more ++ h) b).holder ≡ Some p → (bucket_after z h b).holder ≡ Some p
had_bit z [] h p b none held = held
had_bit z (e ∷ more) h p b none held =
    let now = bucket_after z (more ++ h) b in ⊎_elim
    (λ t. let own : NoneAt z b (e ∷ own_of p more) = subst (NoneAt z b) (cond-true (eqb (by e) p) (e ∷ own_of p more) (own_of p more) t) none in
    had_bit z more h p b own.1 (ap (λ u. u.holder) (sym (cond-false (is (bucket_at z e) b) (acts e now) now own.0)) ∙ held))
    (λ f. let own : NoneAt z b (own_of p more) = subst (NoneAt z b) (cond-false (eqb (by e) p) (e ∷ own_of p more) (own_of p more) f) none in
    let other : by e ≢ p = λ same. false≢true (sym f ∙ eq-eqb (by e) p same) in
    had_bit z more h p b own (⊎_elim
    (λ y. held_before e now p other (ap (λ u. u.holder) (sym (cond-true (is (bucket_at z e) b) (acts e now) now y)) ∙ held))
    (λ n. ap (λ u. u.holder) (sym (cond-false (is (bucket_at z e) b) (acts e now) now n)) ∙ held)
    (cases_Bool (is (bucket_at z e) b))))
    (cases_Bool (eqb (by e) p))

pub bit_before : (b : Board) (own : List Event) (p q : Pass) (bucket : ℕ) → AddsEvents b own p q
    → NoneAt b.shape bucket own → HasBit b.shape (trace q) (number q) bucket
    → HasBit b.shape (trace p) (number p) bucket
bit_before b own p q bucket m none bit = (
  bit.0,
  had_bit b.shape m.more (trace p) (number p) bucket (subst (NoneAt b.shape bucket) (sym m.adds) none)
      (ap (λ h. (bucket_after b.shape h bucket).holder) (sym m.goes_on) ∙ (bit.1 ∙ ap Some m.same)),
)

-- a call that gave back the bit of its bucket, and did nothing in another, leaves the pass no bit that it hadn't
pub no_new_bit : (b : Board) (own : List Event) (p q : Pass) (home : ℕ) → AddsEvents b own p q
    → (bucket_after b.shape (trace q) home).holder ≡ None → ((other : ℕ) → home ≢ other → NoneAt b.shape other own)
    → (bucket : ℕ) → HasBit b.shape (trace q) (number q) bucket → HasBit b.shape (trace p) (number p) bucket
no_new_bit b own p q home m free none bucket bit = ⊎_elim
    (λ e. absurd (none-some (number q) (sym free ∙ (ap (λ x. (bucket_after b.shape (trace q) x).holder) e ∙ bit.1))))
    (λ apart. bit_before b own p q bucket m (none bucket apart) bit)
    (cases_eq home bucket)
