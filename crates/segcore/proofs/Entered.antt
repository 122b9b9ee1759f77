-- While a pass is in a segment the segment isn't refilled, and its linked rows stay as they are.
use Rattle.std.proofs.Common.{◌≡◌, ◌≢◌, ℕ, ◌<◌, eqb, List, [], ◌∷◌, ◌++◌, Some, sym, refl, ap, ◌∙◌, subst, arith}
use Rattle.std.proofs.lemmas.Bool.{cond-false, ne_eqb, false_from_ne_true}
use Rattle.std.proofs.lemmas.Option.{none-some}
use Rattle.segword.specs.Words.{Shape}
use Rattle.segcore.specs.Words.{Event}
use Rattle.segcore.specs.declared.event.Event.TheVariants.{Filled, Linked, Relinked, Refilled}
use Rattle.segcore.specs.Event.{NoneBy}
use Rattle.segcore.specs.Lawful.{IsLawful, Suits}
use Rattle.segcore.specs.Row.{row_alone, writes_row}
use Rattle.segcore.specs.Segment.{inside, NoneRefills}
use Rattle.segcore.proofs.Quiet.{at_unlinked, of_row, quiet_inside}
use Rattle.segcore.proofs.Readers.{is_counted}

-- an event that doesn't refill the segment leaves a linked row alone
touches_no : (z : Shape) (e : Event) (h : List Event) (s r : ℕ) (k : List ℕ) → Suits z h e → ((p t d : ℕ) → e ≢ Refilled p t d)
    → (row_alone h s r).linked ≡ Some k → row_alone (e ∷ h) s r ≡ row_alone h s r
touches_no z e h s r k u ne on = cond-false (of_row h e s r) (writes_row e (row_alone h s r)) (row_alone h s r)
    (false_from_ne_true (of_row h e s r) (λ y. none-some k (sym (at_unlinked z h e s r u ne y) ∙ on)))

pub row_stays : (z : Shape) (e : Event) (h : List Event) (s r : ℕ) (k : List ℕ) → IsLawful z (e ∷ h)
    → ((p d : ℕ) → e ≢ Refilled p s d) → (row_alone h s r).linked ≡ Some k → row_alone (e ∷ h) s r ≡ row_alone h s r
row_stays z (Refilled p t d) h s r k l ne on = cond-false (eqb t s) (writes_row (Refilled p t d) (row_alone h s r)) (row_alone h s r) (ne_eqb t s (λ e. ne p d (ap (λ x. Refilled p x d) e)))
row_stays z (Filled p t i j w) h s r k l ne on = touches_no z (Filled p t i j w) h s r k l.1.suits (λ p' t' d' same. cc) on
row_stays z (Linked p q t i n) h s r k l ne on = touches_no z (Linked p q t i n) h s r k l.1.suits (λ p' t' d' same. cc) on
row_stays z (Relinked p q a b t i n) h s r k l ne on = touches_no z (Relinked p q a b t i n) h s r k l.1.suits (λ p' t' d' same. cc) on
row_stays z e h s r k l ne on = refl

pub not_refilled : (z : Shape) (e : Event) (h : List Event) (p s : ℕ) → p < z.passes → IsLawful z (e ∷ h) → 0 < inside h p s → (q d : ℕ) → e ≢ Refilled q s d
not_refilled z e h p s few l in' q d is' =
    let f = (subst (λ x. IsLawful z (x ∷ h)) is' l).1.suits in let a = is_counted z h l.0 p s few in let b = f.2 in omega arith

pub no_refill : (z : Shape) (more h : List Event) (p s : ℕ) → p < z.passes → IsLawful z (more ++ h) → NoneBy p more → 0 < inside h p s → NoneRefills s more
no_refill z [] h p s few l n in' = tt
no_refill z (e ∷ more) h p s few l n in' = (not_refilled z e (more ++ h) p s few l (subst (λ x. 0 < x) (sym (quiet_inside more h p s n.1)) in'), no_refill z more h p s few l.0 n.1 in')

-- what a pass has read in a segment that it is in stays so
pub entered_row : (z : Shape) (more h : List Event) (p s r : ℕ) (k : List ℕ) → p < z.passes → IsLawful z (more ++ h)
    → NoneBy p more → 0 < inside h p s → (row_alone h s r).linked ≡ Some k
    → row_alone (more ++ h) s r ≡ row_alone h s r
entered_row z [] h p s r k few l n in' on = refl
entered_row z (e ∷ more) h p s r k few l n in' on = let i = entered_row z more h p s r k few l.0 n.1 in' on in
    row_stays z e (more ++ h) s r k l (not_refilled z e (more ++ h) p s few l (subst (λ x. 0 < x) (sym (quiet_inside more h p s n.1)) in')) (ap (λ u. u.linked) i ∙ on) ∙ i

-- at a refilling no pass is in the segment
pub none_in : (z : Shape) (more h : List Event) (q p s d : ℕ) → p < z.passes → IsLawful z (more ++ (Refilled q s d ∷ h)) → inside h p s ≡ 0
none_in z [] h q p s d few l = let a = is_counted z h l.0 p s few in let b = l.1.suits.2 in omega arith
none_in z (e ∷ more) h q p s d few l = none_in z more h q p s d few l.0
