-- Points of one trace: which begins which, and what a longer one keeps.
use Rattle.std.proofs.Common.{◌≡◌, ℕ, List, [], ◌∷◌, ◌++◌, Option, Some, None, sym, refl, ap, ◌∙◌, subst, inl, inr, append_assoc}
use Rattle.segword.specs.Words.{Shape}
use Rattle.segmodel.specs.Words.{AreOne, Begins, Entry}
use Rattle.segcore.specs.Words.{Event}
use Rattle.segcore.specs.declared.event.Event.TheVariants.{Replied, Linked, Relinked, Unlinked, Drew, Chained, Bumped, Entered, Left, Refilled}
use Rattle.segcore.specs.Event.{entry_of, with_entry, seen, NoneBy}
use Rattle.segcore.specs.Lawful.{IsLawful}
use Rattle.segcore.specs.Mark.{Mark, marks_of, marked}

pub begins_on : {A : Type 0} (h g f : List A) → Begins h g → Begins g f → Begins h f
begins_on h g f a b = (b.0 ++ a.0, b.1 ∙ (ap (λ x. b.0 ++ x) a.1 ∙ sym (append_assoc b.0 a.0 h)))

same_tail : {A : Type 0} (x y : A) (xs ys : List A) → x ∷ xs ≡ y ∷ ys → xs ≡ ys
same_tail x y xs ys e = cc

-- of two ends of one list, one ends the other
pub two_ends : {A : Type 0} (xs ys a b : List A) → xs ++ a ≡ ys ++ b → AreOne a b
two_ends [] ys a b e = inr (ys, e)
two_ends (x ∷ xs) [] a b e = inl (x ∷ xs, sym e)
two_ends (x ∷ xs) (y ∷ ys) a b e = two_ends xs ys a b (same_tail x y (xs ++ a) (ys ++ b) e)

pub lawful_before : (z : Shape) (more h : List Event) → IsLawful z (more ++ h) → IsLawful z h
lawful_before z [] h l = l
lawful_before z (e ∷ more) h l = lawful_before z more h l.0

pub none_both : (p : ℕ) (xs ys : List Event) → NoneBy p xs → NoneBy p ys → NoneBy p (xs ++ ys)
none_both p [] ys a b = b
none_both p (e ∷ xs) ys a b = (a.0, none_both p xs ys a.1 b)

-- ---- what a longer trace comes to

marks_begin : (e : Event) (m : List Mark) → Begins m (marks_of e m)
marks_begin (Replied p q y) m = (_ ∷ [], refl)
marks_begin (Linked p q s r n) m = (_ ∷ _ ∷ [], refl)
marks_begin (Relinked p k a i s r n) m = (_ ∷ _ ∷ [], refl)
marks_begin (Unlinked p k n why) m = (_ ∷ [], refl)
marks_begin (Refilled p s d) m = (_ ∷ [], refl)
marks_begin (Drew p b d n) m = (_ ∷ [], refl)
marks_begin (Chained p b n) m = (_ ∷ [], refl)
marks_begin (Bumped p s r f) m = (_ ∷ [], refl)
marks_begin (Entered p s) m = (_ ∷ [], refl)
marks_begin (Left p s) m = (_ ∷ [], refl)
marks_begin e m = ([], refl)

marked_more : (more h : List Event) → Begins (marked h) (marked (more ++ h))
marked_more [] h = ([], refl)
marked_more (e ∷ more) h = begins_on (marked h) (marked (more ++ h)) (marked (e ∷ (more ++ h))) (marked_more more h) (marks_begin e (marked (more ++ h)))

-- a marked history only grows
pub marked_begins : (h g : List Event) → Begins h g → Begins (marked h) (marked g)
marked_begins h g b = subst (λ x. Begins (marked h) (marked x)) (sym b.1) (marked_more b.0 h)

entry_begins : (o : Option Entry) (h : List Entry) → Begins h (with_entry o h)
entry_begins None h = ([], refl)
entry_begins (Some e) h = (e ∷ [], refl)

seen_more : (more h : List Event) → Begins (seen h) (seen (more ++ h))
seen_more [] h = ([], refl)
seen_more (e ∷ more) h = begins_on (seen h) (seen (more ++ h)) (seen (e ∷ (more ++ h))) (seen_more more h) (entry_begins (entry_of e) (seen (more ++ h)))

-- and so does the history without its marks
pub seen_begins : (h g : List Event) → Begins h g → Begins (seen h) (seen g)
seen_begins h g b = subst (λ x. Begins (seen h) (seen x)) (sym b.1) (seen_more b.0 h)
