-- What a lawful trace's marks count is what its events do: readers, rows, frequencies and drawn buckets; and they come in order.
use Rattle.std.proofs.Common.{◌≡◌, ℕ, ◌+◌, ◌<◌, ◌≤◌, Bool, true, false, cond, eqb, ◌&&◌, ◌||◌, List, [], ◌∷◌, Some, None, sym, refl, ap, ◌∙◌, subst, ⊎_elim, arith}
use Rattle.std.proofs.lemmas.Bool.{and_from, and_parts, cases_Bool, cond-false, cond-true, eqb-true, false≢true}
use Rattle.std.proofs.lemmas.Option.{none-some}
use Rattle.segword.specs.Words.{covers, Shape, span_of_header}
use Rattle.segmodel.specs.Words.{key_of}
use Rattle.segcore.specs.Words.{Event, Leaving}
use Rattle.segcore.specs.declared.event.Event.TheVariants.{Replied, Filled, Linked, Relinked, Unlinked, Drew, Chained, Bumped, Entered, Left, Refilled}
use Rattle.segcore.specs.Event.{removal}
use Rattle.segcore.specs.Overflow.{drawn_in}
use Rattle.segcore.specs.Row.{frequency_of, Row, row_alone, writes_row}
use Rattle.segcore.specs.Segment.{inside, readers, was_used}
use Rattle.segcore.specs.Lawful.{IsLawful}
use Rattle.segcore.specs.Mark.{Mark, enters, marked, all_drawn, all_entered, all_left, times_entered, times_left, is_segment_named, linked_in, frequency_in, IsOrderly}
use Rattle.segcore.specs.declared.event.Leaving.TheVariants.{Deletes, Evicts}
use Rattle.segcore.proofs.Quiet.{linked_first, moved_first, of_row}
use Rattle.segcore.proofs.Readers.{is_counted}
use Rattle.segcore.proofs.Spans.{covers-first, header_some}

pub all_drawn_marked : (h : List Event) → all_drawn (marked h) ≡ drawn_in h
all_drawn_marked [] = refl
all_drawn_marked (Drew p b d m ∷ h) = ap (λ n. n + 1) (all_drawn_marked h)
all_drawn_marked (e ∷ h) = all_drawn_marked h

pub frequency_marked : (h : List Event) (s r : ℕ) → frequency_in (marked h) s r ≡ frequency_of h s r
frequency_marked [] s r = refl
frequency_marked (Linked p q t i n ∷ h) s r = ap (cond (eqb t s && eqb i r) 1) (frequency_marked h s r)
frequency_marked (Relinked p k a b t i n ∷ h) s r = (λ j. cond (eqb t s && eqb i r) (frequency_marked h a b j) (frequency_marked h s r j))
frequency_marked (Bumped p t i f ∷ h) s r = ap (cond (eqb t s && eqb i r) f) (frequency_marked h s r)
frequency_marked (e ∷ h) s r = frequency_marked h s r

pub named_marked : (h : List Event) (s : ℕ) → is_segment_named (marked h) s ≡ was_used h s
named_marked [] s = refl
named_marked (Linked p q t i n ∷ h) s = ap (λ b. eqb t s || b) (named_marked h s)
named_marked (Relinked p k a b t i n ∷ h) s = ap (λ b. eqb t s || b) (named_marked h s)
named_marked (e ∷ h) s = named_marked h s

-- ---- rows

filled_cond : (t : Bool) (u v : Row) → v.linked ≡ u.linked → u.linked ≡ (cond t v u).linked
filled_cond true u v e = sym e
filled_cond false u v e = refl

removed_rows : (p : ℕ) (k : List ℕ) (why : Leaving) (h : List Mark) (s r : ℕ) → linked_in (enters (removal p k why) ∷ h) s r ≡ linked_in h s r
removed_rows p k (Deletes m) h s r = refl
removed_rows p k (Evicts t) h s r = refl

-- what is linked isn't unlinked, and what an item takes has its first row
never : {A : Type 0} (t : Bool) (u : Row) (k : List ℕ) → t ≡ true → (cond t (record u { linked = Some k }) u).linked ≡ None → A
never true u k e none = absurd (none-some k (sym none))
never false u k e none = absurd (false≢true e)

before : (t : Bool) (u : Row) (k : List ℕ) → (cond t (record u { linked = Some k }) u).linked ≡ None → u.linked ≡ None
before true u k none = absurd (none-some k (sym none))
before false u k none = none

first_of : (h : List Event) (s r t i : ℕ) → (eqb t s && eqb i r) ≡ true → (eqb t s && covers i (span_of_header ((row_alone h t i).words 0)) r) ≡ true
first_of h s r t i y = let q = and_parts (eqb t s) (eqb i r) y in let header = (row_alone h t i).words 0 in
    and_from (eqb t s) (covers i (span_of_header header) r) q.0
    (subst (λ x. covers i (span_of_header header) x ≡ true) (eqb-true i r q.1) (covers-first i (span_of_header header) (header_some header)))

-- a row that isn't linked isn't the first of an item either
pub unlinked_marked : (h : List Event) (s r : ℕ) → (row_alone h s r).linked ≡ None → linked_in (marked h) s r ≡ None
unlinked_marked [] s r none = refl
unlinked_marked (Linked p q t i n ∷ h) s r none = ⊎_elim
    (λ y. never (of_row h (Linked p q t i n) s r) (row_alone h s r) (key_of q) (first_of h s r t i y) none)
    (λ f. cond-false (eqb t s && eqb i r) (Some (key_of q)) (linked_in (marked h) s r) f
    ∙ unlinked_marked h s r (before (of_row h (Linked p q t i n) s r) (row_alone h s r) (key_of q) none))
    (cases_Bool (eqb t s && eqb i r))
unlinked_marked (Relinked p k a b t i n ∷ h) s r none = ⊎_elim
    (λ y. never (of_row h (Relinked p k a b t i n) s r) (row_alone h s r) k (first_of h s r t i y) none)
    (λ f. cond-false (eqb t s && eqb i r) (Some k) (linked_in (marked h) s r) f
    ∙ unlinked_marked h s r (before (of_row h (Relinked p k a b t i n) s r) (row_alone h s r) k none))
    (cases_Bool (eqb t s && eqb i r))
unlinked_marked (Refilled p t d ∷ h) s r none = ⊎_elim
    (λ y. cond-true (eqb t s) None (linked_in (marked h) s r) y)
    (λ f. cond-false (eqb t s) None (linked_in (marked h) s r) f ∙ unlinked_marked h s r
    (sym (ap (λ (u : Row). u.linked) (cond-false (eqb t s) (writes_row (Refilled p t d) (row_alone h s r)) (row_alone h s r) f)) ∙ none))
    (cases_Bool (eqb t s))
unlinked_marked (Filled p t i j w ∷ h) s r none = unlinked_marked h s r (filled_cond (eqb t s && eqb i r) (row_alone h s r) (writes_row (Filled p t i j w) (row_alone h s r)) refl ∙ none)
unlinked_marked (Unlinked p k n why ∷ h) s r none = removed_rows p k why (marked h) s r ∙ unlinked_marked h s r none
unlinked_marked (e ∷ h) s r none = unlinked_marked h s r none

-- ---- readers

pub readers_marked : (z : Shape) (h : List Event) (s : ℕ) → IsLawful z h → readers h s + all_left (marked h) s ≡ all_entered (marked h) s
readers_marked z [] s l = refl
readers_marked z (Entered p t ∷ h) s l = let i = readers_marked z h s l.0 in ⊎_elim (λ y. rw y (omega arith)) (λ f. rw f i) (cases_Bool (eqb t s))
readers_marked z (Left p t ∷ h) s l = let i = readers_marked z h s l.0 in ⊎_elim
    (λ y. let a : inside h p s ≤ readers h s = is_counted z h l.0 p s l.1.suits.0 in
    let b : 0 < inside h p s = subst (λ x. 0 < inside h p x) (eqb-true t s y) l.1.suits.2 in rw y (omega arith))
    (λ f. rw f i) (cases_Bool (eqb t s))
readers_marked z (e ∷ h) s l = readers_marked z h s l.0

pub inside_marked : (z : Shape) (h : List Event) (p s : ℕ) → IsLawful z h → inside h p s + times_left p (marked h) s ≡ times_entered p (marked h) s
inside_marked z [] p s l = refl
inside_marked z (Entered q t ∷ h) p s l = let i = inside_marked z h p s l.0 in ⊎_elim (λ y. rw y (omega arith)) (λ f. rw f i) (cases_Bool (eqb q p && eqb t s))
inside_marked z (Left q t ∷ h) p s l = let i = inside_marked z h p s l.0 in ⊎_elim
    (λ y. let w = and_parts (eqb q p) (eqb t s) y in let b : 0 < inside h p s = rw (← eqb-true q p w.0, ← eqb-true t s w.1) l.1.suits.2 in rw y (omega arith))
    (λ f. rw f i) (cases_Bool (eqb q p && eqb t s))
inside_marked z (e ∷ h) p s l = inside_marked z h p s l.0

-- ---- the order of the marks

removed_order : (p : ℕ) (k : List ℕ) (why : Leaving) (h : List Mark) → IsOrderly h → IsOrderly (enters (removal p k why) ∷ h)
removed_order p k (Deletes m) h i = (i, tt)
removed_order p k (Evicts s) h i = (i, tt)

pub orderly : (z : Shape) (h : List Event) → IsLawful z h → IsOrderly (marked h)
orderly z [] l = tt
orderly z (Replied p q y ∷ h) l = (orderly z h l.0, tt)
orderly z (Linked p q s r n ∷ h) l = ((orderly z h l.0, unlinked_marked h s r (linked_first z h p q s r n l.1.suits).3), tt)
orderly z (Relinked p k a b s r n ∷ h) l = ((orderly z h l.0, unlinked_marked h s r (moved_first z h p k a b s r n l.1.suits).3), tt)
orderly z (Unlinked p k n why ∷ h) l = removed_order p k why (marked h) (orderly z h l.0)
orderly z (Refilled p s d ∷ h) l = (orderly z h l.0, (let a = readers_marked z h s l.0 in let b = l.1.suits.2 in omega arith))
orderly z (Drew p b d m ∷ h) l = (orderly z h l.0, tt)
orderly z (Chained p b m ∷ h) l = (orderly z h l.0, tt)
orderly z (Bumped p s r f ∷ h) l = (orderly z h l.0, tt)
orderly z (Entered p s ∷ h) l = (orderly z h l.0, named_marked h s ∙ l.1.suits.3)
orderly z (Left p s ∷ h) l = (orderly z h l.0, tt)
orderly z (e ∷ h) l = orderly z h l.0
