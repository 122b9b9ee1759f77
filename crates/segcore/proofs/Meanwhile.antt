-- What others leave alone, put together.
use Rattle.std.proofs.Common.{◌≡◌, ◌≢◌, ℕ, ◌+◌, ◌<◌, ◌≤◌, eqb, ◌&&◌, List, [], ◌∷◌, ◌++◌, Some, sym, refl, ap, ◌∙◌, subst, ⊎_elim, append_assoc, arith}
use Rattle.std.proofs.lemmas.Bool.{cases_Bool, cond-false, ne_eqb, eqb-true, and_parts}
use Rattle.std.proofs.lemmas.Option.{none-some}
use Rattle.segcore.specs.Bucket.{Slot, item, bucket_after}
use Rattle.segcore.specs.Row.{row_after, frequency_of}
use Rattle.segcore.proofs.Standing.{coherent}
use Rattle.segword.specs.Words.{Shape}
use Rattle.segcore.specs.Words.{Event, View}
use Rattle.segcore.specs.declared.event.Event.TheVariants.{Linked, Relinked, Bumped, Refilled}
use Rattle.segcore.specs.Event.{seen, NoneBy}
use Rattle.segcore.specs.Segment.{refills, NoneRefills, deadline_of}
use Rattle.segcore.specs.Lawful.{IsLawful}
use Rattle.segcore.specs.Word.{bucket_info_word, word}
use Rattle.segcore.specs.Kind.{Step, info_look, row_load, cell, adds, May}
use Rattle.segmodel.specs.Words.{Begins}
use Rattle.segcore.specs.Mark.{marked}
use Rattle.segcore.specs.World.{Told}
use Rattle.segcore.specs.Count.{CountsStep}
use Rattle.segcore.specs.Meanwhile.{FindsKnown, Meanwhile}
use Rattle.segcore.proofs.Moments.{lawful_before, seen_begins, marked_begins}
use Rattle.segcore.proofs.Quiet.{own_deadline, quiet, quiet_none, quiet_at, linked_first, moved_first, quiet_inside, not_mine, later}
use Rattle.segcore.proofs.Spans.{first_words}
use Rattle.segcore.proofs.Entered.{no_refill}
use Rattle.segcore.proofs.Readers.{empty_stays}
use Rattle.segcore.proofs.Segments.{is_pass}
use Rattle.segcore.proofs.Readable.{read_row, may_read}
use Rattle.segcore.proofs.Counts.{mine_others, count_others, counted}

refilled_event : (e : Event) (h : List Event) (s : ℕ) → ((q d : ℕ) → e ≢ Refilled q s d) → refills (e ∷ h) s ≡ refills h s
refilled_event (Refilled q t d) h s ne = cond-false (eqb t s) (refills h s + 1) (refills h s) (ne_eqb t s (λ e. ne q d (ap (λ x. Refilled q x d) e)))
refilled_event e h s ne = refl

pub same_refills : (more h : List Event) (s : ℕ) → NoneRefills s more → refills (more ++ h) s ≡ refills h s
same_refills [] h s n = refl
same_refills (e ∷ more) h s n = refilled_event e (more ++ h) s n.0 ∙ same_refills more h s n.1

deadline_event : (e : Event) (h : List Event) (s : ℕ) → ((q d : ℕ) → e ≢ Refilled q s d) → deadline_of (e ∷ h) s ≡ deadline_of h s
deadline_event (Refilled q t d) h s ne = cond-false (eqb t s) d (deadline_of h s) (ne_eqb t s (λ e. ne q d (ap (λ x. Refilled q x d) e)))
deadline_event e h s ne = refl

pub same_deadline : (more h : List Event) (s : ℕ) → NoneRefills s more → deadline_of (more ++ h) s ≡ deadline_of h s
same_deadline [] h s n = refl
same_deadline (e ∷ more) h s n = deadline_event e (more ++ h) s n.0 ∙ same_deadline more h s n.1

-- an event leaves the frequency of a linked row, or raises it
pub one_rise : (z : Shape) (e : Event) (h : List Event) (s r : ℕ) (k : List ℕ) → IsLawful z (e ∷ h) → (row_after h s r).linked ≡ Some k → frequency_of h s r ≤ frequency_of (e ∷ h) s r
one_rise z (Linked p q t i n) h s r k l on = ⊎_elim
    (λ y. let w = and_parts (eqb t s) (eqb i r) y in
    absurd (none-some k (sym (linked_first z h p q t i n l.1.suits).3 ∙ ((λ j. (row_after h (eqb-true t s w.0 j) (eqb-true i r w.1 j)).linked) ∙ on))))
    (λ f. rw f (omega arith))
    (cases_Bool (eqb t s && eqb i r))
one_rise z (Relinked p q a b t i n) h s r k l on = ⊎_elim
    (λ y. let w = and_parts (eqb t s) (eqb i r) y in
    absurd (none-some k (sym (moved_first z h p q a b t i n l.1.suits).3 ∙ ((λ j. (row_after h (eqb-true t s w.0 j) (eqb-true i r w.1 j)).linked) ∙ on))))
    (λ f. rw f (omega arith))
    (cases_Bool (eqb t s && eqb i r))
one_rise z (Bumped p t i f) h s r k l on = ⊎_elim
    (λ y. let w = and_parts (eqb t s) (eqb i r) y in
    let up : frequency_of h s r < f = subst (λ x. frequency_of h s x < f) (eqb-true i r w.1) (subst (λ x. frequency_of h x i < f) (eqb-true t s w.0) l.1.suits.0) in rw y (omega arith))
    (λ g. rw g (omega arith))
    (cases_Bool (eqb t s && eqb i r))
one_rise z e h s r k l on = omega arith

rise : (z : Shape) (more h : List Event) (p b n : ℕ) (a : Slot) → IsLawful z (more ++ h) → NoneBy p more
    → (bucket_after z h b).holder ≡ Some p → (bucket_after z h b).items n ≡ item a
    → frequency_of h a.segment a.row ≤ frequency_of (more ++ h) a.segment a.row
rise z [] h p b n a l none held is' = omega arith
rise z (e ∷ more) h p b n a l none held is' =
    let before = rise z more h p b n a l.0 none.1 held is' in
    let there = (coherent z (more ++ h) l.0).items b n a (ap (λ u. u.items n) (quiet z more h p b l.0 none.1 held) ∙ is') in
    let one = one_rise z e (more ++ h) a.segment a.row a.key l there.linked in omega arith

known_word : (z : Shape) (p : ℕ) (more h : List Event) → IsLawful z (more ++ h) → NoneBy p more → (step : Step)
    → FindsKnown step → May z h p step → word z (more ++ h) (cell step) ≡ word z h (cell step)
known_word z p more h l n (info_look b) is may = ap (bucket_info_word z) (quiet z more h p b l n may.1)
known_word z p more h l n (row_load s r j) is may =
    first_words (more ++ h) s r j may.2 ∙ ap (λ u. u.words j) (read_row z more h p s r l n may.3) ∙ sym (first_words h s r j may.2)
known_word z p more h l n _ is may = absurd is

pub meanwhile : (z : Shape) (p : ℕ) (more h : List Event) → IsLawful z (more ++ h) → NoneBy p more → Meanwhile z p more h
meanwhile z p more h l n = let early = lawful_before z more h l in record {
  untouched = λ b has. quiet_none z more h p b l n has.1;
  buckets = λ b has. quiet z more h p b l n has.1;
  keys = λ k has. quiet_at z more h p k l n has.1;
  rises = λ b k a has is'. rise z more h p b k a l n has.1 is';
  bits = λ b ne. not_mine z more h p b n ne;
  readable = λ s r may. (read_row z more h p s r l n may, may_read z more h p s r l n may);
  known = known_word z p more h l n;
  none_stands = λ s own none. empty_stays z more h s l (subst (λ x. NoneBy x more) (sym own) n) none;
  stays = λ s. quiet_inside more h p s n;
  not_refilled = λ s there. no_refill z more h p s (is_pass z h p s early there) l n there;
  filling = λ s there. same_refills more h s (no_refill z more h p s (is_pass z h p s early there) l n there);
  deadlines = λ s there. same_deadline more h s (no_refill z more h p s (is_pass z h p s early there) l n there);
  own_deadlines = λ s own. own_deadline z more h s l (subst (λ x. NoneBy x more) (sym own) n);
  entries = mine_others p more h n;
  counts = λ what. count_others what p more h n;
  fits = λ e own now f. later z more h e l (subst (λ x. NoneBy x more) (sym own) n) now f;
}

-- what a step that was told leaves of its pass's counts
pub told_counts : (z : Shape) (step : Step) (found : ℕ) (v w : View) → Told z step found v w → CountsStep step v.number found v.trace w.trace
told_counts z step found v w t = subst (λ (x : View). CountsStep step v.number found v.trace x.trace) (sym t.now) (counted step v.number found t.more v.trace t.others)

pub told_more : (z : Shape) (step : Step) (found : ℕ) (v w : View) → Told z step found v w → Begins v.trace w.trace
told_more z step found v w t = (adds step v.number found ++ t.more, ap (λ (x : View). x.trace) t.now ∙ sym (append_assoc (adds step v.number found) t.more v.trace))

-- what the pass has seen only grew
pub told_grows : (z : Shape) (step : Step) (found : ℕ) (v w : View) → Told z step found v w → Begins v.trace w.trace × Begins (seen v.trace) (seen w.trace) × Begins (marked v.trace) (marked w.trace)
told_grows z step found v w t = let b = told_more z step found v w t in (b, seen_begins v.trace w.trace b, marked_begins v.trace w.trace b)
