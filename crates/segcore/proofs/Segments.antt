-- What a lawful trace says of segments: nobody is in one that is refilled, and its linked rows keep their pairs.
use Rattle.std.proofs.Common.{◌≡◌, ℕ, ◌<◌, ◌≤◌, ◌+◌, true, eqb, ◌&&◌, List, [], ◌∷◌, ◌++◌, Some, sym, refl, ap, ◌∙◌, subst, ⊎_elim, arith}
use Rattle.std.proofs.lemmas.Bool.{cond-true, cond-false, cases_lt, and_parts, eqb-true, false_from_ne_true}
use Rattle.std.proofs.lemmas.Option.{none-some}
use Rattle.segword.specs.Words.{covers, IsValid, Shape, span_of_header}
use Rattle.segmodel.specs.declared.request.Reply.TheVariants.{Stored}
use Rattle.segmodel.specs.Words.{key_of, Request, value_of}
use Rattle.segcore.specs.Words.{Event}
use Rattle.segcore.specs.declared.event.Event.TheVariants.{Linked, Relinked, Entered, Left, Refilled}
use Rattle.segcore.specs.Event.{seen}
use Rattle.segcore.specs.Row.{Row, row_after, row_alone}
use Rattle.segcore.specs.Segment.{inside, NoneRefills}
use Rattle.segcore.specs.Lawful.{IsLawful}
use Rattle.segcore.specs.Standing.{cached}
use Rattle.segcore.specs.Mark.{all_left, marked, same_key}
use Rattle.segcore.specs.Facts.{NoneLinks, IsKeptRow, SegmentFacts}
use Rattle.segcore.proofs.Deadlines.{deadline_seen, word_parts}
use Rattle.segcore.proofs.Keys.{same_true}
use Rattle.segcore.proofs.Caches.{stands, stands_wrote}
use Rattle.segcore.proofs.Moments.{lawful_before}
use Rattle.segcore.proofs.Orderly.{readers_marked, inside_marked}
use Rattle.segcore.proofs.Readers.{at_most, counted, some_reader}
use Rattle.segcore.proofs.Entered.{row_stays, none_in}
use Rattle.segcore.proofs.Quiet.{linked_first, moved_first}
use Rattle.segcore.proofs.Spans.{first_words, same_after}
use Rattle.segcore.proofs.Standing.{coherent, link_words, move_words, now_linked, now_moved, relinks, row_itself}

-- a pass that isn't there is in no segment
pub strangers : (z : Shape) (h : List Event) (p s : ℕ) → IsLawful z h → z.passes ≤ p → inside h p s ≡ 0
strangers z [] p s l le = refl
strangers z (Entered q t ∷ h) p s l le = let lt = l.1.suits.0 in
    cond-false (eqb q p && eqb t s) _ (inside h p s)
    (false_from_ne_true (eqb q p && eqb t s) (λ y. let e = eqb-true q p (and_parts (eqb q p) (eqb t s) y).0 in
    omega arith)) ∙ strangers z h p s l.0 le
strangers z (Left q t ∷ h) p s l le = let lt = l.1.suits.0 in
    cond-false (eqb q p && eqb t s) _ (inside h p s)
    (false_from_ne_true (eqb q p && eqb t s) (λ y. let e = eqb-true q p (and_parts (eqb q p) (eqb t s) y).0 in
    omega arith)) ∙ strangers z h p s l.0 le
strangers z (e ∷ h) p s l le = strangers z h p s l.0 le

-- a pass that is in a segment is one of the passes
pub is_pass : (z : Shape) (h : List Event) (p s : ℕ) → IsLawful z h → 0 < inside h p s → p < z.passes
is_pass z h p s l there = ⊎_elim (λ lt. lt) (λ le. let e = strangers z h p s l le in absurd (omega arith)) (cases_lt p z.passes)

pub none_inside : (z : Shape) (more h : List Event) (q p s d : ℕ) → IsLawful z (more ++ (Refilled q s d ∷ h)) → inside h p s ≡ 0
none_inside z more h q p s d l = ⊎_elim (λ few. none_in z more h q p s d few l) (λ le. strangers z h p s (lawful_before z more (Refilled q s d ∷ h) l).0 le) (cases_lt p z.passes)

-- ---- rows

-- a row stays linked to its key, with its words, until its segment is refilled; and no other link names it
pub row_since : (z : Shape) (more h : List Event) (s r : ℕ) (k : List ℕ) → IsLawful z (more ++ h) → NoneRefills s more → (row_alone h s r).linked ≡ Some k → row_alone (more ++ h) s r ≡ row_alone h s r
row_since z [] h s r k l n on = refl
row_since z (e ∷ more) h s r k l n on = let i = row_since z more h s r k l.0 n.1 on in row_stays z e (more ++ h) s r k l n.0 (ap (λ u. u.linked) i ∙ on) ∙ i

-- and so does an item whose rows are all linked to its key
item_since : (z : Shape) (more h : List Event) (s r : ℕ) (k : List ℕ) → IsLawful z (more ++ h) → NoneRefills s more
    → ((i : ℕ) → covers r (span_of_header ((row_alone h s r).words 0)) i ≡ true → (row_alone h s i).linked ≡ Some k)
    → row_after (more ++ h) s r ≡ row_after h s r
item_since z more h s r k l n on = same_after h (more ++ h) s r (λ i c. row_since z more h s i k l n (on i c))

none_links : (z : Shape) (more h : List Event) (s r : ℕ) (k : List ℕ) → IsLawful z (more ++ h) → NoneRefills s more → (row_alone h s r).linked ≡ Some k → NoneLinks s r more
none_links z [] h s r k l n on = tt
none_links z (e ∷ more) h s r k l n on = let still = ap (λ (u : Row). u.linked) (row_since z more h s r k l.0 n.1 on) ∙ on in (
  (λ p pos q is'. none-some k (sym (linked_first z (more ++ h) p q s r pos (subst (λ x. IsLawful z (x ∷ (more ++ h))) is' l).1.suits).3 ∙ still)),
  (λ p a b pos q is'. none-some k (sym (moved_first z (more ++ h) p q a b s r pos (subst (λ x. IsLawful z (x ∷ (more ++ h))) is' l).1.suits).3 ∙ still)),
  none_links z more h s r k l.0 n.1 on,
)

-- the first word of a row by itself, where that of the item is as before
alone_words : (h : List Event) (e : Event) (s r : ℕ) → (row_after (e ∷ h) s r).words 0 ≡ (row_after h s r).words 0 → (row_alone (e ∷ h) s r).words 0 ≡ (row_alone h s r).words 0
alone_words h e s r same = sym (first_words (e ∷ h) s r 0 (omega arith)) ∙ same ∙ first_words h s r 0 (omega arith)

kept_row : (z : Shape) (more h : List Event) (p : ℕ) (q : Request) (s r n : ℕ)
    → IsLawful z (more ++ (Linked p q s r n ∷ h)) → NoneRefills s more
    → IsKeptRow z (more ++ (Linked p q s r n ∷ h)) more (Linked p q s r n ∷ h) (key_of q) (value_of q) s r
kept_row z more h p q s r n l none =
    let e = Linked p q s r n in let k = key_of q in
    let on : (i : ℕ) → covers r (span_of_header ((row_alone (e ∷ h) s r).words 0)) i ≡ true → (row_alone (e ∷ h) s i).linked ≡ Some k =
    λ i c. now_linked h p q s r n i (subst (λ w. covers r (span_of_header w) i ≡ true) (alone_words h e s r (link_words h p q s r n s r 0)) c) in
    record {
      once = none_links z more (e ∷ h) s r k l none (now_linked h p q s r n r (row_itself h s r));
      holds = λ j lt. ap (λ (u : Row). u.words j) (item_since z more (e ∷ h) s r k l none on) ∙ link_words h p q s r n s r j ∙ (lawful_before z more (e ∷ h) l).1.suits.1 j lt;
      stood = stands_wrote z p q Stored (Some s) (seen h) k ∙ cond-true (same_key k k) (Some (cached (value_of q) s)) (stands z (seen h) k) (same_true k k refl);
    }

moved_row : (z : Shape) (more h : List Event) (p : ℕ) (k : List ℕ) (a i s r n : ℕ) → IsLawful z (more ++ (Relinked p k a i s r n ∷ h)) → NoneRefills s more
    → (value : List ℕ) × IsKeptRow z (more ++ (Relinked p k a i s r n ∷ h)) more (Relinked p k a i s r n ∷ h) k value s r
moved_row z more h p k a i s r n l none =
    let e = Relinked p k a i s r n in
    let early = lawful_before z more (e ∷ h) l in
    let u = early.1.suits in
    let on : (x : ℕ) → covers r (span_of_header ((row_alone (e ∷ h) s r).words 0)) x ≡ true → (row_alone (e ∷ h) s x).linked ≡ Some k =
    λ x c. now_moved h p k a i s r n x (subst (λ w. covers r (span_of_header w) x ≡ true) (alone_words h e s r (move_words h p k a i s r n s r 0)) c) in
    let put = relinks z h p k a i s r n u (coherent z h early.0) in (
      u.1.0,
      record {
        once = none_links z more (e ∷ h) s r k l none (now_moved h p k a i s r n r (row_itself h s r));
        holds = λ j lt. ap (λ (u : Row). u.words j) (item_since z more (e ∷ h) s r k l none on) ∙ move_words h p k a i s r n s r j ∙ u.1.2 j lt;
        stood = put.keys k ∙ cond-true (same_key k k) (Some (cached u.1.0 s)) (stands z (seen h) k) (same_true k k refl);
      },
    )

pub says_of_segments : (z : Shape) (h : List Event) → IsValid z → IsLawful z h → SegmentFacts z h
says_of_segments z h v l = record {
  deadlines = λ s. (word_parts z h s v l).0 ∙ sym (deadline_seen z h s);
  readers = λ s. ap (λ n. n + all_left (marked h) s) (word_parts z h s v l).1 ∙ readers_marked z h s l;
  marks = λ p s. inside_marked z h p s l;
  few = λ p s. at_most z h l p s;
  low = λ s. let c = counted z h l s in let w = (word_parts z h s v l).1 in omega arith;
  reader = λ s there. some_reader z h l s (subst (λ x. 0 < x) (word_parts z h s v l).1 there);
  refilled = λ more g q p s d is'. none_inside z more g q p s d (subst (IsLawful z) is' l);
  rows = λ more g p q s r n is' none. subst (λ x. IsKeptRow z x more (Linked p q s r n ∷ g) (key_of q) (value_of q) s r) (sym is') (kept_row z more g p q s r n (subst (IsLawful z) is' l) none);
  moved = λ more g p k a i s r n is' none. let w = moved_row z more g p k a i s r n (subst (IsLawful z) is' l) none in
      (w.0, subst (λ x. IsKeptRow z x more (Relinked p k a i s r n ∷ g) k w.0 s r) (sym is') w.1);
}
