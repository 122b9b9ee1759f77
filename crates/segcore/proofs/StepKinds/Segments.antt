-- The steps on the word of a segment: enter, leave, none_reading.
use Rattle.std.proofs.Common.{◌≡◌, ℕ, ◌+◌, ◌-◌, ◌*◌, ◌^◌, ◌<◌, Bool, true, false, cond, eqb, List, [], ◌∷◌, None, sym, refl, ap, ◌∙◌, ⊎_elim, arith, subst}
use Rattle.std.proofs.lemmas.Bool.{cases_Bool, cond-true, cond-false, eqb-true}
use Rattle.segword.specs.Words.{IsValid, Shape}
use Rattle.segcore.specs.Bucket.{bucket_after}
use Rattle.segcore.specs.Event.{seen}
use Rattle.segcore.specs.Kind.{enter, leave, none_reading, KeepsLaw}
use Rattle.segcore.specs.Lawful.{Fits, IsLawful}
use Rattle.segcore.specs.Overflow.{drawn_in, home_of}
use Rattle.segcore.specs.Row.{Row, row_after, row_alone}
use Rattle.segcore.specs.Segment.{readers, deadline_of}
use Rattle.segcore.specs.Word.{same_cell, segment_word, word_in, overflow_word, word}
use Rattle.segmodel.specs.Words.{after, NoneStandsIn, owner}
use Rattle.segcore.specs.Words.{Cell, Event}
use Rattle.segcore.specs.declared.event.Event.TheVariants.{Entered, Left, Refilled}
use Rattle.segcore.specs.declared.cell.Cell.TheVariants.{OfCounter, OfBucket, OfOverflow, OfSegment, OfRow}
use Rattle.segcore.proofs.StepKinds.Items.{either_hit, either_miss}
use Rattle.segcore.proofs.Readers.{counted, is_counted}
use Rattle.segcore.proofs.Limits.{few_passes}
use Rattle.segcore.proofs.Deadlines.{low_deadline}
use Rattle.segcore.proofs.Spans.{same_words_after}
use Rattle.segcore.proofs.StepKinds.Words.{made, nothing_new, over_still}

-- an event that changes the word of its segment alone
of_segment : (z : Shape) (h : List Event) (e : Event) (s x : ℕ)
    → ((m : ℕ) → home_of (e ∷ h) m ≡ home_of h m) → (drawn_in (e ∷ h) ≡ drawn_in h)
    → ((b n : ℕ) → word_in z (e ∷ h) (bucket_after z (e ∷ h) b) n ≡ word_in z h (bucket_after z h b) n)
    → ((t r j : ℕ) → (row_after (e ∷ h) t r).words j ≡ (row_after h t r).words j)
    → ((t : ℕ) → segment_word (e ∷ h) t ≡ cond (eqb s t) x (segment_word h t))
    → (c : Cell) → word z (e ∷ h) c ≡ cond (same_cell (OfSegment s) c) x (word z h c)
of_segment z h e s x k d b r w OfCounter = d
of_segment z h e s x k d b r w (OfBucket a m) = b a m
of_segment z h e s x k d b r w (OfOverflow m n) = ap (overflow_word z (e ∷ h) n) (k m) ∙ over_still z h e b n (home_of h m)
of_segment z h e s x k d b r w (OfRow t q j) = r t q j
of_segment z h e s x k d b r w (OfSegment t) = w t

unlinked_words : (t : Bool) (u : Row) (j : ℕ) → (cond t (record u { linked = None }) u).words j ≡ u.words j
unlinked_words true u j = refl
unlinked_words false u j = refl

-- of the segment's word the lower half changes
lower_half : (s t : ℕ) (old new deadlines : ℕ → ℕ) (f : ℕ → ℕ) → ((t : ℕ) → new t ≡ cond (eqb s t) (f (old t)) (old t))
    → deadlines t * 2 ^ 32 + new t ≡ cond (eqb s t) (deadlines s * 2 ^ 32 + f (old s)) (deadlines t * 2 ^ 32 + old t)
lower_half s t old new deadlines f changes = ap (λ x. deadlines t * 2 ^ 32 + x) (changes t) ∙ ⊎_elim
    (λ y. rw y (ap (λ q. deadlines q * 2 ^ 32 + f (old q)) (sym (eqb-true s t y))))
    (λ n. rw n refl)
    (cases_Bool (eqb s t))

pub enter_at : (z : Shape) (p s : ℕ) (h : List Event) → IsValid z → Fits z h (Entered p s) → IsLawful z h
    → KeepsLaw z (enter s) p h
enter_at z p s h v f l = let few = few_passes z v in let c = counted z h l s in let low = low_deadline z h l s in
    made z (enter s) p h (Entered p s ∷ []) (deadline_of h s * 2 ^ 32 + (readers h s + 1)) refl (omega arith) f.suits.1 (refl, tt) (l, f)
    (λ d _. of_segment z h (Entered p s) s (deadline_of h s * 2 ^ 32 + (readers h s + 1)) (λ m. refl) refl (λ b n. refl) (λ t r j. refl)
    (λ t. lower_half s t (readers h) (readers (Entered p s ∷ h)) (deadline_of h) (λ n. n + 1) (λ q. refl)) d)

pub leave_at : (z : Shape) (p s : ℕ) (h : List Event) → IsValid z → Fits z h (Left p s) → IsLawful z h
    → KeepsLaw z (leave s) p h
leave_at z p s h v f l =
    let few = few_passes z v in let c = counted z h l s in let low = low_deadline z h l s in let a = is_counted z h l p s f.suits.0 in let b = f.suits.2 in
    made z (leave s) p h (Left p s ∷ []) (deadline_of h s * 2 ^ 32 + (readers h s - 1)) refl (omega arith) f.suits.1 (refl, tt) (l, f)
    (λ d _. of_segment z h (Left p s) s (deadline_of h s * 2 ^ 32 + (readers h s - 1)) (λ m. refl) refl (λ b n. refl) (λ t r j. refl)
    (λ t. lower_half s t (readers h) (readers (Left p s ∷ h)) (deadline_of h) (λ n. n - 1) (λ q. refl)) d)

-- no reader is counted in a word that is a deadline alone
no_reader : (d n old : ℕ) → n < 2 ^ 32 → d * 2 ^ 32 + n ≡ old * 2 ^ 32 → n ≡ 0
no_reader d n old lt e = omega arith

pub none_at : (z : Shape) (p s old d : ℕ) (h : List Event) → IsValid z → s < z.passes * z.segments_each → owner z s ≡ p → d < 2 ^ 32
    → NoneStandsIn (after z (seen h)) s → IsLawful z h → KeepsLaw z (none_reading s old d) p h
none_at z p s old d h v lt own small none l = let few = few_passes z v in let c = counted z h l s in let found = segment_word h s in ⊎_elim
    (λ y. let e = no_reader (deadline_of h s) (readers h s) old (omega arith) (eqb-true found (old * 2 ^ 32) y) in
    made z (none_reading s old d) p h (Refilled p s d ∷ []) (d * 2 ^ 32) (cond-true (eqb found (old * 2 ^ 32)) (Refilled p s d ∷ []) [] y)
    (either_hit found (old * 2 ^ 32) (d * 2 ^ 32) y) lt (refl, tt)
    (l, record { guarded = tt; follows = (none, own); suits = (lt, own, e, small) })
    (λ c' _. of_segment z h (Refilled p s d) s (d * 2 ^ 32) (λ m. refl) refl (λ b n. refl)
    (λ t r j. same_words_after h (Refilled p s d ∷ h) t r (λ i x. unlinked_words (eqb s t) (row_alone h t i) x) j) (words e) c'))
    (λ n. nothing_new z (none_reading s old d) p h (cond-false (eqb found (old * 2 ^ 32)) (Refilled p s d ∷ []) [] n)
    (either_miss found (old * 2 ^ 32) (d * 2 ^ 32) n) lt l)
    (cases_Bool (eqb found (old * 2 ^ 32)))
  where
    words : readers h s ≡ 0 → (t : ℕ) → cond (eqb s t) d (deadline_of h t) * 2 ^ 32 + readers h t ≡ cond (eqb s t) (d * 2 ^ 32) (segment_word h t)
    words e t = ⊎_elim
        (λ y. let none : readers h t ≡ 0 = subst (λ q. readers h q ≡ 0) (eqb-true s t y) e in rw y (omega arith))
        (λ n. rw n refl)
        (cases_Bool (eqb s t))
