-- What a step leaves of the words: one changes, or none. Each kind of step is shown by these.
use Rattle.std.proofs.Common.{◌≡◌, ℕ, zero, suc, ◌+◌, ◌*◌, ◌<◌, cond, List, [], ◌∷◌, ◌++◌, Option, Some, None, sym, refl, ap, ◌∙◌, ⊎_elim, arith}
use Rattle.std.proofs.lemmas.Bool.{cases_Bool}
use Rattle.segword.specs.Words.{Shape}
use Rattle.segcore.specs.Bucket.{Bucket, bucket_after}
use Rattle.segcore.specs.Event.{AllBy}
use Rattle.segcore.specs.Kind.{Step, cell, becomes, adds, KeepsLaw}
use Rattle.segcore.specs.Lawful.{IsLawful}
use Rattle.segcore.specs.Overflow.{Home, home_of}
use Rattle.segcore.specs.Word.{IsCell, same_cell, content_word, word_in, overflow_word, word, IsAt}
use Rattle.segcore.specs.Words.{Cell, Event}
use Rattle.segcore.specs.declared.cell.Cell.TheVariants.{OfCounter, OfBucket, OfOverflow, OfSegment, OfRow}
use Rattle.segcore.proofs.Addresses.{same_place}
use Rattle.segcore.proofs.Quiet.{home_drawn}
use Rattle.segcore.proofs.Cells.{Elsewhere}
use Rattle.segcore.proofs.Limits.{drawn_few}

pub made : (z : Shape) (st : Step) (p : ℕ) (h es : List Event) (x : ℕ) → adds st p (word z h (cell st)) ≡ es
    → becomes st (word z h (cell st)) ≡ x → IsCell z (cell st) → AllBy p es → IsLawful z (es ++ h)
    → ((c : Cell) → IsCell z c → word z (es ++ h) c ≡ cond (same_cell (cell st) c) x (word z h c))
    → KeepsLaw z st p h
made z st p h es x e f i a l w = record { inside = i; own = rw e a; legal = rw e l; words = rw (e, f) w }

-- a step that leaves its word alone
pub unchanged : (z : Shape) (h : List Event) (d : Cell) (x : ℕ) → x ≡ word z h d → (c : Cell)
    → word z h c ≡ cond (same_cell d c) x (word z h c)
unchanged z h d x e c = ⊎_elim (λ t. rw t (ap (word z h) (sym (same_place d c t)) ∙ sym e)) (λ f. rw f refl) (cases_Bool (same_cell d c))

pub nothing_new : (z : Shape) (st : Step) (p : ℕ) (h : List Event) → adds st p (word z h (cell st)) ≡ []
    → becomes st (word z h (cell st)) ≡ word z h (cell st) → IsCell z (cell st) → IsLawful z h → KeepsLaw z st p h
nothing_new z st p h e f i l = made z st p h [] (word z h (cell st)) e f i tt l (λ d _. unchanged z h (cell st) (word z h (cell st)) refl d)

-- an event that changes no word of a chain
pub over_still : (z : Shape) (h : List Event) (e : Event)
    → ((b n : ℕ) → word_in z (e ∷ h) (bucket_after z (e ∷ h) b) n ≡ word_in z h (bucket_after z h b) n)
    → (w : ℕ) (o : Option Home) → overflow_word z (e ∷ h) w o ≡ overflow_word z h w o
over_still z h e f w None = refl
over_still z h e f w (Some x) = f x.bucket (8 * x.depth + w)

pub still : (z : Shape) (h : List Event) (e : Event) → Elsewhere z h e
    → ((b n : ℕ) → word_in z (e ∷ h) (bucket_after z (e ∷ h) b) n ≡ word_in z h (bucket_after z h b) n)
    → (c : Cell) → word z (e ∷ h) c ≡ word z h c
still z h e s f OfCounter = s.drawn
still z h e s f (OfBucket b w) = f b w
still z h e s f (OfOverflow m w) = ap (overflow_word z (e ∷ h) w) (s.homes m) ∙ over_still z h e f w (home_of h m)
still z h e s f (OfSegment t) = s.segments t
still z h e s f (OfRow t r j) = s.rows t r j

pub word_content : (z : Shape) (h : List Event) (u : Bucket) (n : ℕ) → 0 < n
    → word_in z h u n ≡ content_word h (u.items n)
word_content z h u zero lt = absurd (omega arith)
word_content z h u (suc n) lt = refl

pub cell_in : (z : Shape) (h : List Event) (b n : ℕ) (c : Cell) → IsLawful z h → b < z.buckets → IsAt h b n c
    → IsCell z c
cell_in z h b n (OfBucket a w) l lt i = (rw i.0 lt, i.2)
cell_in z h b n (OfOverflow m w) l lt i = (let a = home_drawn z h m _ l i.1 in let d = drawn_few z h l in omega arith, i.3)
cell_in z h b n OfCounter l lt i = absurd i
cell_in z h b n (OfSegment s) l lt i = absurd i
cell_in z h b n (OfRow s r j) l lt i = absurd i
