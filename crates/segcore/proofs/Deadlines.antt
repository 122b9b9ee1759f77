-- The deadline of a segment: the trace and the cache agree on it, and the segment's word has it in its upper half.
use Rattle.std.proofs.Common.{◌≡◌, ℕ, ◌+◌, ◌*◌, ◌/◌, ◌%◌, ◌^◌, ◌<◌, eqb, List, [], ◌∷◌, ◌++◌, refl, sym, ap, ◌∙◌, ⊎_elim, arith}
use Rattle.std.proofs.lemmas.Bool.{cases_Bool, cond-false, ne_eqb}
use Rattle.segword.specs.Words.{IsValid, Shape}
use Rattle.segmodel.specs.Words.{after}
use Rattle.segcore.specs.Words.{Event}
use Rattle.segcore.specs.declared.event.Event.TheVariants.{Refilled}
use Rattle.segcore.specs.Event.{seen}
use Rattle.segcore.specs.Segment.{readers, deadline_of, NoneRefills}
use Rattle.segcore.specs.Lawful.{IsLawful}
use Rattle.segcore.specs.Word.{segment_word}
pub use Rattle.segcore.proofs.Quiet.{deadline_seen}
use Rattle.segcore.proofs.Readers.{counted}
use Rattle.segcore.proofs.Limits.{few_passes}

-- a segment that isn't refilled keeps its deadline
kept_deadline : (more h : List Event) (s : ℕ) → NoneRefills s more → deadline_of (more ++ h) s ≡ deadline_of h s
kept_deadline [] h s none = refl
kept_deadline (Refilled p t d ∷ more) h s none =
    cond-false (eqb t s) d (deadline_of (more ++ h) s) (ne_eqb t s (λ e. none.0 p d (ap (λ x. Refilled p x d) e))) ∙ kept_deadline more h s none.1
kept_deadline (e ∷ more) h s none = kept_deadline more h s none.1

pub same_deadline : (z : Shape) (more h : List Event) (s : ℕ) → NoneRefills s more → (after z (seen (more ++ h))).deadline s ≡ (after z (seen h)).deadline s
same_deadline z more h s none = deadline_seen z (more ++ h) s ∙ (kept_deadline more h s none ∙ sym (deadline_seen z h s))

-- it fits half a word
pub low_deadline : (z : Shape) (h : List Event) → IsLawful z h → (s : ℕ) → deadline_of h s < 2 ^ 32
low_deadline z [] l s = omega arith
low_deadline z (Refilled p t d ∷ h) l s = let lt = l.1.suits.3 in let i = low_deadline z h l.0 s in ⊎_elim (λ y. rw y lt) (λ n. rw n i) (cases_Bool (eqb t s))
low_deadline z (e ∷ h) l s = low_deadline z h l.0 s

halves : (d n : ℕ) → n < 2 ^ 32 → ((d * 2 ^ 32 + n) / 2 ^ 32 ≡ d) × ((d * 2 ^ 32 + n) % 2 ^ 32 ≡ n)
halves d n lt = (omega arith, omega arith)

-- the halves of a segment's word
pub word_parts : (z : Shape) (h : List Event) (s : ℕ) → IsValid z → IsLawful z h
    → (segment_word h s / 2 ^ 32 ≡ deadline_of h s) × (segment_word h s % 2 ^ 32 ≡ readers h s)
word_parts z h s v l = halves (deadline_of h s) (readers h s) (let few = few_passes z v in let c = counted z h l s in omega arith)
