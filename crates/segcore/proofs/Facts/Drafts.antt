-- Word 1 of an overflow bucket that is drawn and waits to be chained: empty, or a copy of an item word.
use Rattle.std.proofs.Common.{◌≡◌, ℕ, ◌+◌, ◌*◌, ◌<◌, true, cond, eqb, List, [], ◌∷◌, Some, ◌∙◌, ap, refl, inl, inr, ◌⊎◌, ⊎_elim, arith}
use Rattle.std.proofs.lemmas.Bool.{cases_Bool, false≢true}
use Rattle.segword.specs.Words.{IsValid, Shape}
use Rattle.segmodel.specs.Words.{key_of, tag_of}
use Rattle.segcore.specs.Words.{Event}
use Rattle.segcore.specs.declared.event.Event.TheVariants.{Took, Freed, Replied, Linked, Relinked, Unlinked, Drew, Put, Chained}
use Rattle.segcore.specs.declared.cell.Cell.TheVariants.{OfOverflow}
use Rattle.segcore.specs.Bucket.{Slot, slot, Content, nothing, item, next, copy, Bucket, last, fresh_position, bucket_at, is, acts, bucket_after}
use Rattle.segcore.specs.Overflow.{home, home_of}
use Rattle.segcore.specs.ItemWord.{IsWordOf, IsItemWord}
use Rattle.segcore.specs.Lawful.{IsLawful}
use Rattle.segcore.specs.Word.{content_word, word, overflow_word}
use Rattle.segcore.specs.Mark.{marked, chained_to}
use Rattle.segcore.proofs.Coherent.{IsContent}
use Rattle.segcore.proofs.Chains.{chain_of}
use Rattle.segcore.proofs.Standing.{coherent}
use Rattle.segcore.proofs.Marked.{chained_marked}
use Rattle.segcore.proofs.Limits.{low_row, low_segment}
use Rattle.segcore.proofs.StepKinds.Words.{word_content}
use Rattle.segcore.proofs.Exact.{tagged}

-- a copy is the word of an item whose row is in the table
abbrev IsDraft : Shape → Content → Type 0
IsDraft z (copy w) = (a : Slot) × IsWordOf a w × (a.segment < z.passes * z.segments_each) × (a.row < z.rows)
IsDraft z nothing = Unit {0}
IsDraft z (item a) = Unit {0}
IsDraft z (next m) = Unit {0}

draft_at : (z : Shape) (n : ℕ) (x : Content) (items : ℕ → Content) → IsDraft z x → ((m : ℕ) → IsDraft z (items m)) → (m : ℕ) → IsDraft z (cond (eqb n m) x (items m))
draft_at z n x items i old m = ⊎_elim (λ t. rw t i) (λ f. rw f (old m)) (cases_Bool (eqb n m))

draft_acts : (z : Shape) (e : Event) (h : List Event) (b : ℕ) → is (bucket_at z e) b ≡ true → IsLawful z (e ∷ h)
    → ((b n : ℕ) → IsDraft z ((bucket_after z h b).items n)) → (n : ℕ)
    → IsDraft z ((acts e (bucket_after z h b)).items n)
draft_acts z (Took p a) h b t l old = old b
draft_acts z (Freed p a x) h b t l old = old b
draft_acts z (Replied p q y) h b t l old = old b
draft_acts z (Linked p q s r n) h b t l old = draft_at z n (item (slot (key_of q) s r)) (bucket_after z h b).items tt (old b)
draft_acts z (Relinked p k f i s r n) h b t l old = draft_at z n (item (slot k s r)) (bucket_after z h b).items tt (old b)
draft_acts z (Unlinked p k n why) h b t l old = draft_at z n nothing (bucket_after z h b).items tt (old b)
draft_acts z (Drew p a d m) h b t l old = old b
draft_acts z (Put p a w) h b t l old = let s = l.1.suits.2 in let x = (coherent z h l.0).items a (last (bucket_after z h a)) s.0 s.1 in
    draft_at z (fresh_position (bucket_after z h b)) (copy w) (bucket_after z h b).items (s.0, s.2, x.within.0, x.within.1) (old b)
draft_acts z (Chained p a m) h b t l old = let u = bucket_after z h b in
    draft_at z (last u) (next m) (λ n. cond (eqb (fresh_position u) n) (u.items (last u)) (u.items n)) tt (draft_at z (fresh_position u) (u.items (last u)) u.items (old b (last u)) (old b))
draft_acts z e h b t l old = absurd (false≢true t)

drafts : (z : Shape) (h : List Event) → IsLawful z h → (b n : ℕ) → IsDraft z ((bucket_after z h b).items n)
drafts z [] l b n = tt
drafts z (e ∷ h) l b n = ⊎_elim
    (λ t. rw t (draft_acts z e h b t l (drafts z h l.0) n))
    (λ f. rw f (drafts z h l.0 b n))
    (cases_Bool (is (bucket_at z e) b))

draft_content : (z : Shape) (h : List Event) (b d : ℕ) (u : Bucket) (c : Content) → IsValid z → u.chained < d
    → IsContent h b u (8 * d + 1) c → IsDraft z c → (content_word h c ≡ 0) ⊎ IsItemWord (content_word h c)
draft_content z h b d u nothing v lt i x = inl refl
draft_content z h b d u (item a) v lt i x = let p = i.0 in absurd (omega arith)
draft_content z h b d u (next m) v lt i x = let e = i.2 in absurd (omega arith)
draft_content z h b d u (copy w) v lt i x = let t = tagged x.0.key in let y = x.1 in
    inr (tag_of x.0.key, y.0, x.0.segment, x.0.row, (t.0, t.1, low_segment z x.0.segment v x.2, low_row z x.0.row v x.3), y.1, y.2)

pub draft_word : (z : Shape) (h : List Event) (m b d : ℕ) → IsValid z → IsLawful z h → home_of h m ≡ Some (home b d)
    → chained_to (marked h) b < d → (word z h (OfOverflow m 1) ≡ 0) ⊎ IsItemWord (word z h (OfOverflow m 1))
draft_word z h m b d v l is' lt = let u = bucket_after z h b in let e = chained_marked z h b in
    rw (ap (overflow_word z h 1) is' ∙ word_content z h u (8 * d + 1) (omega arith))
    (draft_content z h b d u (u.items (8 * d + 1)) v (omega arith) ((chain_of z h l b).contents (8 * d + 1)) (drafts z h l b (8 * d + 1)))
