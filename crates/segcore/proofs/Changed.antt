-- An item word that came to have another item had an entry of its bucket meanwhile; and what the information word says under a free bit.
use Rattle.std.proofs.Common.{◌≡◌, ◌≢◌, ℕ, ◌+◌, ◌*◌, ◌<◌, ◌≤◌, Bool, true, false, cond, eqb, ◌⊎◌, List, [], ◌∷◌, ◌++◌, Option, Some, None, sym, refl, ap, ◌∙◌, subst, inl, inr, ⊎_elim, arith}
use Rattle.std.proofs.lemmas.Bool.{cases_Bool, false≢true, cond-false, eqb-true, eqb-false}
use Rattle.segword.specs.Words.{IsValid, Shape}
use Rattle.segmodel.specs.declared.request.Reply.TheVariants.{Stored}
use Rattle.segmodel.specs.declared.entry.Entry.TheVariants as entry
use Rattle.segmodel.specs.Words.{Begins, bucket_of, entries_of, Entry, is_of, key_of, stirred}
use Rattle.segmodel.specs.Words.{tag_of}
use Rattle.segmodel.proofs.Counts.{count_by-cons}
use Rattle.segcore.specs.Words.{Cell, Event, Leaving}
use Rattle.segcore.specs.declared.event.Event.TheVariants.{Linked, Relinked, Unlinked, Chained}
use Rattle.segcore.specs.Event.{removal, entry_of, with_entry, seen}
use Rattle.segcore.specs.Bucket.{Slot, item, last, acts, bucket_after}
use Rattle.segcore.specs.Lawful.{IsLawful}
use Rattle.segcore.specs.Standing.{Names}
use Rattle.segcore.specs.declared.event.Leaving.TheVariants.{Deletes, Evicts}
use Rattle.segcore.proofs.Moments.{lawful_before}
use Rattle.segcore.proofs.Quiet.{chained_grows}
use Rattle.segcore.proofs.Chains.{same_item, copy_item}
use Rattle.segcore.proofs.Standing.{coherent, is_calm, elsewhere, others_same, grown}
use Rattle.segcore.proofs.Homes.{joins, next_no_item}
use Rattle.segcore.proofs.Exact.{named_at}

-- ---- entries of a bucket

one_if : (t : Bool) (n : ℕ) → t ≡ true → n + 1 ≤ cond t 1 0 + n
one_if true n e = omega arith
one_if false n e = absurd (false≢true e)

one_entry : (z : Shape) (b : ℕ) (x : Entry) (h : List Entry) → is_of z b x ≡ true → entries_of z b h + 1 ≤ entries_of z b (x ∷ h)
one_entry z b x h t = subst (λ n. entries_of z b h + 1 ≤ n) (sym (count_by-cons (is_of z b) x h)) (one_if (is_of z b x) (entries_of z b h) t)

with_grows : (z : Shape) (b : ℕ) (o : Option Entry) (h : List Entry) → entries_of z b h ≤ entries_of z b (with_entry o h)
with_grows z b None h = omega arith
with_grows z b (Some x) h = let e = count_by-cons (is_of z b) x h in omega arith

pub entries_grow : (z : Shape) (b : ℕ) (more h : List Event) → entries_of z b (seen h) ≤ entries_of z b (seen (more ++ h))
entries_grow z b [] h = omega arith
entries_grow z b (e ∷ more) h = let a = entries_grow z b more h in let c = with_grows z b (entry_of e) (seen (more ++ h)) in omega arith

-- ---- the item of a word

-- the position is the last word of a bucket that chains on
abbrev IsJoined : Shape → List Event → ℕ → ℕ → Type 0
IsJoined z h b n = (d : ℕ) × (n ≡ 8 * d + 7) × (d < (bucket_after z h b).chained)

abbrev After : Shape → ℕ → ℕ → Slot → List Event → List Event → Type 0
After z b n a h g = ((bucket_after z g b).items n ≡ item a) ⊎ ((entries_of z b (seen h) + 1 ≤ entries_of z b (seen g)) ⊎ IsJoined z g b n)

removal_of : (z : Shape) (b p : ℕ) (k : List ℕ) (why : Leaving) → eqb (bucket_of z k) b ≡ true → is_of z b (removal p k why) ≡ true
removal_of z b p k (Deletes m) t = t
removal_of z b p k (Evicts s) t = t

one_event : (z : Shape) (e : Event) (h : List Event) (b n : ℕ) (a : Slot) → IsLawful z (e ∷ h) → (bucket_after z h b).items n ≡ item a → After z b n a h (e ∷ h)
one_event z (Linked p q s r m) h b n a l is' = ⊎_elim
    (λ t. inr (inl (one_entry z b (entry.Wrote p q Stored (Some s)) (seen h) t)))
    (λ f. inl (ap (λ u. u.items n) (cond-false (eqb (bucket_of z (key_of q)) b) (acts (Linked p q s r m) (bucket_after z h b)) (bucket_after z h b) f) ∙ is'))
    (cases_Bool (eqb (bucket_of z (key_of q)) b))
one_event z (Relinked p k f i s r m) h b n a l is' = ⊎_elim
    (λ t. inr (inl (one_entry z b (entry.Moved p k f s) (seen h) t)))
    (λ g. inl (ap (λ u. u.items n) (cond-false (eqb (bucket_of z k) b) (acts (Relinked p k f i s r m) (bucket_after z h b)) (bucket_after z h b) g) ∙ is'))
    (cases_Bool (eqb (bucket_of z k) b))
one_event z (Unlinked p k m why) h b n a l is' = ⊎_elim
    (λ t. inr (inl (one_entry z b (removal p k why) (seen h) (removal_of z b p k why t))))
    (λ f. inl (ap (λ u. u.items n) (cond-false (eqb (bucket_of z k) b) (acts (Unlinked p k m why) (bucket_after z h b)) (bucket_after z h b) f) ∙ is'))
    (cases_Bool (eqb (bucket_of z k) b))
one_event z (Chained p b' m) h b n a l is' = let c = coherent z h l.0 in let u = bucket_after z h b' in ⊎_elim
    (λ y. let eb = eqb-true b' b y in
    let old : u.items n ≡ item a = subst (λ t. (bucket_after z h t).items n ≡ item a) (sym eb) is' in
    ⊎_elim
    (λ t. inr (inr (
      u.chained,
      sym (eqb-true (last u) n t),
      subst (λ x. u.chained < (bucket_after z (Chained p b' m ∷ h) x).chained) eb (let g =
          ap (λ v. v.chained) (grown z h p b' m l c) in omega arith),
    )))
    (λ f. inl (subst (λ t. (bucket_after z (Chained p b' m ∷ h) t).items n ≡ item a) eb (ap (λ v. v.items n) (grown z h p b' m l c)
    ∙ (elsewhere z h p b' m l c n (eqb-false (last u) n f) (λ q. copy_item l.1.suits.1.1 a (sym l.1.suits.1.3 ∙ (ap u.items q ∙ old))) ∙ old))))
    (cases_Bool (eqb (last u) n)))
    (λ f. inl (ap (λ v. v.items n) (others_same z h p b' m l c b f) ∙ is'))
    (cases_Bool (eqb b' b))
one_event z e h b n a l is' = inl ((is_calm z e h refl l (coherent z h l.0)).on b n a is')

many_events : (z : Shape) (more h : List Event) (b n : ℕ) (a : Slot) → IsLawful z (more ++ h) → (bucket_after z h b).items n ≡ item a → After z b n a h (more ++ h)
many_events z [] h b n a l is' = inl is'
many_events z (e ∷ more) h b n a l is' = ⊎_elim
    (λ same. ⊎_elim
    (λ now. inl now)
    (λ w. ⊎_elim (λ more'. inr (inl (let g = entries_grow z b more h in omega arith))) (λ j. inr (inr j)) w)
    (one_event z e (more ++ h) b n a l same))
    (λ w. inr (⊎_elim
    (λ up. inl (let g = entries_grow z b (e ∷ []) (more ++ h) in omega arith))
    (λ (j : IsJoined z (more ++ h) b n). inr (j.0, j.1, (let g = chained_grows z (e ∷ []) (more ++ h) b in let lt = j.2 in omega arith)))
    w))
    (many_events z more h b n a l.0 is')

-- where a position has an item at two points, and not the same one, an entry of the bucket lies between
pub changed : (z : Shape) (h g : List Event) (b n : ℕ) (a a' : Slot) → IsLawful z g → Begins h g → (bucket_after z h b).items n ≡ item a → (bucket_after z g b).items n ≡ item a' → a ≢ a'
    → entries_of z b (seen h) + 1 ≤ entries_of z b (seen g)
changed z h g b n a a' l begins was is' ne = ⊎_elim
    (λ same. absurd (ne (same_item a a' (sym same ∙ now))))
    (λ w. ⊎_elim (λ up. subst (λ x. entries_of z b (seen h) + 1 ≤ entries_of z b (seen x)) (sym begins.1) up)
    (λ (j : IsJoined z (begins.0 ++ h) b n). let w = joins z (begins.0 ++ h) b j.0 lawful j.2 in absurd (next_no_item w.0 a' (sym now ∙ (ap (bucket_after z (begins.0 ++ h) b).items j.1 ∙ w.1)))) w)
    (many_events z begins.0 h b n a lawful was)
  where
    lawful : IsLawful z (begins.0 ++ h)
    lawful = subst (IsLawful z) begins.1 l

    now : (bucket_after z (begins.0 ++ h) b).items n ≡ item a'
    now = subst (λ x. (bucket_after z x b).items n ≡ item a') begins.1 is'

-- the same of words
pub changed_word : (z : Shape) (h g : List Event) (b n : ℕ) (c : Cell) (t s r t' s' r' : ℕ) → IsValid z
    → IsLawful z g → Begins h g → Names z h b n c t s r → Names z g b n c t' s' r'
    → ((t ≡ t') × (s ≡ s') × (r ≡ r') → ⊥)
    → entries_of z b (seen h) + 1 ≤ entries_of z b (seen g)
changed_word z h g b n c t s r t' s' r' v l begins x y ne =
    let early = lawful_before z begins.0 h (subst (IsLawful z) begins.1 l) in
    let i = named_at z h b n c t s r v early x in
    let j = named_at z g b n c t' s' r' v l y in
    changed z h g b n i.slot j.slot l begins i.here j.here
    (λ e. ne (sym i.tag ∙ (ap (λ (a : Slot). tag_of a.key) e ∙ j.tag), sym i.segment ∙ (ap (λ (a : Slot). a.segment) e ∙ j.segment), sym i.row ∙ (ap (λ (a : Slot). a.row) e ∙ j.row)))

pub entries_begin : (z : Shape) (b : ℕ) (h g : List Event) → Begins h g → entries_of z b (seen h) ≤ entries_of z b (seen g)
entries_begin z b h g begins = subst (λ x. entries_of z b (seen h) ≤ entries_of z b (seen x)) (sym begins.1) (entries_grow z b begins.0 h)

pub is_stirred : (z : Shape) (h g : List Event) (k : List ℕ) → entries_of z (bucket_of z k) (seen h) + 1 ≤ entries_of z (bucket_of z k) (seen g) → 1 ≤ stirred z k (seen h) (seen g)
is_stirred z h g k up = omega arith
