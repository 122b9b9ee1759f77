-- An item that stands in a segment which wasn't filled anew since its row was linked stood there all along.
use Rattle.std.proofs.Common.{◌≡◌, ℕ, cond, eqb, ◌⊎◌, List, [], ◌∷◌, ◌++◌, Some, None, refl, sym, ap, ◌∙◌, subst, inl, inr, ⊎_elim}
use Rattle.std.proofs.lemmas.Bool.{cases_Bool, cond-true, cond-false}
use Rattle.std.proofs.lemmas.Option.{none-some}
use Rattle.segword.specs.Words.{Shape}
use Rattle.segmodel.specs.Words.{bucket_of, key_of}
use Rattle.segcore.specs.declared.event.Event.TheVariants.{Linked, Relinked, Unlinked, Chained}
use Rattle.segcore.specs.Words.{acts, bucket_after, Event, fresh_position, IsLawful, item, last}
use Rattle.segcore.specs.Words.{next, NoneRefills, nothing, Row, row_after, Slot, slot}
use Rattle.segcore.proofs.Chains.{same_item, no_item, next_item}
use Rattle.segcore.proofs.Quiet.{linked_first, moved_first}
use Rattle.segcore.proofs.Standing.{coherent, is_calm}
use Rattle.segcore.proofs.Segments.{row_since}

-- somewhere in the bucket's chain
abbrev pub StandsIn : Shape → List Event → ℕ → Slot → Type 0
StandsIn z h b a = (n : ℕ) × ((bucket_after z h b).items n ≡ item a)

-- what an event left there stood there before, or its row wasn't linked
pub one_before : (z : Shape) (e : Event) (h : List Event) (b n : ℕ) (a : Slot) → IsLawful z (e ∷ h)
    → (bucket_after z (e ∷ h) b).items n ≡ item a → StandsIn z h b a ⊎ ((row_after h a.segment a.row).linked ≡ None)
one_before z (Linked p q s r m) h b n a l is' = let e = Linked p q s r m in let u = bucket_after z h b in let new = slot (key_of q) s r in ⊎_elim
    (λ t. let now : cond (eqb m n) (item new) (u.items n) ≡ item a = ap (λ v. v.items n) (sym (cond-true (eqb (bucket_of z (key_of q)) b) (acts e u) u t)) ∙ is' in ⊎_elim
    (λ hit. let same : new ≡ a = same_item new a (sym (cond-true (eqb m n) (item new) (u.items n) hit) ∙ now) in
    inr (subst (λ (x : Slot). (row_after h x.segment x.row).linked ≡ None) same (linked_first z h p q s r m l.1.suits).3))
    (λ miss. inl (n, sym (cond-false (eqb m n) (item new) (u.items n) miss) ∙ now))
    (cases_Bool (eqb m n)))
    (λ f. inl (n, ap (λ v. v.items n) (sym (cond-false (eqb (bucket_of z (key_of q)) b) (acts e u) u f)) ∙ is'))
    (cases_Bool (eqb (bucket_of z (key_of q)) b))
one_before z (Relinked p k f i s r m) h b n a l is' = let e = Relinked p k f i s r m in let u = bucket_after z h b in let new = slot k s r in ⊎_elim
    (λ t. let now : cond (eqb m n) (item new) (u.items n) ≡ item a = ap (λ v. v.items n) (sym (cond-true (eqb (bucket_of z k) b) (acts e u) u t)) ∙ is' in ⊎_elim
    (λ hit. let same : new ≡ a = same_item new a (sym (cond-true (eqb m n) (item new) (u.items n) hit) ∙ now) in
    inr (subst (λ (x : Slot). (row_after h x.segment x.row).linked ≡ None) same (moved_first z h p k f i s r m l.1.suits).3))
    (λ miss. inl (n, sym (cond-false (eqb m n) (item new) (u.items n) miss) ∙ now))
    (cases_Bool (eqb m n)))
    (λ off. inl (n, ap (λ v. v.items n) (sym (cond-false (eqb (bucket_of z k) b) (acts e u) u off)) ∙ is'))
    (cases_Bool (eqb (bucket_of z k) b))
one_before z (Unlinked p k m why) h b n a l is' = let e = Unlinked p k m why in let u = bucket_after z h b in ⊎_elim
    (λ t. let now : cond (eqb m n) nothing (u.items n) ≡ item a = ap (λ v. v.items n) (sym (cond-true (eqb (bucket_of z k) b) (acts e u) u t)) ∙ is' in ⊎_elim
    (λ hit. absurd (no_item a (sym (cond-true (eqb m n) nothing (u.items n) hit) ∙ now)))
    (λ miss. inl (n, sym (cond-false (eqb m n) nothing (u.items n) miss) ∙ now))
    (cases_Bool (eqb m n)))
    (λ f. inl (n, ap (λ v. v.items n) (sym (cond-false (eqb (bucket_of z k) b) (acts e u) u f)) ∙ is'))
    (cases_Bool (eqb (bucket_of z k) b))
one_before z (Chained p c m) h b n a l is' = let e = Chained p c m in let u = bucket_after z h b in ⊎_elim
    (λ t. let at : (acts e u).items n ≡ item a = ap (λ v. v.items n) (sym (cond-true (eqb c b) (acts e u) u t)) ∙ is' in ⊎_elim
    (λ end. absurd (next_item m a (sym (cond-true (eqb (last u) n) (next m) (cond (eqb (fresh_position u) n) (u.items (last u)) (u.items n)) end) ∙ at)))
    (λ mid. let old = sym (cond-false (eqb (last u) n) (next m) (cond (eqb (fresh_position u) n) (u.items (last u)) (u.items n)) mid) ∙ at in ⊎_elim
    (λ moved. inl (last u, sym (cond-true (eqb (fresh_position u) n) (u.items (last u)) (u.items n) moved) ∙ old))
    (λ stayed. inl (n, sym (cond-false (eqb (fresh_position u) n) (u.items (last u)) (u.items n) stayed) ∙ old))
    (cases_Bool (eqb (fresh_position u) n)))
    (cases_Bool (eqb (last u) n)))
    (λ f. inl (n, ap (λ v. v.items n) (sym (cond-false (eqb c b) (acts e u) u f)) ∙ is'))
    (cases_Bool (eqb c b))
one_before z e h b n a l is' = inl (n, (is_calm z e h refl l (coherent z h l.0)).back b n a is')

-- it stood at any moment at which its row was linked, where its segment wasn't filled anew since
pub stood_before : (z : Shape) (more h : List Event) (b n : ℕ) (a : Slot) (k : List ℕ) → IsLawful z (more ++ h)
    → NoneRefills a.segment more → (row_after h a.segment a.row).linked ≡ Some k
    → (bucket_after z (more ++ h) b).items n ≡ item a → StandsIn z h b a
stood_before z [] h b n a k l none on is' = (n, is')
stood_before z (e ∷ more) h b n a k l none on is' = ⊎_elim
    (λ before. stood_before z more h b before.0 a k l.0 none.1 on before.1)
    (λ off. absurd (none-some k (sym off ∙ (ap (λ (u : Row). u.linked) (row_since z more h a.segment a.row k l.0 none.1 on) ∙ on))))
    (one_before z e (more ++ h) b n a l is')
