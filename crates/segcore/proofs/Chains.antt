-- The chains of a lawful history: which bucket an overflow bucket is drawn for, and what stands at each position.
use Rattle.std.proofs.Common.{◌≡◌, ◌≢◌, ℕ, ◌+◌, true, false, cond, eqb, List, [], ◌∷◌, Option, Some, None, sym, refl, ap, ◌∙◌, subst, inl, inr, ⊎_elim, arith}
use Rattle.std.proofs.lemmas.Bool.{cases_Bool, cond-true, cond-false, eqb-true, eqb-false, eq-eqb, false≢true}
use Rattle.std.proofs.lemmas.Option.{same_Some, none-some}
use Rattle.segword.specs.Words.{Shape}
use Rattle.segmodel.specs.Words.{bucket_of, key_of}
use Rattle.segcore.proofs.Coherent.{IsContent, IsChain}
use Rattle.segcore.specs.Bucket.{Slot, slot, Content, nothing, item, next, copy, Bucket, last, fresh_position, bucket_at, is, acts, bucket_after, IsPosition}
use Rattle.segcore.specs.Lawful.{Suits, IsLawful}
use Rattle.segcore.specs.Overflow.{Home, home_of}
use Rattle.segcore.specs.Words.{Event}
use Rattle.segcore.specs.declared.event.Event.TheVariants.{Took, Freed, Replied, Linked, Relinked, Unlinked, Drew, Put, Chained}
use Rattle.segcore.proofs.Quiet.{home_stays}

-- ---- contents are told apart

pub slot_of : Content → Option Slot
slot_of (item a) = Some a
slot_of _ = None

pub same_item : (a c : Slot) → item a ≡ item c → a ≡ c
unfolding slot_of
same_item a c e = same_Some a c (ap slot_of e)

pub no_item : (a : Slot) → nothing ≢ item a
unfolding slot_of
no_item a e = none-some a (ap slot_of e)

pub next_item : (m : ℕ) (a : Slot) → next m ≢ item a
unfolding slot_of
next_item m a e = none-some a (ap slot_of e)

pub copy_item : (w : ℕ) (a : Slot) → copy w ≢ item a
unfolding slot_of
copy_item w a e = none-some a (ap slot_of e)

-- ---- homes

home_back : (z : Shape) (e : Event) (h : List Event) (b m d : ℕ) → is (bucket_at z e) b ≡ false
    → home_of (e ∷ h) m ≡ Some (record { bucket = b; depth = d })
    → home_of h m ≡ Some (record { bucket = b; depth = d })
home_back z (Drew p a d' n) h b m d f is' = ⊎_elim
    (λ t. let e : Some (record { bucket = a; depth = d' }) ≡ Some (record { bucket = b; depth = d }) = sym (cond-true (eqb n m) (Some (record { bucket = a; depth = d' })) (home_of h m) t) ∙ is' in
    absurd (eqb-false a b f (ap (λ (x : Home). x.bucket) (same_Some _ _ e))))
    (λ n'. sym (cond-false (eqb n m) (Some _) (home_of h m) n') ∙ is')
    (cases_Bool (eqb n m))
home_back z e h b m d f is' = is'

-- ---- a chain as a history goes on

content_on : (z : Shape) (e : Event) (h : List Event) (b : ℕ) (u : Bucket) (n : ℕ) (c : Content) → IsLawful z (e ∷ h) → IsContent h b u n c → IsContent (e ∷ h) b u n c
content_on z e h b u n nothing l i = i
content_on z e h b u n (item a) l i = i
content_on z e h b u n (next m) l i = (i.0, i.1, i.2, home_stays z (e ∷ []) h m (record { bucket = b; depth = i.0 + 1 }) l i.3)
content_on z e h b u n (copy w) l i = i

-- an event of another bucket
chain_away : (z : Shape) (e : Event) (h : List Event) (b : ℕ) (u : Bucket) → IsLawful z (e ∷ h) → is (bucket_at z e) b ≡ false → IsChain h b u → IsChain (e ∷ h) b u
chain_away z e h b u l f c = record {
  short = c.short;
  contents = λ n. content_on z e h b u n (u.items n) l (c.contents n);
  homes = λ m d is'. c.homes m d (home_back z e h b m d f is');
  spare = λ m is'. let s = c.spare m is' in (s.0, home_stays z (e ∷ []) h m (record { bucket = b; depth = u.chained + 1 }) l s.1);
}

-- an event that leaves homes and the chain as they are, and the contents right
content_same : (h : List Event) (b : ℕ) (u v : Bucket) → v.chained ≡ u.chained → v.spare ≡ u.spare → (n : ℕ) (c : Content) → IsContent h b u n c → IsContent h b v n c
content_same h b u v ec es n nothing i = i
content_same h b u v ec es n (item a) i = let lt = i.0 in (omega arith, i.1)
content_same h b u v ec es n (next m) i = let lt = i.1 in (i.0, omega arith, i.2, i.3)
content_same h b u v ec es n (copy w) i = let e = i.0 in (omega arith, (i.1.0, es ∙ i.1.1))

pub record Like (u v : Bucket) : Type 0 where
  pub chained : v.chained ≡ u.chained
  pub spare : v.spare ≡ u.spare

chain_like : (z : Shape) (e : Event) (h : List Event) (b : ℕ) (u v : Bucket) → IsLawful z (e ∷ h)
    → ((m : ℕ) → home_of (e ∷ h) m ≡ home_of h m) → Like u v → ((n : ℕ) → IsContent h b u n (v.items n))
    → IsChain h b u → IsChain (e ∷ h) b v
chain_like z e h b u v l same k items c = let ec = k.chained in record {
  short = (let s = c.short in omega arith);
  contents = λ n. content_on z e h b v n (v.items n) l (content_same h b u v k.chained k.spare n (v.items n) (items n));
  homes = λ m d is'. ⊎_elim (λ t. let lt = t.1 in inl (t.0, omega arith)) (λ t. let q = t.0 in inr (omega arith, k.spare ∙ t.1)) (c.homes m d (sym (same m) ∙ is'));
  spare = λ m is'. let s = c.spare m (sym k.spare ∙ is') in let lt = s.0 in (omega arith, same m ∙ (s.1 ∙ ap (λ n. Some (record { bucket = b; depth = n + 1 })) (sym ec)));
}

content_at : (h : List Event) (b n : ℕ) (x : Content) (u : Bucket) → IsContent h b u n x → ((m : ℕ) → IsContent h b u m (u.items m)) → (m : ℕ) → IsContent h b u m (cond (eqb n m) x (u.items m))
content_at h b n x u i is' m = ⊎_elim (λ t. rw t (rw (← eqb-true n m t) i)) (λ f. rw f (is' m)) (cases_Bool (eqb n m))

drew : (z : Shape) (h : List Event) (p b d m : ℕ) → let u = bucket_after z h b in Suits z h (Drew p b d m)
    → IsLawful z (Drew p b d m ∷ h) → IsChain h b u → IsChain (Drew p b d m ∷ h) b (acts (Drew p b d m) u)
drew z h p b d m s l c = let u = bucket_after z h b in let v = acts (Drew p b d m) u in let ed = s.3 in let lt = s.4 in record {
  short = c.short;
  contents = λ n. content_on z (Drew p b d m) h b v n (u.items n) l (spared n (u.items n) (c.contents n));
  homes = λ k e is'. ⊎_elim
      (λ t. let q : Some (record { bucket = b; depth = d }) ≡ Some (record { bucket = b; depth = e }) = sym (cond-true (eqb m k) (Some (record { bucket = b; depth = d })) (home_of h k) t) ∙ is' in
      inr (ap (λ (x : Home). x.depth) (sym (same_Some _ _ q)) ∙ ed, ap Some (eqb-true m k t)))
      (λ f. ⊎_elim (λ w. inl w) (λ w. absurd (none-some k (sym s.2 ∙ w.1))) (c.homes k e (sym (cond-false (eqb m k) (Some _) (home_of h k) f) ∙ is')))
      (cases_Bool (eqb m k));
  spare = λ k is'. let q : m ≡ k = same_Some m k is' in (
    omega arith,
    cond-true (eqb m k) (Some (record { bucket = b; depth = d })) (home_of h k) (eq-eqb m k q)
        ∙ ap (λ x. Some (record { bucket = b; depth = x })) ed,
  );
}
  where
    spared : (n : ℕ) (x : Content) → IsContent h b (bucket_after z h b) n x → IsContent h b (acts (Drew p b d m) (bucket_after z h b)) n x
    spared n nothing i = i
    spared n (item a) i = i
    spared n (next k) i = i
    spared n (copy w) i = (i.0, (m, refl))

chained : (z : Shape) (h : List Event) (p b m : ℕ) → let u = bucket_after z h b in Suits z h (Chained p b m)
    → IsLawful z (Chained p b m ∷ h) → IsChain h b u → IsChain (Chained p b m ∷ h) b (acts (Chained p b m) u)
chained z h p b m s l c = let u = bucket_after z h b in let v = acts (Chained p b m) u in let sp = c.spare m s.0 in let few = sp.0 in record {
  short = omega arith;
  contents = λ n. content_on z (Chained p b m) h b v n (v.items n) l (on n);
  homes = λ k e is'. ⊎_elim (λ w. let le = w.1 in inl (w.0, omega arith)) (λ w. let q = w.0 in inl (omega arith, omega arith)) (c.homes k e is');
  spare = λ k is'. absurd (none-some k is');
}
  where
    rest : (n : ℕ) (x : Content) → n ≢ fresh_position (bucket_after z h b) → IsContent h b (bucket_after z h b) n x → IsContent h b (acts (Chained p b m) (bucket_after z h b)) n x
    rest n nothing ne i = i
    rest n (item a) ne i = let lt = i.0 in (omega arith, i.1)
    rest n (next k) ne i = let lt = i.1 in (i.0, omega arith, i.2, i.3)
    rest n (copy w) ne i = absurd (ne i.0)

    on : (n : ℕ) → IsContent h b (acts (Chained p b m) (bucket_after z h b)) n ((acts (Chained p b m) (bucket_after z h b)).items n)
    on n = let u = bucket_after z h b in let v = acts (Chained p b m) u in ⊎_elim
        (λ t. rw t (u.chained, omega arith, sym (eqb-true (last u) n t), (c.spare m s.0).1))
        (λ f. rw f (⊎_elim
        (λ t. let e = eqb-true (fresh_position u) n t in rw (t, s.1.2) (omega arith, omega arith))
        (λ g. rw g (rest n (u.items n) (λ e. eqb-false (fresh_position u) n g (sym e)) (c.contents n)))
        (cases_Bool (eqb (fresh_position u) n))))
        (cases_Bool (eqb (last u) n))

like : (u : Bucket) → Like u u
like u = record { chained = refl; spare = refl }

-- where an item is, is a position of an item
moved_position : (z : Shape) (h : List Event) (b : ℕ) (k : List ℕ) (n : ℕ) (a : Slot) → bucket_of z k ≡ b
    → (bucket_after z h (bucket_of z k)).items n ≡ item a → IsChain h b (bucket_after z h b)
    → IsPosition (bucket_after z h b) n
moved_position z h b k n a e is' c = subst (IsContent h b (bucket_after z h b) n) (subst (λ x. (bucket_after z h x).items n ≡ item a) e is') (c.contents n)

-- an event of the bucket
chain_acts : (z : Shape) (e : Event) (h : List Event) (b : ℕ) → is (bucket_at z e) b ≡ true → IsLawful z (e ∷ h) → IsChain h b (bucket_after z h b) → IsChain (e ∷ h) b (acts e (bucket_after z h b))
chain_acts z (Took p a) h b t l c = chain_like z (Took p a) h b _ _ l (λ m. refl) (record { chained = refl; spare = refl }) c.contents c
chain_acts z (Freed p a x) h b t l c = chain_like z (Freed p a x) h b _ _ l (λ m. refl) (record { chained = refl; spare = refl }) c.contents c
chain_acts z (Replied p q y) h b t l c = chain_like z (Replied p q y) h b _ _ l (λ m. refl) (like (bucket_after z h b)) c.contents c
chain_acts z (Linked p q s r n) h b t l c = chain_like z (Linked p q s r n) h b _ _ l (λ m. refl) (record { chained = refl; spare = refl })
    (content_at h b n (item (slot (key_of q) s r)) (bucket_after z h b) (rw (← eqb-true (bucket_of z (key_of q)) b t) l.1.suits.3) c.contents) c
chain_acts z (Relinked p k f i s r n) h b t l c = chain_like z (Relinked p k f i s r n) h b _ _ l (λ m. refl) (record { chained = refl; spare = refl })
    (content_at h b n (item (slot k s r)) (bucket_after z h b) (moved_position z h b k n (slot k f i) (eqb-true (bucket_of z k) b t) l.1.suits.2 c) c.contents) c
chain_acts z (Unlinked p k n why) h b t l c = chain_like z (Unlinked p k n why) h b _ _ l (λ m. refl) (record { chained = refl; spare = refl })
    (content_at h b n nothing (bucket_after z h b) tt c.contents) c
chain_acts z (Drew p a d m) h b t l c = subst (λ x. IsChain (Drew p x d m ∷ h) b (acts (Drew p x d m) (bucket_after z h b))) (sym (eqb-true a b t))
    (drew z h p b d m (rw (← eqb-true a b t) l.1.suits) (rw (← eqb-true a b t) l) c)
chain_acts z (Put p a w) h b t l c = chain_like z (Put p a w) h b _ _ l (λ m. refl) (record { chained = refl; spare = refl })
    (content_at h b (fresh_position (bucket_after z h b)) (copy w) (bucket_after z h b) (refl, rw (← eqb-true a b t) (l.1.suits.0, l.1.suits.1)) c.contents) c
chain_acts z (Chained p a m) h b t l c = subst (λ x. IsChain (Chained p x m ∷ h) b (acts (Chained p x m) (bucket_after z h b))) (sym (eqb-true a b t))
    (chained z h p b m (rw (← eqb-true a b t) l.1.suits) (rw (← eqb-true a b t) l) c)
chain_acts z e h b t l c = absurd (false≢true t)

pub chain_of : (z : Shape) (h : List Event) → IsLawful z h → (b : ℕ) → IsChain h b (bucket_after z h b)
chain_of z [] l b = record { short = omega arith; contents = λ n. tt; homes = λ m d is'. absurd (none-some _ is'); spare = λ m is'. absurd (none-some m is') }
chain_of z (e ∷ h) l b = ⊎_elim
    (λ t. subst (IsChain (e ∷ h) b) (sym (cond-true (is (bucket_at z e) b) (acts e (bucket_after z h b)) (bucket_after z h b) t)) (chain_acts z e h b t l (chain_of z h l.0 b)))
    (λ f. subst (IsChain (e ∷ h) b) (sym (cond-false (is (bucket_at z e) b) (acts e (bucket_after z h b)) (bucket_after z h b) f)) (chain_away z e h b (bucket_after z h b) l f (chain_of z h l.0 b)))
    (cases_Bool (is (bucket_at z e) b))
