-- What a lawful history's marks come to is what its events do, and they hold together.
use Rattle.std.proofs.Common.{◌≡◌, ◌≢◌, ℕ, ◌+◌, Bool, true, false, cond, eqb, List, [], ◌∷◌, Option, Some, None, sym, refl, ap, ◌∙◌, subst, inr, ⊎_elim, arith}
use Rattle.std.proofs.lemmas.Bool.{cases_Bool, cond-true, cond-false, eqb-true}
use Rattle.segword.specs.Words.{Shape}
use Rattle.segmodel.specs.declared.request.Reply.TheVariants.{Stored, NotStored, Exists, NotFound, Deleted}
use Rattle.segmodel.specs.Words.{bucket_of, key_of, Reply}
use Rattle.segcore.proofs.Caches.{stands}
use Rattle.segcore.proofs.Coherent.{moved, Coherent}
use Rattle.segcore.specs.Bucket.{Bucket, slot, bucket_at, is, acts, bucket_after}
use Rattle.segcore.specs.Event.{seen}
use Rattle.segcore.specs.Lawful.{IsRefusal, HasRoomFor, HasItemOf, IsLawful}
use Rattle.segcore.specs.Mark.{same_key, marked, entries, drawn_for, chained_to, onward, place, IsAfterAt, IsWellMarked}
use Rattle.segcore.specs.Words.{Event}
use Rattle.segcore.specs.declared.event.Event.TheVariants.{Replied, Linked, Relinked, Unlinked, Drew, Chained, Bumped, Entered, Left, Refilled}
use Rattle.segcore.specs.declared.event.Leaving.TheVariants.{Deletes, Evicts}
use Rattle.segcore.proofs.Coherent as trace
use Rattle.segcore.proofs.Standing.{coherent}

pub entries_marked : (h : List Event) → entries (marked h) ≡ seen h
entries_marked [] = refl
entries_marked (Replied p q y ∷ h) = rw (entries_marked h) refl
entries_marked (Linked p q s r n ∷ h) = rw (entries_marked h) refl
entries_marked (Relinked p k f i s r n ∷ h) = rw (entries_marked h) refl
entries_marked (Unlinked p k n why ∷ h) = rw (entries_marked h) refl
entries_marked (Refilled p s d ∷ h) = rw (entries_marked h) refl
entries_marked (e ∷ h) = entries_marked h

kept : {A : Type 0} (F : Bucket → A) (t : Bool) (u v : Bucket) → F v ≡ F u → F (cond t v u) ≡ F u
kept F true u v e = e
kept F false u v e = refl

pub chained_kept : (z : Shape) (e : Event) (h : List Event) (b : ℕ) → ((u : Bucket) → (acts e u).chained ≡ u.chained) → (bucket_after z (e ∷ h) b).chained ≡ (bucket_after z h b).chained
chained_kept z e h b f = kept (λ u. u.chained) (is (bucket_at z e) b) (bucket_after z h b) (acts e (bucket_after z h b)) (f (bucket_after z h b))

pub chained_marked : (z : Shape) (h : List Event) (b : ℕ) → chained_to (marked h) b ≡ (bucket_after z h b).chained
chained_marked z [] b = refl
chained_marked z (Chained p a m ∷ h) b = let i = chained_marked z h b in ⊎_elim
    (λ t. cond-true (eqb a b) (chained_to (marked h) b + 1) (chained_to (marked h) b) t
    ∙ (ap (λ n. n + 1) i ∙ sym (ap (λ u. u.chained)
    (cond-true (eqb a b) (acts (Chained p a m) (bucket_after z h b)) (bucket_after z h b) t))))
    (λ f. cond-false (eqb a b) (chained_to (marked h) b + 1) (chained_to (marked h) b) f
    ∙ (i ∙ sym (ap (λ u. u.chained) (cond-false (eqb a b) (acts (Chained p a m) (bucket_after z h b))
    (bucket_after z h b) f))))
    (cases_Bool (eqb a b))
chained_marked z (e ∷ h) b = chained_marked z h b ∙ sym (chained_kept z e h b (λ u. refl))

abbrev pub one_if : Option ℕ → ℕ
one_if None = 0
one_if (Some m) = 1

abbrev pub drawn_of : Bucket → ℕ
drawn_of u = u.chained + one_if u.spare

drawn_kept : (z : Shape) (e : Event) (h : List Event) (b : ℕ) → ((u : Bucket) → drawn_of (acts e u) ≡ drawn_of u) → drawn_of (bucket_after z (e ∷ h) b) ≡ drawn_of (bucket_after z h b)
drawn_kept z e h b f = kept drawn_of (is (bucket_at z e) b) (bucket_after z h b) (acts e (bucket_after z h b)) (f (bucket_after z h b))

pub drawn_marked : (z : Shape) (h : List Event) (b : ℕ) → IsLawful z h → drawn_for (marked h) b ≡ drawn_of (bucket_after z h b)
drawn_marked z [] b l = refl
drawn_marked z (Drew p a d m ∷ h) b l = let i = drawn_marked z h b l.0 in ⊎_elim
    (λ t. let no_spare : (bucket_after z h b).spare ≡ None = rw (← eqb-true a b t) l.1.suits.2 in
    cond-true (eqb a b) (drawn_for (marked h) b + 1) (drawn_for (marked h) b) t ∙ (ap (λ n. n + 1) (i ∙ ap (λ o. (bucket_after z h b).chained + one_if o) no_spare)
    ∙ (omega arith ∙ sym (ap drawn_of (cond-true (eqb a b) (acts (Drew p a d m) (bucket_after z h b)) (bucket_after z h b) t)))))
    (λ f. cond-false (eqb a b) (drawn_for (marked h) b + 1) (drawn_for (marked h) b) f
    ∙ (i ∙ sym (ap drawn_of (cond-false (eqb a b) (acts (Drew p a d m) (bucket_after z h b))
    (bucket_after z h b) f))))
    (cases_Bool (eqb a b))
drawn_marked z (Chained p a m ∷ h) b l = let i = drawn_marked z h b l.0 in ⊎_elim
    (λ t. let had : (bucket_after z h b).spare ≡ Some m = rw (← eqb-true a b t) l.1.suits.0 in
    i ∙ (ap (λ o. (bucket_after z h b).chained + one_if o) had ∙ (omega arith ∙ sym (ap drawn_of (cond-true (eqb a b) (acts (Chained p a m) (bucket_after z h b)) (bucket_after z h b) t)))))
    (λ f. i ∙ sym (ap drawn_of (cond-false (eqb a b) (acts (Chained p a m) (bucket_after z h b)) (bucket_after z h b) f)))
    (cases_Bool (eqb a b))
drawn_marked z (e ∷ h) b l = drawn_marked z h b l.0 ∙ sym (drawn_kept z e h b (λ u. refl))

moved_on : (u : Bucket) (o : Option ℕ) → onward u.chained o ≡ moved u o
moved_on u None = refl
moved_on u (Some n) = refl

pub place_marked : (z : Shape) (h : List Event) (k : List ℕ) → place z (marked h) k ≡ trace.place z h k
place_marked z [] k = refl
place_marked z (Linked p q s r n ∷ h) k = ap (cond (same_key (key_of q) k) (Some n)) (place_marked z h k)
place_marked z (Relinked p k' f i s r n ∷ h) k = ap (cond (same_key k' k) (Some n)) (place_marked z h k)
place_marked z (Chained p b m ∷ h) k = let e : onward (chained_to (marked h) b) (place z (marked h) k) ≡ moved
    (bucket_after z h b) (trace.place z h k) = (λ j. onward (chained_marked z h b j) (place_marked z h k j))
    ∙ moved_on (bucket_after z h b) (trace.place z h k) in
    (λ j. cond (eqb b (bucket_of z k)) (e j) (place_marked z h k j))
place_marked z (e ∷ h) k = place_marked z h k

refusal_after : (y : Reply) (k : List ℕ) (h : List _) → IsRefusal y → IsAfterAt y k h
refusal_after NotStored k h r = tt
refusal_after Exists k h r = tt
refusal_after NotFound k h r = tt
refusal_after Stored k h r = absurd r
refusal_after Deleted k h r = absurd r

own_place : (z : Shape) (h : List Event) (k : List ℕ) (n : ℕ) → Coherent z h → HasRoomFor z h k n → (stands z (entries (marked h)) k ≢ None) → place z (marked h) k ≡ Some n
own_place z h k n c room some = ⊎_elim
    (λ r. absurd (some (ap (λ g. stands z g k) (entries_marked h) ∙ r.1)))
    (λ r. place_marked z h k ∙ subst (λ x. trace.place z h x ≡ Some n) r.2 (c.placed (bucket_of z k) n r.0 r.1))
    room

pub placed : (z : Shape) (h : List Event) → IsLawful z h → IsWellMarked z (marked h)
placed z [] l = tt
placed z (Replied p q y ∷ h) l = (placed z h l.0, refusal_after y (key_of q) (marked h) l.1.suits)
placed z (Linked p q s r n ∷ h) l = let at_n = l.1.suits.3 in let same = chained_marked z h (bucket_of z (key_of q)) in let lt = at_n.0 in
    ((placed z h l.0, ((omega arith, at_n.1), own_place z h (key_of q) n (coherent z h l.0) l.1.suits.4)), refl)
placed z (Relinked p k f i s r n ∷ h) l = let has : HasItemOf z h k n = (slot k f i, l.1.suits.2, refl) in
    let at_n = ((coherent z h l.0).items (bucket_of z k) n has.0 has.1).position in let same = chained_marked z h (bucket_of z k) in let lt = at_n.0 in
    ((placed z h l.0, ((omega arith, at_n.1), own_place z h k n (coherent z h l.0) (inr has))), tt)
placed z (Unlinked p k n (Deletes m) ∷ h) l = (placed z h l.0, tt)
placed z (Unlinked p k n (Evicts s) ∷ h) l = (placed z h l.0, tt)
placed z (Chained p b m ∷ h) l = (placed z h l.0, drawn_marked z h b l.0 ∙ (ap (λ o. (bucket_after z h b).chained + one_if o) l.1.suits.0 ∙ ap (λ n. n + 1) (sym (chained_marked z h b))))
placed z (Refilled p s d ∷ h) l = (placed z h l.0, tt)
placed z (Drew p b d m ∷ h) l = (placed z h l.0, tt)
placed z (Bumped p s r f ∷ h) l = (placed z h l.0, tt)
placed z (Entered p s ∷ h) l = (placed z h l.0, tt)
placed z (Left p s ∷ h) l = (placed z h l.0, tt)
placed z (e ∷ h) l = placed z h l.0
