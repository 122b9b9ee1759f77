-- The buckets of a chain: each but the first is drawn for it, each but the last ends in the word of the next, and each position has a cell.
use Rattle.std.proofs.Common.{◌≡◌, ◌≢◌, ℕ, ◌+◌, ◌*◌, ◌/◌, ◌%◌, ◌<◌, ◌≤◌, true, cond, eqb, List, [], ◌∷◌, Some, None, sym, refl, ap, ◌∙◌, subst, ⊎_elim, arith}
use Rattle.std.proofs.lemmas.Bool.{cases_Bool, cases_eq, cond-true, cond-false, eqb-true, eq-eqb, ne_eqb, false≢true}
use Rattle.std.proofs.lemmas.Option.{none-some}
use Rattle.segword.specs.Words.{Shape}
use Rattle.segmodel.specs.Words.{bucket_of, key_of}
use Rattle.segcore.specs.Words.{Cell, Event}
use Rattle.segcore.specs.declared.event.Event.TheVariants.{Took, Freed, Replied, Linked, Relinked, Unlinked, Drew, Put, Chained}
use Rattle.segcore.specs.declared.cell.Cell.TheVariants.{OfBucket, OfOverflow}
use Rattle.segcore.specs.Bucket.{Slot, slot, Content, nothing, item, next, copy, Bucket, last, fresh_position, IsPosition, bucket_at, is, acts, bucket_after}
use Rattle.segcore.specs.Overflow.{home, home_of}
use Rattle.segcore.specs.Lawful.{HasRoomFor, IsLawful}
use Rattle.segcore.specs.Word.{IsAt}
use Rattle.segcore.proofs.Quiet.{home_stays}
use Rattle.segcore.proofs.Chains.{chain_of}
use Rattle.segcore.proofs.Marked.{chained_kept}
use Rattle.segcore.proofs.Versions.{guard_at}

-- ---- homes

-- each bucket of a chain but the first is drawn for it
pub has_home : (z : Shape) (h : List Event) (b d : ℕ) → IsLawful z h → 0 < d → d ≤ (bucket_after z h b).chained → (m : ℕ) × (home_of h m ≡ Some (home b d))
has_home z [] b d l lt le = absurd (omega arith)
has_home z (Chained p a m ∷ h) b d l lt le = let u = bucket_after z h b in ⊎_elim
    (λ t. let grown : (bucket_after z (Chained p a m ∷ h) b).chained ≡ u.chained + 1 = ap (λ v. v.chained) (cond-true (eqb a b) (acts (Chained p a m) u) u t) in ⊎_elim
    (λ e. (m, ((chain_of z h l.0 b).spare m (subst (λ x. (bucket_after z h x).spare ≡ Some m) (eqb-true a b t) l.1.suits.0)).1 ∙ ap (λ n. Some (home b n)) (sym e)))
    (λ ne. has_home z h b d l.0 lt (omega arith))
    (cases_eq d (u.chained + 1)))
    (λ f. let same : (bucket_after z (Chained p a m ∷ h) b).chained ≡ u.chained = ap (λ v. v.chained) (cond-false (eqb a b) (acts (Chained p a m) u) u f) in
    has_home z h b d l.0 lt (omega arith))
    (cases_Bool (eqb a b))
has_home z (e ∷ h) b d l lt le =
    let same : (bucket_after z (e ∷ h) b).chained ≡ (bucket_after z h b).chained = chained_kept z e h b (λ u. refl) in
    let w = has_home z h b d l.0 lt (omega arith) in
    (w.0, home_stays z (e ∷ []) h w.0 (home b d) l w.1)

-- a position of a chain is a word of the table
pub cell_of : (z : Shape) (h : List Event) (b n : ℕ) → IsLawful z h → IsPosition (bucket_after z h b) n → (c : Cell) × IsAt h b n c
cell_of z h b n l i = let lt = i.0 in ⊎_elim
    (λ e. (OfBucket b n, (refl, refl, omega arith)))
    (λ ne. let w = has_home z h b (n / 8) l (omega arith) (omega arith) in (OfOverflow w.0 (n % 8), (n / 8, w.1, omega arith, omega arith)))
    (cases_eq (n / 8) 0)

-- ---- the last word of each bucket but the last of a chain

pub no_next : (m : ℕ) → nothing ≢ next m
no_next m e = cc

pub next_no_item : (m : ℕ) (a : Slot) → item a ≢ next m
next_no_item m a e = cc

abbrev Joins : Bucket → ℕ → Type 0
Joins u d = (m : ℕ) × (u.items (8 * d + 7) ≡ next m)

not_room : (z : Shape) (h : List Event) (k : List ℕ) (n m : ℕ) → HasRoomFor z h k n → (bucket_after z h (bucket_of z k)).items n ≡ next m → ⊥
not_room z h k n m room e = ⊎_elim (λ r. no_next m (sym r.0 ∙ e)) (λ r. next_no_item m r.0 (sym r.1 ∙ e)) room

put_off : (u : Bucket) (n d : ℕ) (o : Content) → Joins u d → n ≢ 8 * d + 7 → (m : ℕ) × (cond (eqb n (8 * d + 7)) o (u.items (8 * d + 7)) ≡ next m)
put_off u n d o j ne = (j.0, cond-false (eqb n (8 * d + 7)) o (u.items (8 * d + 7)) (ne_eqb n (8 * d + 7) ne) ∙ j.1)

act_joins : (z : Shape) (e : Event) (h : List Event) (b d : ℕ) → is (bucket_at z e) b ≡ true → IsLawful z (e ∷ h)
    → d < (acts e (bucket_after z h b)).chained → (d < (bucket_after z h b).chained → Joins (bucket_after z h b) d)
    → Joins (acts e (bucket_after z h b)) d
act_joins z (Linked p q s r n) h b d t l lt ih = let j = ih lt in
    put_off (bucket_after z h b) n d (item (slot (key_of q) s r)) j
    (λ e. not_room z h (key_of q) n j.0 l.1.suits.4 (subst (λ x. (bucket_after z h x).items n ≡ next j.0) (sym (eqb-true (bucket_of z (key_of q)) b t)) (ap (bucket_after z h b).items e ∙ j.1)))
act_joins z (Relinked p k f i s r n) h b d t l lt ih = let j = ih lt in
    put_off (bucket_after z h b) n d (item (slot k s r)) j
    (λ e. next_no_item j.0 (slot k f i) (sym l.1.suits.2 ∙ subst (λ x. (bucket_after z h x).items n ≡ next j.0) (sym (eqb-true (bucket_of z k) b t)) (ap (bucket_after z h b).items e ∙ j.1)))
act_joins z (Unlinked p k n why) h b d t l lt ih = let j = ih lt in
    put_off (bucket_after z h b) n d nothing j
    (λ e. next_no_item j.0 l.1.suits.0 (sym l.1.suits.1 ∙ subst (λ x. (bucket_after z h x).items n ≡ next j.0) (sym (eqb-true (bucket_of z k) b t)) (ap (bucket_after z h b).items e ∙ j.1)))
act_joins z (Put p a w) h b d t l lt ih = put_off (bucket_after z h b) (fresh_position (bucket_after z h b)) d (copy w) (ih lt) (λ e. omega arith)
act_joins z (Chained p a m) h b d t l lt ih = let u = bucket_after z h b in ⊎_elim
    (λ e. (m, cond-true (eqb (last u) (8 * d + 7)) (next m) _ e))
    (λ f. let ne : u.chained ≢ d = (λ e. false≢true (sym f ∙ (let same : last u ≡ 8 * d + 7 = omega arith in eq-eqb (last u) (8 * d + 7) same))) in
    let j = put_off u (fresh_position u) d (u.items (last u)) (ih (omega arith)) (λ e. omega arith) in
    (j.0, cond-false (eqb (last u) (8 * d + 7)) (next m) _ f ∙ j.1))
    (cases_Bool (eqb (last u) (8 * d + 7)))
act_joins z e h b d t l lt ih = ih lt

pub joins : (z : Shape) (h : List Event) (b d : ℕ) → IsLawful z h → d < (bucket_after z h b).chained → Joins (bucket_after z h b) d
joins z [] b d l lt = absurd (omega arith)
joins z (e ∷ h) b d l lt = let u = bucket_after z h b in ⊎_elim
    (λ t. let s = cond-true (is (bucket_at z e) b) (acts e u) u t in
    subst (λ v. Joins v d) (sym s) (act_joins z e h b d t l (subst (λ v. d < v.chained) s lt) (λ lt'. joins z h b d l.0 lt')))
    (λ f. let s = cond-false (is (bucket_at z e) b) (acts e u) u f in
    subst (λ v. Joins v d) (sym s) (joins z h b d l.0 (subst (λ v. d < v.chained) s lt)))
    (cases_Bool (is (bucket_at z e) b))

-- ---- a bucket that is drawn and not yet chained waits under the bit

act_held : (z : Shape) (e : Event) (h : List Event) (b m : ℕ) → is (bucket_at z e) b ≡ true → IsLawful z (e ∷ h)
    → (acts e (bucket_after z h b)).spare ≡ Some m → (p : ℕ) × ((acts e (bucket_after z h b)).holder ≡ Some p)
act_held z (Took p a) h b m t l sp = (p, refl)
act_held z (Freed p a c) h b m t l sp = absurd (none-some m (sym (subst (λ x. (bucket_after z h x).spare ≡ None) (eqb-true a b t) l.1.suits.1) ∙ sp))
act_held z (Replied p q y) h b m t l sp = (p, guard_at z h (Replied p q y) b (bucket_at z (Replied p q y)) l.1.guarded t)
act_held z (Linked p q s r n) h b m t l sp = (p, guard_at z h (Linked p q s r n) b (bucket_at z (Linked p q s r n)) l.1.guarded t)
act_held z (Relinked p k f i s r n) h b m t l sp = (p, guard_at z h (Relinked p k f i s r n) b (bucket_at z (Relinked p k f i s r n)) l.1.guarded t)
act_held z (Unlinked p k n why) h b m t l sp = (p, guard_at z h (Unlinked p k n why) b (bucket_at z (Unlinked p k n why)) l.1.guarded t)
act_held z (Drew p a d n) h b m t l sp = (p, guard_at z h (Drew p a d n) b (bucket_at z (Drew p a d n)) l.1.guarded t)
act_held z (Put p a w) h b m t l sp = (p, guard_at z h (Put p a w) b (bucket_at z (Put p a w)) l.1.guarded t)
act_held z (Chained p a n) h b m t l sp = absurd (none-some m sp)
act_held z e h b m t l sp = absurd (false≢true t)

pub spare_held : (z : Shape) (h : List Event) (b m : ℕ) → IsLawful z h → (bucket_after z h b).spare ≡ Some m → (p : ℕ) × ((bucket_after z h b).holder ≡ Some p)
spare_held z [] b m l sp = absurd (none-some m sp)
spare_held z (e ∷ h) b m l sp = let u = bucket_after z h b in ⊎_elim
    (λ t. let s = cond-true (is (bucket_at z e) b) (acts e u) u t in
    let w = act_held z e h b m t l (ap (λ v. v.spare) (sym s) ∙ sp) in (w.0, ap (λ v. v.holder) s ∙ w.1))
    (λ f. let s = cond-false (is (bucket_at z e) b) (acts e u) u f in
    let w = spare_held z h b m l.0 (ap (λ v. v.spare) (sym s) ∙ sp) in (w.0, ap (λ v. v.holder) s ∙ w.1))
    (cases_Bool (is (bucket_at z e) b))
