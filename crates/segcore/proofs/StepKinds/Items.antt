-- The steps that put an item into a word of a chain, or take it out: link, relink, clear.
use Rattle.std.proofs.Common.{◌≡◌, ℕ, zero, suc, ◌<◌, true, false, cond, eqb, ◌&&◌, List, [], ◌∷◌, Some, None, sym, refl, ap, ◌∙◌, subst, ⊎_elim, arith}
use Rattle.std.proofs.lemmas.Bool.{cases_Bool, cond-true, cond-false, eqb-true, eq-eqb, ne_eqb, and_parts, and_from, false_from_ne_true}
use Rattle.std.proofs.lemmas.Option.{none-some}
use prog.Atomic.{either}
use Rattle.segword.specs.Words.{Shape}
use Rattle.segmodel.specs.Words.{bucket_of, key_of, Request, tag_of}
use Rattle.segcore.specs.Bucket.{Bucket, Slot, Content, nothing, item, next, copy, slot, acts, bucket_after, IsPosition}
use Rattle.segcore.specs.ItemWord.{packed}
use Rattle.segcore.specs.Kind.{link, relink, clear, KeepsLaw}
use Rattle.segcore.specs.Lawful.{Fits, IsLawful}
use Rattle.segcore.specs.Row.{frequency_of, row_after}
use Rattle.segcore.specs.Word.{content_word, bucket_info_word, word_in, word, IsAt}
use Rattle.segcore.specs.Words.{Cell, Event, Leaving}
use Rattle.segcore.specs.declared.event.Event.TheVariants.{Linked, Relinked, Unlinked, Bumped}
use Rattle.segcore.proofs.Quiet.{linked_first, moved_first}
use Rattle.segcore.proofs.Standing.{coherent, link_words, move_words}
use Rattle.segcore.proofs.Cells.{touch, change_at, at_word}
use Rattle.segcore.proofs.StepKinds.Words.{made, nothing_new, word_content, cell_in}

-- an event that puts o at a position of its bucket, and keeps what the other words say
pub put_content : (z : Shape) (h : List Event) (e : Event) (u v : Bucket) (n : ℕ) (o : Content) → 0 < n
    → v.items ≡ (λ m. cond (eqb n m) o (u.items m)) → bucket_info_word z v ≡ bucket_info_word z u
    → ((m : ℕ) → content_word (e ∷ h) (u.items m) ≡ content_word h (u.items m))
    → (m : ℕ) → word_in z (e ∷ h) v m ≡ cond (eqb n m) (content_word (e ∷ h) o) (word_in z h u m)
put_content z h e u v n o lt is' same_info kept zero = rw (ne_eqb n 0 (λ e. omega arith)) same_info
put_content z h e u v n o lt is' same_info kept (suc m) = ap (λ f. content_word (e ∷ h) (f (suc m))) is' ∙ ⊎_elim (λ t. rw t refl) (λ f. rw f (kept (suc m))) (cases_Bool (eqb n (suc m)))

pub either_hit : (n old x : ℕ) → eqb n old ≡ true → either (eqb n old) x n ≡ x
either_hit n old x t = rw t refl

pub either_miss : (n old x : ℕ) → eqb n old ≡ false → either (eqb n old) x n ≡ n
either_miss n old x f = rw f refl

-- the frequency of one row changes: what names another row keeps its word
linked_kept : (h : List Event) (p : ℕ) (q : Request) (s r n : ℕ) (c : Content)
    → ((a : Slot) → c ≡ item a → (eqb s a.segment && eqb r a.row) ≡ false)
    → content_word (Linked p q s r n ∷ h) c ≡ content_word h c
linked_kept h p q s r n nothing f = refl
linked_kept h p q s r n (item a) f = ap (λ x. packed (tag_of a.key) x a.segment a.row) (cond-false (eqb s a.segment && eqb r a.row) 1 (frequency_of h a.segment a.row) (f a refl))
linked_kept h p q s r n (next m) f = refl
linked_kept h p q s r n (copy w) f = refl

moved_kept : (h : List Event) (p : ℕ) (k : List ℕ) (x i s r n : ℕ) (c : Content)
    → ((a : Slot) → c ≡ item a → (eqb s a.segment && eqb r a.row) ≡ false)
    → content_word (Relinked p k x i s r n ∷ h) c ≡ content_word h c
moved_kept h p k x i s r n nothing f = refl
moved_kept h p k x i s r n (item a) f = ap (λ y. packed (tag_of a.key) y a.segment a.row) (cond-false (eqb s a.segment && eqb r a.row) (frequency_of h x i) (frequency_of h a.segment a.row) (f a refl))
moved_kept h p k x i s r n (next m) f = refl
moved_kept h p k x i s r n (copy w) f = refl

pub bumped_kept : (h : List Event) (p s r g : ℕ) (c : Content)
    → ((a : Slot) → c ≡ item a → (eqb s a.segment && eqb r a.row) ≡ false)
    → content_word (Bumped p s r g ∷ h) c ≡ content_word h c
bumped_kept h p s r g nothing f = refl
bumped_kept h p s r g (item a) f = ap (λ x. packed (tag_of a.key) x a.segment a.row) (cond-false (eqb s a.segment && eqb r a.row) g (frequency_of h a.segment a.row) (f a refl))
bumped_kept h p s r g (next m) f = refl
bumped_kept h p s r g (copy w) f = refl

-- no item names a row that isn't linked
unnamed : (z : Shape) (h : List Event) (s r b m : ℕ) → IsLawful z h → (row_after h s r).linked ≡ None
    → (a : Slot) → (bucket_after z h b).items m ≡ item a → (eqb s a.segment && eqb r a.row) ≡ false
unnamed z h s r b m l none a is' = false_from_ne_true (eqb s a.segment && eqb r a.row) (λ t. let q = and_parts (eqb s a.segment) (eqb r a.row) t in
    none-some a.key (sym none ∙ subst (λ y. (row_after h s y).linked ≡ Some a.key) (sym (eqb-true r a.row q.1))
    (subst (λ y. (row_after h y a.row).linked ≡ Some a.key) (sym (eqb-true s a.segment q.0))
    ((coherent z h l).items b m a is').linked)))

pub above : (u : Bucket) (n : ℕ) → IsPosition u n → 0 < n
above u n i = let e = i.1 in omega arith

pub link_at : (z : Shape) (p : ℕ) (q : Request) (s r n : ℕ) (c : Cell) (old : ℕ) (h : List Event)
    → Fits z h (Linked p q s r n) → IsAt h (bucket_of z (key_of q)) n c → IsLawful z h
    → KeepsLaw z (link q s r n c old) p h
link_at z p q s r n c old h f i l =
    let b = bucket_of z (key_of q) in
    let u = bucket_after z h b in
    let e = Linked p q s r n in
    let found = word z h c in
    let x = packed (tag_of (key_of q)) 1 s r in
    let inside' = cell_in z h b n c l f.guarded.0 i in
    let kept : (a m : ℕ) → content_word (e ∷ h) ((bucket_after z h a).items m) ≡ content_word h
    ((bucket_after z h a).items m) = (λ a m. linked_kept h p q s r n ((bucket_after z h a).items m)
    (unnamed z h s r a m l (linked_first z h p q s r n f.suits).3)) in
    let new : content_word (e ∷ h) (item (slot (key_of q) s r)) ≡ x =
    ap (λ y. packed (tag_of (key_of q)) y s r)
    (cond-true (eqb s s && eqb r r) 1 (frequency_of h s r)
    (and_from (eqb s s) (eqb r r) (eq-eqb s s refl) (eq-eqb r r refl))) in
    ⊎_elim
    (λ t. made z (link q s r n c old) p h (e ∷ []) x (cond-true (eqb found old) (e ∷ []) [] t) (either_hit found old x t) inside' (refl, tt) (l, f)
    (λ d i'. touch z h e b n x c l i (record { homes = λ m. refl; drawn = refl; rows = link_words h p q s r n; segments = λ s'. refl })
    (change_at z h e b n x (λ k. refl)
    (λ m. put_content z h e u (acts e u) n (item (slot (key_of q) s r)) (above u n f.suits.3) refl refl (kept b) m ∙ ap (λ y. cond (eqb n m) y (word_in z h u m)) new)
    (λ a m g. others a m)) d i'))
    (λ g. nothing_new z (link q s r n c old) p h (cond-false (eqb found old) (e ∷ []) [] g) (either_miss found old x g) inside' l)
    (cases_Bool (eqb found old))
  where
    others : (a m : ℕ) → word_in z (Linked p q s r n ∷ h) (bucket_after z h a) m ≡ word_in z h (bucket_after z h a) m
    others a zero = refl
    others a (suc m) = linked_kept h p q s r n ((bucket_after z h a).items (suc m)) (unnamed z h s r a (suc m) l (linked_first z h p q s r n f.suits).3)

-- two item words that differ in the frequency alone
same_frequency : (t f g s r : ℕ) → packed t f s r ≡ packed t g s r → f ≡ g
same_frequency t f g s r e = omega arith

pub relink_at : (z : Shape) (p : ℕ) (k : List ℕ) (x i f s r n : ℕ) (c : Cell) (h : List Event)
    → Fits z h (Relinked p k x i s r n) → IsAt h (bucket_of z k) n c → IsLawful z h
    → KeepsLaw z (relink k x i f s r n c) p h
relink_at z p k x i f s r n c h g at l =
    let b = bucket_of z k in
    let u = bucket_after z h b in
    let e = Relinked p k x i s r n in
    let found = word z h c in
    let old = packed (tag_of k) f x i in
    let y = packed (tag_of k) f s r in
    let lt = above u n ((coherent z h l).items b n (slot k x i) g.suits.2).position in
    let inside' = cell_in z h b n c l g.guarded.0 at in
    let kept : (a m : ℕ) → content_word (e ∷ h) ((bucket_after z h a).items m) ≡ content_word h
    ((bucket_after z h a).items m) = (λ a m. moved_kept h p k x i s r n ((bucket_after z h a).items m)
    (unnamed z h s r a m l (moved_first z h p k x i s r n g.suits).3)) in
    let was : found ≡ packed (tag_of k) (frequency_of h x i) x i = at_word z h b n c at ∙ (word_content z h u n lt ∙ ap (content_word h) g.suits.2) in
    ⊎_elim
    (λ t. let ef : frequency_of h x i ≡ f = same_frequency (tag_of k) (frequency_of h x i) f x i (sym was ∙ eqb-true found old t) in
    let new : content_word (e ∷ h) (item (slot k s r)) ≡ y =
    ap (λ q. packed (tag_of k) q s r) (cond-true (eqb s s && eqb r r) (frequency_of h x i) (frequency_of h s r)
    (and_from (eqb s s) (eqb r r) (eq-eqb s s refl) (eq-eqb r r refl)) ∙ ef) in
    made z (relink k x i f s r n c) p h (e ∷ []) y (cond-true (eqb found old) (e ∷ []) [] t) (either_hit found old y t) inside' (refl, tt) (l, g)
    (λ d i'. touch z h e b n y c l at (record { homes = λ m. refl; drawn = refl; rows = move_words h p k x i s r n; segments = λ s'. refl })
    (change_at z h e b n y (λ k. refl)
    (λ m. put_content z h e u (acts e u) n (item (slot k s r)) lt refl refl (kept b) m ∙ ap (λ y. cond (eqb n m) y (word_in z h u m)) new)
    (λ a m g. others a m)) d i'))
    (λ t. nothing_new z (relink k x i f s r n c) p h (cond-false (eqb found old) (e ∷ []) [] t) (either_miss found old y t) inside' l)
    (cases_Bool (eqb found old))
  where
    others : (a m : ℕ) → word_in z (Relinked p k x i s r n ∷ h) (bucket_after z h a) m ≡ word_in z h (bucket_after z h a) m
    others a zero = refl
    others a (suc m) = moved_kept h p k x i s r n ((bucket_after z h a).items (suc m)) (unnamed z h s r a (suc m) l (moved_first z h p k x i s r n g.suits).3)

pub clear_at : (z : Shape) (p : ℕ) (k : List ℕ) (n : ℕ) (c : Cell) (old : ℕ) (why : Leaving) (h : List Event)
    → Fits z h (Unlinked p k n why) → 0 < n → IsAt h (bucket_of z k) n c → IsLawful z h
    → KeepsLaw z (clear k n c old why) p h
clear_at z p k n c old why h f lt i l =
    let b = bucket_of z k in
    let u = bucket_after z h b in
    let e = Unlinked p k n why in
    let found = word z h c in
    let inside' = cell_in z h b n c l f.guarded.0 i in
    ⊎_elim
    (λ t. made z (clear k n c old why) p h (e ∷ []) 0 (cond-true (eqb found old) (e ∷ []) [] t) (either_hit found old 0 t) inside' (refl, tt) (l, f)
    (λ d i'. touch z h e b n 0 c l i (record { homes = λ m. refl; drawn = refl; rows = λ s' r' j. refl; segments = λ s'. refl })
    (change_at z h e b n 0 (λ k. refl) (put_content z h e u (acts e u) n nothing lt refl refl (λ m. refl)) (λ a m g. refl)) d i'))
    (λ g. nothing_new z (clear k n c old why) p h (cond-false (eqb found old) (e ∷ []) [] g) (either_miss found old 0 g) inside' l)
    (cases_Bool (eqb found old))
