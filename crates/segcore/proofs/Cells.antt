-- A cell of a chain has one position, a position one cell; and what an event does to the words of the table.
use Rattle.std.proofs.Common.{◌≡◌, ℕ, ◌+◌, ◌*◌, ◌<◌, ◌≤◌, true, false, cond, eqb, ◌&&◌, List, [], ◌∷◌, ◌++◌, Option, Some, None, sym, refl, ap, ◌∙◌, subst, ⊎_elim, arith}
use Rattle.std.proofs.lemmas.Bool.{cases_Bool, cond-true, cond-false, eqb-true, eq-eqb, and_parts, and_from}
use Rattle.std.proofs.lemmas.Option.{same_Some, none-some}
use Rattle.segword.specs.Words.{Shape}
use Rattle.segcore.specs.Words.{Cell, Event}
use Rattle.segcore.specs.declared.event.Event.TheVariants.{Drew}
use Rattle.segcore.specs.declared.cell.Cell.TheVariants.{OfCounter, OfBucket, OfOverflow, OfSegment, OfRow}
use Rattle.segcore.specs.Bucket.{bucket_at, is, acts, bucket_after}
use Rattle.segcore.specs.Lawful.{IsLawful}
use Rattle.segcore.specs.Overflow.{Home, drawn_in, home_of}
use Rattle.segcore.specs.Row.{row_after}
use Rattle.segcore.specs.Word.{IsCell, same_cell, word_in, overflow_word, word, IsAt, segment_word}
use Rattle.segcore.proofs.Caches.{one_test}
use Rattle.segcore.proofs.Quiet.{home_stays, home_drawn}
use Rattle.segcore.proofs.Chains.{chain_of}
use Rattle.segcore.proofs.Addresses.{same_place}

abbrev at : ℕ → ℕ → Home
at b d = record { bucket = b; depth = d }

-- ---- homes

-- a new one's home is no old one's
new_home : (z : Shape) (p b d n : ℕ) (h : List Event) (m c e : ℕ) → IsLawful z (Drew p b d n ∷ h) → home_of h m ≡ Some (at c e) → b ≡ c → d ≡ e → ⊥
new_home z p b d n h m c e l is' eb ed = let s = l.1.suits in let ed' = s.3 in ⊎_elim
    (λ w. let le = w.1 in omega arith)
    (λ w. none-some m (sym s.2 ∙ w.1))
    ((chain_of z h l.0 b).homes m d (is' ∙ ap (λ x. Some (at x e)) (sym eb) ∙ ap (λ x. Some (at b x)) (sym ed)))

pub home_once : (z : Shape) (h : List Event) (m n b d : ℕ) → IsLawful z h → home_of h m ≡ Some (at b d) → home_of h n ≡ Some (at b d) → m ≡ n
home_once z [] m n b d l i j = absurd (none-some _ i)
home_once z (Drew p a e k ∷ h) m n b d l i j = ⊎_elim
    (λ s. ⊎_elim
    (λ t. sym (eqb-true k m s) ∙ eqb-true k n t)
    (λ t. let old = sym (cond-false (eqb k n) (Some (at a e)) (home_of h n) t) ∙ j in let new = same_Some _ _ (sym (cond-true (eqb k m) (Some (at a e)) (home_of h m) s) ∙ i) in
    absurd (new_home z p a e k h n b d l old (ap (λ (x : Home). x.bucket) new) (ap (λ (x : Home). x.depth) new)))
    (cases_Bool (eqb k n)))
    (λ s. let old = sym (cond-false (eqb k m) (Some (at a e)) (home_of h m) s) ∙ i in ⊎_elim
    (λ t. let new = same_Some _ _ (sym (cond-true (eqb k n) (Some (at a e)) (home_of h n) t) ∙ j) in
    absurd (new_home z p a e k h m b d l old (ap (λ (x : Home). x.bucket) new) (ap (λ (x : Home). x.depth) new)))
    (λ t. home_once z h m n b d l.0 old (sym (cond-false (eqb k n) (Some (at a e)) (home_of h n) t) ∙ j))
    (cases_Bool (eqb k n)))
    (cases_Bool (eqb k m))
home_once z (e ∷ h) m n b d l i j = home_once z h m n b d l.0 i j

pub deep : (z : Shape) (h : List Event) (m b d : ℕ) → IsLawful z h → home_of h m ≡ Some (at b d) → 0 < d
deep z h m b d l i = ⊎_elim (λ w. w.0) (λ w. let e = w.0 in omega arith) ((chain_of z h l b).homes m d i)

pub at_stays : (z : Shape) (more h : List Event) (b n : ℕ) (c : Cell) → IsLawful z (more ++ h) → IsAt h b n c → IsAt (more ++ h) b n c
at_stays z more h b n (OfBucket a w) l i = i
at_stays z more h b n (OfOverflow m w) l i = (i.0, home_stays z more h m (at b i.0) l i.1, i.2, i.3)
at_stays z more h b n OfCounter l i = absurd i
at_stays z more h b n (OfSegment s) l i = absurd i
at_stays z more h b n (OfRow s r j) l i = absurd i

-- ---- cells and positions

pub one_position : (h : List Event) (b n b' n' : ℕ) (c : Cell) → IsAt h b n c → IsAt h b' n' c → (b ≡ b') × (n ≡ n')
one_position h b n b' n' (OfBucket a w) i j = (sym i.0 ∙ j.0, sym i.1 ∙ j.1)
one_position h b n b' n' (OfOverflow m w) i j = let e = same_Some (at b i.0) (at b' j.0) (sym i.1 ∙ j.1) in let ed = ap (λ (x : Home). x.depth) e in let p = i.2 in let q = j.2 in
    (ap (λ (x : Home). x.bucket) e, omega arith)
one_position h b n b' n' OfCounter i j = absurd i
one_position h b n b' n' (OfSegment s) i j = absurd i
one_position h b n b' n' (OfRow s r k) i j = absurd i

pub one_cell : (z : Shape) (h : List Event) (b n : ℕ) (c c' : Cell) → IsLawful z h → IsAt h b n c → IsAt h b n c' → c ≡ c'
one_cell z h b n (OfBucket a w) (OfBucket a' w') l i j = let ea = i.0 ∙ sym j.0 in let ew = i.1 ∙ sym j.1 in (λ t. OfBucket (ea t) (ew t))
one_cell z h b n (OfBucket a w) (OfOverflow m v) l i j = let d = deep z h m b j.0 l j.1 in let p = i.1 in let lt = i.2 in let q = j.2 in absurd (omega arith)
one_cell z h b n (OfOverflow m v) (OfBucket a w) l j i = let d = deep z h m b j.0 l j.1 in let p = i.1 in let lt = i.2 in let q = j.2 in absurd (omega arith)
one_cell z h b n (OfOverflow m w) (OfOverflow m' w') l i j = let p = i.2 in let q = j.2 in let lt = i.3 in let lt' = j.3 in
    let ed : i.0 ≡ j.0 = omega arith in let ew : w ≡ w' = omega arith in
    let em = home_once z h m m' b i.0 l i.1 (j.1 ∙ ap (λ x. Some (at b x)) (sym ed)) in (λ t. OfOverflow (em t) (ew t))
one_cell z h b n OfCounter c l i j = absurd i
one_cell z h b n (OfSegment s) c l i j = absurd i
one_cell z h b n (OfRow s r k) c l i j = absurd i
one_cell z h b n (OfBucket a w) OfCounter l i j = absurd j
one_cell z h b n (OfBucket a w) (OfSegment s) l i j = absurd j
one_cell z h b n (OfBucket a w) (OfRow s r k) l i j = absurd j
one_cell z h b n (OfOverflow a w) OfCounter l i j = absurd j
one_cell z h b n (OfOverflow a w) (OfSegment s) l i j = absurd j
one_cell z h b n (OfOverflow a w) (OfRow s r k) l i j = absurd j

same_itself : (c : Cell) → same_cell c c ≡ true
same_itself OfCounter = refl
same_itself (OfBucket b w) = and_from (eqb b b) (eqb w w) (eq-eqb b b refl) (eq-eqb w w refl)
same_itself (OfOverflow b w) = and_from (eqb b b) (eqb w w) (eq-eqb b b refl) (eq-eqb w w refl)
same_itself (OfSegment s) = eq-eqb s s refl
same_itself (OfRow s r j) = and_from (eqb s s) (eqb r r && eqb j j) (eq-eqb s s refl) (and_from (eqb r r) (eqb j j) (eq-eqb r r refl) (eq-eqb j j refl))

at_same : (z : Shape) (h : List Event) (b0 n0 b n : ℕ) (c0 c : Cell) → IsLawful z h → IsAt h b0 n0 c0 → IsAt h b n c → (eqb b0 b && eqb n0 n) ≡ same_cell c0 c
at_same z h b0 n0 b n c0 c l i j = one_test (eqb b0 b && eqb n0 n) (same_cell c0 c)
    (λ t. let q = and_parts (eqb b0 b) (eqb n0 n) t in
    let i' : IsAt h b n c0 = subst (λ x. IsAt h x n c0) (eqb-true b0 b q.0) (subst (λ x. IsAt h b0 x c0) (eqb-true n0 n q.1) i) in
    subst (λ x. same_cell c0 x ≡ true) (one_cell z h b n c0 c l i' j) (same_itself c0))
    (λ t. let e = same_place c0 c t in let q = one_position h b0 n0 b n c (subst (IsAt h b0 n0) e i) j in and_from (eqb b0 b) (eqb n0 n) (eq-eqb b0 b q.0) (eq-eqb n0 n q.1))

-- the word of a position's cell
pub at_word : (z : Shape) (h : List Event) (b n : ℕ) (c : Cell) → IsAt h b n c → word z h c ≡ word_in z h (bucket_after z h b) n
at_word z h b n (OfBucket a w) i = rw (i.0, i.1) refl
at_word z h b n (OfOverflow m w) i = rw (i.1, i.2) refl
at_word z h b n OfCounter i = absurd i
at_word z h b n (OfSegment s) i = absurd i
at_word z h b n (OfRow s r j) i = absurd i

-- ---- an event that changes the word of one position

pub record Elsewhere (z : Shape) (h : List Event) (e : Event) : Type 0 where
  pub homes : (m : ℕ) → home_of (e ∷ h) m ≡ home_of h m
  pub drawn : drawn_in (e ∷ h) ≡ drawn_in h
  pub rows : (s r j : ℕ) → (row_after (e ∷ h) s r).words j ≡ (row_after h s r).words j
  pub segments : (s : ℕ) → segment_word (e ∷ h) s ≡ segment_word h s

module _ (z : Shape) (h : List Event) (e : Event) (b0 n0 x : ℕ) (c0 : Cell) (l : IsLawful z h) (i0 : IsAt h b0 n0 c0) (s : Elsewhere z h e)
    (change : (b n : ℕ) → word_in z (e ∷ h) (bucket_after z (e ∷ h) b) n ≡ cond (eqb b0 b && eqb n0 n) x (word_in z h (bucket_after z h b) n)) where
  not_there : (c : Cell) → ((b n : ℕ) → ¬ (IsAt h b n c)) → same_cell c0 c ≡ false
  not_there c none = ⊎_elim (λ t. absurd (none b0 n0 (subst (IsAt h b0 n0) (same_place c0 c t) i0))) (λ f. f) (cases_Bool (same_cell c0 c))

  over : (m w : ℕ) (o : Option Home) → w < 8 → home_of h m ≡ o → overflow_word z (e ∷ h) w o ≡ cond (same_cell c0 (OfOverflow m w)) x (overflow_word z h w o)
  over m w None lt is' = sym (cond-false (same_cell c0 (OfOverflow m w)) x 0 (not_there (OfOverflow m w) (λ b n i. none-some _ (sym is' ∙ i.1))))
  over m w (Some y) lt is' = change y.bucket (8 * y.depth + w) ∙ ap (λ t. cond t x (word_in z h (bucket_after z h y.bucket) (8 * y.depth + w)))
      (at_same z h b0 n0 y.bucket (8 * y.depth + w) c0 (OfOverflow m w) l i0 (y.depth, is', refl, lt))

  pub touch : (c : Cell) → IsCell z c → word z (e ∷ h) c ≡ cond (same_cell c0 c) x (word z h c)
  touch OfCounter i = s.drawn ∙ sym (cond-false (same_cell c0 OfCounter) x (drawn_in h) (not_there OfCounter (λ b n i. i)))
  touch (OfSegment t) i = s.segments t ∙ sym (cond-false (same_cell c0 (OfSegment t)) x (segment_word h t) (not_there (OfSegment t) (λ b n i. i)))
  touch (OfRow t r j) i = s.rows t r j ∙ sym (cond-false (same_cell c0 (OfRow t r j)) x ((row_after h t r).words j) (not_there (OfRow t r j) (λ b n i. i)))
  touch (OfBucket b w) i = change b w ∙ ap (λ t. cond t x (word_in z h (bucket_after z h b) w)) (at_same z h b0 n0 b w c0 (OfBucket b w) l i0 (refl, refl, i.1))
  touch (OfOverflow m w) i = ap (overflow_word z (e ∷ h) w) (s.homes m) ∙ over m w (home_of h m) i.1 refl

-- an event of the bucket that changes one word of it, and no other word of any
pub change_at : (z : Shape) (h : List Event) (e : Event) (b0 n0 x : ℕ) → ((b : ℕ) → is (bucket_at z e) b ≡ eqb b0 b)
    → ((n : ℕ) → word_in z (e ∷ h) (acts e (bucket_after z h b0)) n ≡ cond (eqb n0 n) x (word_in z h (bucket_after z h b0) n))
    → ((b n : ℕ) → eqb b0 b ≡ false → word_in z (e ∷ h) (bucket_after z h b) n ≡ word_in z h (bucket_after z h b) n)
    → (b n : ℕ) → word_in z (e ∷ h) (bucket_after z (e ∷ h) b) n ≡ cond (eqb b0 b && eqb n0 n) x (word_in z h (bucket_after z h b) n)
change_at z h e b0 n0 x here own others b n = ⊎_elim
    (λ t. ap (λ u. word_in z (e ∷ h) u n) (cond-true (is (bucket_at z e) b) (acts e (bucket_after z h b)) (bucket_after z h b) (here b ∙ t))
    ∙ rw t (subst (λ k. word_in z (e ∷ h) (acts e (bucket_after z h k)) n ≡ cond (eqb n0 n) x (word_in z h (bucket_after z h k) n)) (eqb-true b0 b t) (own n)))
    (λ f. ap (λ u. word_in z (e ∷ h) u n) (cond-false (is (bucket_at z e) b) (acts e (bucket_after z h b)) (bucket_after z h b) (here b ∙ f)) ∙ rw f (others b n f))
    (cases_Bool (eqb b0 b))

deep_at_most : (z : Shape) (h : List Event) (m b d : ℕ) → IsLawful z h → (bucket_after z h b).spare ≡ None → home_of h m ≡ Some (at b d) → d ≤ (bucket_after z h b).chained
deep_at_most z h m b d l sp i = ⊎_elim (λ w. w.1) (λ w. absurd (none-some m (sym sp ∙ w.1))) ((chain_of z h l b).homes m d i)

-- numbers rise along a chain
pub rising : (z : Shape) (h : List Event) (m n b d e : ℕ) → IsLawful z h → home_of h m ≡ Some (at b d) → home_of h n ≡ Some (at b e) → d < e → m < n
rising z [] m n b d e l i j lt = absurd (none-some _ i)
rising z (Drew p a c k ∷ h) m n b d e l i j lt = ⊎_elim
    (λ s. let new = same_Some _ _ (sym (cond-true (eqb k m) (Some (at a c)) (home_of h m) s) ∙ i) in let ea = ap (λ (x : Home). x.bucket) new in let ec = ap (λ (x : Home). x.depth) new in ⊎_elim
    (λ t. let new' = same_Some _ _ (sym (cond-true (eqb k n) (Some (at a c)) (home_of h n) t) ∙ j) in let ec' = ap (λ (x : Home). x.depth) new' in absurd (omega arith))
    (λ t. let old = sym (cond-false (eqb k n) (Some (at a c)) (home_of h n) t) ∙ j in
    let le = deep_at_most z h n a e l.0 l.1.suits.2 (old ∙ ap (λ x. Some (at x e)) (sym ea)) in let ed = l.1.suits.3 in absurd (omega arith))
    (cases_Bool (eqb k n)))
    (λ s. let old = sym (cond-false (eqb k m) (Some (at a c)) (home_of h m) s) ∙ i in ⊎_elim
    (λ t. let ek = eqb-true k n t in let low = home_drawn z h m (at b d) l.0 old in let is' = l.1.suits.0 in omega arith)
    (λ t. rising z h m n b d e l.0 old (sym (cond-false (eqb k n) (Some (at a c)) (home_of h n) t) ∙ j) lt)
    (cases_Bool (eqb k n)))
    (cases_Bool (eqb k m))
rising z (x ∷ h) m n b d e l i j lt = rising z h m n b d e l.0 i j lt
