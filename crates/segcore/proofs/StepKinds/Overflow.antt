-- The steps by which a chain grows: draw, fill, chain.
use Rattle.std.proofs.Common.{◌≡◌, ℕ, zero, suc, ◌+◌, ◌*◌, ◌<◌, ◌≤◌, Bool, true, false, cond, eqb, List, [], ◌∷◌, Option, Some, None, sym, refl, ap, ◌∙◌, ⊎_elim, arith}
use Rattle.std.proofs.lemmas.Bool.{cases_Bool, cond-true, cond-false, eqb-true, ne_eqb}
use Rattle.std.proofs.lemmas.Option.{none-some}
use Rattle.segword.specs.Words.{chain_word, Shape}
use Rattle.segcore.proofs.Coherent.{IsContent}
use Rattle.segcore.specs.Bucket.{Bucket, Content, nothing, item, next, copy, last, fresh_position, acts, bucket_after}
use Rattle.segcore.specs.Kind.{draw, fill, chain, HasBit, KeepsLaw}
use Rattle.segcore.specs.Lawful.{Fits, IsLawful}
use Rattle.segcore.specs.Overflow.{Home, drawn_in, home_of}
use Rattle.segcore.specs.Word.{IsCell, same_cell, content_word, word_in, overflow_word, word, IsAt}
use Rattle.segcore.specs.Words.{Cell, Event}
use Rattle.segcore.specs.declared.event.Event.TheVariants.{Drew, Put, Chained}
use Rattle.segcore.specs.declared.cell.Cell.TheVariants.{OfCounter, OfBucket, OfOverflow, OfSegment, OfRow}
use Rattle.segcore.proofs.Quiet.{home_drawn}
use Rattle.segcore.proofs.Chains.{chain_of}
use Rattle.segcore.proofs.Cells.{at_word, touch, change_at}
use Rattle.segcore.proofs.StepKinds.Words.{made, nothing_new, over_still, word_content, cell_in}
use Rattle.segcore.proofs.StepKinds.Items.{put_content, either_hit, either_miss}

pub fill_at : (z : Shape) (p b m w : ℕ) (h : List Event) → Fits z h (Put p b w)
    → (bucket_after z h b).spare ≡ Some m → IsLawful z h → KeepsLaw z (fill b m w) p h
fill_at z p b m w h f sp l =
    let u = bucket_after z h b in
    let e = Put p b w in
    let i : IsAt h b (fresh_position u) (OfOverflow m 1) = (u.chained + 1, ((chain_of z h l b).spare m sp).1, omega arith, omega arith) in
    made z (fill b m w) p h (e ∷ []) w refl refl (cell_in z h b (fresh_position u) (OfOverflow m 1) l f.guarded.0 i) (refl, tt) (l, f)
    (λ d i'. touch z h e b (fresh_position u) w (OfOverflow m 1) l i (record { homes = λ m. refl; drawn = refl; rows = λ s' r' j. refl; segments = λ s'. refl })
    (change_at z h e b (fresh_position u) w (λ k. refl) (put_content z h e u (acts e u) (fresh_position u) (copy w) (omega arith) refl refl (λ m. refl)) (λ a m g. refl)) d i')

pub chain_at : (z : Shape) (p b : ℕ) (c : Cell) (old m : ℕ) (h : List Event) → Fits z h (Chained p b m)
    → IsAt h b (last (bucket_after z h b)) c
    → (bucket_after z h b).items (fresh_position (bucket_after z h b)) ≡ copy old → IsLawful z h
    → KeepsLaw z (chain b c old m) p h
chain_at z p b c old m h f i is' l =
    let u = bucket_after z h b in
    let e = Chained p b m in
    let found = word z h c in
    let inside' = cell_in z h b (last u) c l f.guarded.0 i in
    ⊎_elim
    (λ t. made z (chain b c old m) p h (e ∷ []) (chain_word m) (cond-true (eqb found old) (e ∷ []) [] t) (either_hit found old (chain_word m) t) inside' (refl, tt) (l, f)
    (λ d i'. touch z h e b (last u) (chain_word m) c l i (record { homes = λ m. refl; drawn = refl; rows = λ s' r' j. refl; segments = λ s'. refl })
    (change_at z h e b (last u) (chain_word m) (λ k. refl) (own (sym (word_content z h u (last u) (omega arith)) ∙ (sym (at_word z h b (last u) c i) ∙ eqb-true found old t))) (λ a m g. refl)) d i'))
    (λ g. nothing_new z (chain b c old m) p h (cond-false (eqb found old) (e ∷ []) [] g) (either_miss found old (chain_word m) g) inside' l)
    (cases_Bool (eqb found old))
  where
    own : content_word h ((bucket_after z h b).items (last (bucket_after z h b))) ≡ old → (n : ℕ)
        → word_in z (Chained p b m ∷ h) (acts (Chained p b m) (bucket_after z h b)) n ≡ cond (eqb (last (bucket_after z h b)) n) (chain_word m) (word_in z h (bucket_after z h b) n)
    own was zero = rw (ne_eqb (last (bucket_after z h b)) 0 (λ e. omega arith)) refl
    own was (suc n) = let u = bucket_after z h b in ⊎_elim
        (λ t. rw t refl)
        (λ g. rw g (⊎_elim
        (λ t. let hit : u.items (fresh_position u) ≡ u.items (suc n) = ap u.items (eqb-true (fresh_position u) (suc n) t) in
        ap (content_word h) (cond-true (eqb (fresh_position u) (suc n)) (u.items (last u)) (u.items (suc n)) t) ∙ (was ∙ ap (content_word h) (sym is' ∙ hit)))
        (λ f'. ap (content_word h) (cond-false (eqb (fresh_position u) (suc n)) (u.items (last u)) (u.items (suc n)) f'))
        (cases_Bool (eqb (fresh_position u) (suc n)))))
        (cases_Bool (eqb (last u) (suc n)))

-- beyond a chain with no spare bucket there is nothing
beyond : (h : List Event) (b : ℕ) (u : Bucket) (n : ℕ) (c : Content) → u.spare ≡ None → 8 * u.chained + 8 ≤ n
    → IsContent h b u n c → content_word h c ≡ 0
beyond h b u n nothing sp le i = refl
beyond h b u n (item a) sp le i = let lt = i.0 in absurd (omega arith)
beyond h b u n (next m) sp le i = let lt = i.1 in let e = i.2 in absurd (omega arith)
beyond h b u n (copy w) sp le i = absurd (none-some i.1.0 (sym sp ∙ i.1.1))

pub draw_at : (z : Shape) (p b d from : ℕ) (h : List Event) → HasBit z h p b
    → (bucket_after z h b).spare ≡ None → d ≡ (bucket_after z h b).chained + 1 → d < 4 → from < z.overflow
    → IsLawful z h → KeepsLaw z (draw b d from) p h
draw_at z p b d from h has sp ed lt few l =
    let found = drawn_in h in
    ⊎_elim
    (λ t. let is' = eqb-true found from t in
    made z (draw b d from) p h (Drew p b d from ∷ []) (from + 1) (cond-true (eqb found from) (Drew p b d from ∷ []) [] t) (either_hit found from (from + 1) t) tt (refl, tt)
    (l, record { guarded = has; follows = tt; suits = (sym is', few, sp, ed, lt) })
    (words (sym is')))
    (λ g. nothing_new z (draw b d from) p h (cond-false (eqb found from) (Drew p b d from ∷ []) [] g) (either_miss found from (from + 1) g) tt l)
    (cases_Bool (eqb found from))
  where
    spared : (t : Bool) (u : Bucket) (n : ℕ)
        → word_in z h (cond t (record u { spare = Some from }) u) n ≡ word_in z h u n
    spared true u zero = refl
    spared true u (suc n) = refl
    spared false u n = refl

    same_in : (a n : ℕ) → word_in z (Drew p b d from ∷ h) (bucket_after z (Drew p b d from ∷ h) a) n ≡ word_in z h (bucket_after z h a) n
    same_in a n = spared (eqb b a) (bucket_after z h a) n

    words : from ≡ drawn_in h → (c : Cell) → IsCell z c
        → word z (Drew p b d from ∷ h) c ≡ cond (same_cell OfCounter c) (from + 1) (word z h c)
    words e OfCounter i = ap (λ n. n + 1) (sym e)
    words e (OfBucket a w) i = same_in a w
    words e (OfSegment s) i = refl
    words e (OfRow s r j) i = refl
    words e (OfOverflow m w) i = ⊎_elim
        (λ t. let em = eqb-true from m t in
        let old : home_of h m ≡ None = unhomed m (home_of h m) refl (omega arith) in
        ap (overflow_word z (Drew p b d from ∷ h) w) (cond-true (eqb from m) (Some (record { bucket = b; depth = d })) (home_of h m) t)
        ∙ (same_in b (8 * d + w) ∙ (word_content z h (bucket_after z h b) (8 * d + w) (omega arith)
        ∙ (beyond h b (bucket_after z h b) (8 * d + w) ((bucket_after z h b).items (8 * d + w)) sp (omega arith) ((chain_of z h l b).contents (8 * d + w)) ∙ ap (overflow_word z h w) (sym old)))))
        (λ f. ap (overflow_word z (Drew p b d from ∷ h) w)
        (cond-false (eqb from m) (Some (record { bucket = b; depth = d })) (home_of h m) f)
        ∙ over_still z h (Drew p b d from) same_in w (home_of h m))
        (cases_Bool (eqb from m))
      where
        unhomed : (m : ℕ) (o : Option Home) → home_of h m ≡ o → drawn_in h ≤ m → o ≡ None
        unhomed m None k le = refl
        unhomed m (Some x) k le = let a = home_drawn z h m x l k in absurd (omega arith)
