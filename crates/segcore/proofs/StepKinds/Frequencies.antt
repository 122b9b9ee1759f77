-- The step that raises the frequency in an item word: bump.
use Rattle.std.proofs.Common.{◌≡◌, ℕ, zero, suc, ◌^◌, ◌<◌, cond, eqb, ◌&&◌, List, [], ◌∷◌, sym, refl, ap, ◌∙◌, ⊎_elim, arith}
use Rattle.std.proofs.lemmas.Bool.{cases_Bool, cond-true, cond-false, eqb-true, eq-eqb, and_parts, and_from, false≢true, false_from_ne_true}
use Rattle.std.proofs.lemmas.Option.{same_Some}
use Rattle.segword.specs.Words.{IsValid, Shape}
use Rattle.segcore.proofs.Coherent.{IsContent, place}
use Rattle.segcore.specs.Bucket.{Slot, Content, nothing, item, next, copy, bucket_after, IsPosition}
use Rattle.segcore.specs.ItemWord.{packed, IsInItem}
use Rattle.segcore.specs.Kind.{bump, KeepsLaw}
use Rattle.segcore.specs.Lawful.{IsLawful}
use Rattle.segcore.specs.Row.{row_after, frequency_of}
use Rattle.segcore.specs.Word.{content_word, word_in, word, IsItemAt}
use Rattle.segmodel.specs.Words.{bucket_of, tag_of}
use Rattle.segcore.specs.Words.{Cell, Event}
use Rattle.segcore.specs.declared.event.Event.TheVariants.{Bumped}
use Rattle.segcore.proofs.Quiet.{home_drawn}
use Rattle.segcore.proofs.Chains.{chain_of}
use Rattle.segcore.proofs.Standing.{coherent}
use Rattle.segcore.proofs.Cells.{at_word, touch}
use Rattle.segcore.proofs.Limits.{few_drawn, low_row, low_segment, low_frequency, drawn_few}
use Rattle.segcore.proofs.StepKinds.Words.{made, nothing_new, word_content, cell_in}
use Rattle.segcore.proofs.StepKinds.Items.{either_hit, either_miss, bumped_kept, above}

-- what an item word at a position of a chain says
pub record Named (z : Shape) (h : List Event) (b n t s r f : ℕ) : Type 0 where
  pub slot : Slot
  pub here : (bucket_after z h b).items n ≡ item slot
  pub tag : tag_of slot.key ≡ t
  pub segment : slot.segment ≡ s
  pub row : slot.row ≡ r
  pub frequency : frequency_of h s r ≡ f

same_parts : (t f s r t' f' s' r' : ℕ) → f < 256 → f' < 256 → s < 2 ^ 24 → s' < 2 ^ 24 → r < 2 ^ 20
    → r' < 2 ^ 20 → packed t f s r ≡ packed t' f' s' r' → (t ≡ t') × (f ≡ f') × (s ≡ s') × (r ≡ r')
same_parts t f s r t' f' s' r' a a' b b' c c' e = (omega arith, omega arith, omega arith, omega arith)

pub names : (z : Shape) (h : List Event) (b n t s r f : ℕ) → IsValid z → IsLawful z h
    → IsPosition (bucket_after z h b) n → IsInItem t s r → f < 256
    → content_word h ((bucket_after z h b).items n) ≡ packed t f s r → Named z h b n t s r f
names z h b n t s r f v l i q lf e = by_content ((bucket_after z h b).items n) refl ((chain_of z h l b).contents n) e
  where
    by_content : (c : Content) → (bucket_after z h b).items n ≡ c → IsContent h b (bucket_after z h b) n c
        → content_word h c ≡ packed t f s r → Named z h b n t s r f
    by_content nothing is' k e = let a = q.0 in absurd (omega arith)
    by_content (next m) is' k e = let a = q.0 in let lt = home_drawn z h m _ l k.3 in let d = drawn_few z h l in let o = few_drawn z v in absurd (omega arith)
    by_content (copy w) is' k e = let a = i.0 in let x = k.0 in absurd (omega arith)
    by_content (item a) is' k e = let st = (coherent z h l).items b n a is' in
        let parts = same_parts (tag_of a.key) (frequency_of h a.segment a.row) a.segment a.row t f s r
        (low_frequency z h a.segment a.row l) lf (low_segment z a.segment v st.within.0) q.2
        (low_row z a.row v st.within.1) q.3 e in
        record {
          slot = a;
          here = is';
          tag = parts.0;
          segment = parts.2;
          row = parts.3;
          frequency = (λ j. frequency_of h (sym parts.2 j) (sym parts.3 j)) ∙ parts.1;
        }

-- no two positions name one row
pub one_place : (z : Shape) (h : List Event) (b n b' n' : ℕ) (a a' : Slot) → IsLawful z h
    → (bucket_after z h b).items n ≡ item a → (bucket_after z h b').items n' ≡ item a'
    → a.segment ≡ a'.segment → a.row ≡ a'.row → (b ≡ b') × (n ≡ n')
one_place z h b n b' n' a a' l is' is'' es er = let c = coherent z h l in let st = c.items b n a is' in let st' = c.items b' n' a' is'' in
    let ek : a.key ≡ a'.key = same_Some a.key a'.key (sym st.linked ∙ ((λ j. (row_after h (es j) (er j)).linked) ∙ st'.linked)) in
    (sym st.here ∙ (ap (bucket_of z) ek ∙ st'.here), same_Some n n' (sym (c.placed b n a is') ∙ (ap (place z h) ek ∙ c.placed b' n' a' is'')))

pub bump_at : (z : Shape) (p b n : ℕ) (c : Cell) (t s r f g : ℕ) (h : List Event) → IsValid z → b < z.buckets
    → IsItemAt z h b n c → IsInItem t s r → f < g → g < 256 → IsLawful z h → KeepsLaw z (bump b n c t s r f g) p h
bump_at z p b n c t s r f g h v lb i q lt lg l =
    let e = Bumped p s r g in
    let found = word z h c in
    let inside' = cell_in z h b n c l lb i.1 in
    let old = packed t f s r in
    ⊎_elim
    (λ y. let x = names z h b n t s r f v l i.0 q (omega arith)
    (sym (word_content z h (bucket_after z h b) n (above (bucket_after z h b) n i.0))
    ∙ (sym (at_word z h b n c i.1) ∙ eqb-true found old y)) in
    let fq = x.frequency in
    made z (bump b n c t s r f g) p h (e ∷ []) (packed t g s r) (cond-true (eqb found old) (e ∷ []) [] y) (either_hit found old (packed t g s r) y) inside' (refl, tt)
    (l, record { guarded = tt; follows = tt; suits = (omega arith, lg) })
    (λ d i'. touch z h e b n (packed t g s r) c l i.1 (record { homes = λ m. refl; drawn = refl; rows = λ s' r' j. refl; segments = λ s'. refl }) (change x) d i'))
    (λ y. nothing_new z (bump b n c t s r f g) p h (cond-false (eqb found old) (e ∷ []) [] y) (either_miss found old (packed t g s r) y) inside' l)
    (cases_Bool (eqb found old))
  where
    change : Named z h b n t s r f → (b' n' : ℕ)
        → word_in z (Bumped p s r g ∷ h) (bucket_after z (Bumped p s r g ∷ h) b') n' ≡ cond (eqb b b' && eqb n n') (packed t g s r) (word_in z h (bucket_after z h b') n')
    change x b' zero = sym (cond-false (eqb b b' && eqb n 0) (packed t g s r) _
        (false_from_ne_true (eqb b b' && eqb n 0) (λ y. let w = eqb-true n 0 (and_parts (eqb b b') (eqb n 0) y).1 in
        let lt' = above (bucket_after z h b) n i.0 in omega arith)))
    change x b' (suc n') = ⊎_elim
        (λ y. let w = and_parts (eqb b b') (eqb n (suc n')) y in
        let is' : (bucket_after z h b').items (suc n') ≡ item x.slot = (λ j. (bucket_after z h (sym (eqb-true b b' w.0) j)).items (sym (eqb-true n (suc n') w.1) j)) ∙ x.here in
        ap (content_word (Bumped p s r g ∷ h)) is' ∙ (hit x ∙ sym (cond-true (eqb b b' && eqb n (suc n')) (packed t g s r) _ y)))
        (λ y. bumped_kept h p s r g ((bucket_after z h b').items (suc n')) (λ a is'. false_from_ne_true (eqb s a.segment && eqb r a.row)
        (λ m. let w = and_parts (eqb s a.segment) (eqb r a.row) m in
        let o = one_place z h b n b' (suc n') x.slot a l x.here is' (x.segment ∙ eqb-true s a.segment w.0) (x.row ∙ eqb-true r a.row w.1) in
        false≢true (sym y ∙ and_from (eqb b b') (eqb n (suc n')) (eq-eqb b b' o.0) (eq-eqb n (suc n') o.1))))
        ∙ sym (cond-false (eqb b b' && eqb n (suc n')) (packed t g s r) _ y))
        (cases_Bool (eqb b b' && eqb n (suc n')))
      where
        hit : (x : Named z h b n t s r f) → content_word (Bumped p s r g ∷ h) (item x.slot) ≡ packed t g s r
        hit x = ap (λ y. packed (tag_of x.slot.key) y x.slot.segment x.slot.row) (cond-true (eqb s x.slot.segment && eqb r x.slot.row) g (frequency_of h x.slot.segment x.slot.row)
            (and_from (eqb s x.slot.segment) (eqb r x.slot.row) (eq-eqb s x.slot.segment (sym x.segment)) (eq-eqb r x.slot.row (sym x.row))))
            ∙ (λ j. packed (x.tag j) g (x.segment j) (x.row j))
