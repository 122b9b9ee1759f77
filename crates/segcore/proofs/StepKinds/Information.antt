-- The steps on the information word of a bucket: take, glance, release.
use Rattle.std.proofs.Common.{◌≡◌, ◌≢◌, ℕ, zero, suc, ◌+◌, ◌*◌, ◌%◌, ◌^◌, ◌<◌, Bool, true, false, cond, eqb, List, [], ◌∷◌, ◌++◌, Option, Some, None, sym, refl, ap, ◌∙◌, subst, arith, bit_or, add-zero}
use Rattle.std.proofs.lemmas.Bool.{eqb-true, eq-eqb, ne_eqb, false≢true}
use Rattle.std.proofs.lemmas.Nat.{or_shifted, or_block}
use Rattle.std.specs.Int.Bits.{or_zero_r}
use Rattle.segword.specs.Words.{Shape}
use Rattle.segmodel.specs.Words.{bucket_of, key_of, Reply, Request}
use Rattle.segcore.specs.Bucket.{Bucket, Content, is, acts, bucket_after}
use Rattle.segcore.specs.Event.{NoneBy}
use Rattle.segcore.specs.Kind.{take, release, glance, becomes, told, HasBit, MayRefuse, KeepsLaw}
use Rattle.segcore.specs.Lawful.{IsLawful}
use Rattle.segcore.specs.Word.{same_cell, content_word, bucket_info_word, word_in, word}
use Rattle.segcore.specs.Words.{Cell, Event}
use Rattle.segcore.specs.declared.event.Event.TheVariants.{Took, Bounced, Glanced, Freed, Replied}
use Rattle.segcore.specs.declared.cell.Cell.TheVariants.{OfBucket}
use Rattle.segcore.proofs.Quiet.{quiet, later, not_mine}
use Rattle.segcore.proofs.Cells.{touch, change_at}
use Rattle.segcore.proofs.Caches.{same_either}
use Rattle.segcore.proofs.Counts.{all_told}
use Rattle.segcore.proofs.StepKinds.Words.{made, unchanged, nothing_new, still}

-- an event of the bucket that changes its information alone
info_only : (z : Shape) (h : List Event) (e : Event) (u v : Bucket) → v.items ≡ u.items
    → ((c : Content) → content_word (e ∷ h) c ≡ content_word h c) → (m : ℕ)
    → word_in z (e ∷ h) v m ≡ cond (eqb 0 m) (bucket_info_word z v) (word_in z h u m)
info_only z h e u v is' same zero = refl
info_only z h e u v is' same (suc m) = rw (ne_eqb 0 (suc m) (λ e. omega arith)) (same (v.items (suc m)) ∙ ap (λ f. content_word h (f (suc m))) is')

or_free : (v : ℕ) → bit_or (v * 2 ^ 32 + 0) 1 ≡ v * 2 ^ 32 + 1
or_free v = rw add-zero (or_shifted v 32 1 (omega arith))

or_held : (v : ℕ) → bit_or (v * 2 ^ 32 + 1) 1 ≡ v * 2 ^ 32 + 1
or_held v = let a = or_block 32 v 0 1 1 (omega arith) (omega arith) in a ∙ ap (λ y. y * 2 ^ 32 + 1) (or_zero_r v)

counted_word : (a v : ℕ)
    → ((a + v) % 2 ^ 32 * 2 ^ 32 + 1 + 4294967295) % 2 ^ 64 ≡ (a + (v + 1)) % 2 ^ 32 * 2 ^ 32 + 0
counted_word a v = omega arith

plain_word : (a v : ℕ)
    → ((a + v) % 2 ^ 32 * 2 ^ 32 + 1 + 18446744073709551615) % 2 ^ 64 ≡ (a + v) % 2 ^ 32 * 2 ^ 32 + 0
plain_word a v = omega arith

-- the bit of another, seen as such
others_bit : (o : Option ℕ) (p q : ℕ) → o ≡ Some q → is o p ≡ false → q ≢ p
others_bit o p q e f s = false≢true (sym f ∙ (ap (λ x. is x p) e ∙ eq-eqb q p s))

pub take_at : (z : Shape) (p b : ℕ) (own : Bool) (h : List Event) (o : Option ℕ)
    → (bucket_after z h b).holder ≡ o → is o p ≡ own → b < z.buckets → IsLawful z h → KeepsLaw z (take b own) p h
take_at z p b own h None held knows lt l =
    let v = (z.first_version + (bucket_after z h b).version) % 2 ^ 32 in
    made z (take b own) p h (Took p b ∷ []) (v * 2 ^ 32 + 1)
    (rw held (let e : (v * 2 ^ 32 + 0) % 2 ≡ 0 = omega arith in rw e refl))
    (rw held (or_free v))
    (lt, omega arith)
    (refl, tt)
    (l, record { guarded = (lt, held); follows = tt; suits = tt })
    (λ c i. touch z h (Took p b) b 0 (v * 2 ^ 32 + 1) (OfBucket b 0) l (refl, refl, omega arith) (record { homes = λ m. refl; drawn = refl; rows = λ s r j. refl; segments = λ s. refl })
    (change_at z h (Took p b) b 0 (v * 2 ^ 32 + 1) (λ k. refl) (info_only z h (Took p b) (bucket_after z h b) (acts (Took p b) (bucket_after z h b)) refl (λ c. refl)) (λ a n f. refl)) c i)
take_at z p b true h (Some q) held knows lt l =
    let v = (z.first_version + (bucket_after z h b).version) % 2 ^ 32 in
    nothing_new z (take b true) p h (rw held (let e : (v * 2 ^ 32 + 1) % 2 ≡ 1 = omega arith in rw e refl)) (rw held (or_held v)) (lt, omega arith) l
take_at z p b false h (Some q) held knows lt l =
    let v = (z.first_version + (bucket_after z h b).version) % 2 ^ 32 in
    made z (take b false) p h (Bounced p b ∷ []) (v * 2 ^ 32 + 1)
    (rw held (let e : (v * 2 ^ 32 + 1) % 2 ≡ 1 = omega arith in rw e refl))
    (rw held (or_held v))
    (lt, omega arith)
    (refl, tt)
    (l, record { guarded = tt; follows = tt; suits = (q, held, others_bit (Some q) p q refl knows) })
    (λ c i. still z h (Bounced p b) (record {
      homes = λ m. refl;
      drawn = refl;
      rows = λ s r j. refl;
      segments = λ s. refl;
    }) (λ a n. refl) c ∙ unchanged z h (OfBucket b 0) (v * 2 ^ 32 + 1) (rw held refl) c)

pub glance_at : (z : Shape) (p b : ℕ) (own : Bool) (h : List Event) (o : Option ℕ)
    → (bucket_after z h b).holder ≡ o → is o p ≡ own → b < z.buckets → IsLawful z h
    → KeepsLaw z (glance b own) p h
glance_at z p b own h None held knows lt l = let v = (z.first_version + (bucket_after z h b).version) % 2 ^ 32 in
    nothing_new z (glance b own) p h (rw held (let e : (v * 2 ^ 32 + 0) % 2 ≡ 0 = omega arith in rw e refl)) refl (lt, omega arith) l
glance_at z p b true h (Some q) held knows lt l = let v = (z.first_version + (bucket_after z h b).version) % 2 ^ 32 in
    nothing_new z (glance b true) p h (rw held (let e : (v * 2 ^ 32 + 1) % 2 ≡ 1 = omega arith in rw e refl)) refl (lt, omega arith) l
glance_at z p b false h (Some q) held knows lt l = let v = (z.first_version + (bucket_after z h b).version) % 2 ^ 32 in
    made z (glance b false) p h (Glanced p b ∷ []) (word z h (OfBucket b 0))
    (rw held (let e : (v * 2 ^ 32 + 1) % 2 ≡ 1 = omega arith in rw e refl)) refl (lt, omega arith) (refl, tt)
    (l, record { guarded = tt; follows = tt; suits = (q, held, others_bit (Some q) p q refl knows) })
    (λ c i. still z h (Glanced p b) (record {
      homes = λ m. refl;
      drawn = refl;
      rows = λ s r j. refl;
      segments = λ s. refl;
    }) (λ a n. refl) c ∙ unchanged z h (OfBucket b 0) (word z h (OfBucket b 0)) refl c)

-- whether a pass has the bit stays so
pub bit_known : (z : Shape) (more h : List Event) (p b : ℕ) (own : Bool) → IsLawful z (more ++ h)
    → NoneBy p more → is (bucket_after z h b).holder p ≡ own
    → is (bucket_after z (more ++ h) b).holder p ≡ own
bit_known z more h p b true l n k = ap (λ u. is u.holder p) (quiet z more h p b l n (holds (bucket_after z h b).holder k)) ∙ k
  where
    holds : (o : Option ℕ) → is o p ≡ true → o ≡ Some p
    holds None t = absurd (false≢true t)
    holds (Some q) t = ap Some (eqb-true q p t)
bit_known z more h p b false l n k = lacks (bucket_after z (more ++ h) b).holder (not_mine z more h p b n (λ e. false≢true (sym k ∙ (ap (λ o. is o p) e ∙ eq-eqb p p refl))))
  where
    lacks : (o : Option ℕ) → o ≢ Some p → is o p ≡ false
    lacks None ne = refl
    lacks (Some q) ne = ne_eqb q p (λ e. ne (ap Some e))

told_same : (z : Shape) (p : ℕ) (said : Option (Request × Reply)) (h : List Event) (c : Cell)
    → word z (told p said ++ h) c ≡ word z h c
told_same z p None h c = refl
told_same z p (Some a) h c = still z h (Replied p a.0 a.1) (record { homes = λ m. refl; drawn = refl; rows = λ s r j. refl; segments = λ s. refl })
    (λ b n. ap (λ u. word_in z h u n) (same_either (eqb (bucket_of z (key_of a.0)) b) (bucket_after z h b))) c

told_bucket : (z : Shape) (p : ℕ) (said : Option (Request × Reply)) (h : List Event) (b : ℕ)
    → bucket_after z (told p said ++ h) b ≡ bucket_after z h b
told_bucket z p None h b = refl
told_bucket z p (Some a) h b = same_either (eqb (bucket_of z (key_of a.0)) b) (bucket_after z h b)

released : (z : Shape) (u : Bucket) (p b : ℕ) (c : Bool) (said : Option (Request × Reply)) → u.holder ≡ Some p
    → becomes (release b c said) (bucket_info_word z u) ≡ bucket_info_word z (acts (Freed p b c) u)
released z u p b true said held = rw held (counted_word z.first_version u.version)
released z u p b false said held = rw held (plain_word z.first_version u.version)

pub release_at : (z : Shape) (p b : ℕ) (c : Bool) (said : Option (Request × Reply)) (h : List Event)
    → HasBit z h p b → (bucket_after z h b).written ≡ c → (bucket_after z h b).spare ≡ None
    → IsLawful z (told p said ++ h) → KeepsLaw z (release b c said) p h
release_at z p b c said h held w spared l =
    let same_b = told_bucket z p said h b in
    let e = Freed p b c in
    let x = bucket_info_word z (acts e (bucket_after z h b)) in
    let then = told p said ++ h in
    made z (release b c said) p h (e ∷ told p said) x refl (released z (bucket_after z h b) p b c said held.1) (held.0, omega arith) (refl, all_told p said)
    (l, record { guarded = (held.0, ap (λ u. u.holder) same_b ∙ held.1); follows = tt; suits = (ap (λ u. u.written) same_b ∙ w, ap (λ u. u.spare) same_b ∙ spared) })
    (λ d i. touch z then e b 0 x (OfBucket b 0) l (refl, refl, omega arith) (record { homes = λ m. refl; drawn = refl; rows = λ s r j. refl; segments = λ s. refl })
    (change_at z then e b 0 x (λ k. refl)
    (λ m. subst (λ u. word_in z (e ∷ then) (acts e u) m ≡ cond (eqb 0 m) x (word_in z then u m)) (sym same_b)
    (info_only z then e (bucket_after z h b) (acts e (bucket_after z h b)) refl (λ c. refl) m))
    (λ a n f. refl)) d i
    ∙ ap (cond (same_cell (OfBucket b 0) d) x) (told_same z p said h d))

pub later_told : (z : Shape) (more h : List Event) (p b : ℕ) (said : Option (Request × Reply))
    → IsLawful z (more ++ h) → NoneBy p more → MayRefuse z h p b said → IsLawful z (told p said ++ (more ++ h))
later_told z more h p b None l n r = l
later_told z more h p b (Some a) l n r = (l, later z more h (Replied p a.0 a.1) l n refl r.1)
