-- What the words of a chain are: at any moment, and for a pass that has the bucket's bit.
use Rattle.std.proofs.Common.{◌≡◌, ◌≢◌, ℕ, ◌+◌, ◌*◌, ◌/◌, ◌%◌, ◌^◌, ◌<◌, ◌≤◌, List, ◌++◌, Some, refl, sym, ap, ◌∙◌, subst, arith}
use Rattle.std.proofs.lemmas.Nat.{div-mul-add, mod-mul-add}
use Rattle.std.proofs.Math.Nat.{le-max_right}
use Rattle.segword.specs.Words.{hash_of, IsSameItem, IsValid, Shape}
use Rattle.segcore.specs.Words.{bucket_after, Cell, Content, content_word, copy, Event}
use Rattle.segcore.specs.Words.{frequency_of, HasBit, IsItemAt, IsLawful, IsPosition, item, next}
use Rattle.segcore.specs.Words.{NoneBy, nothing, packed, Slot, word}
use Rattle.segmodel.specs.Words.{tag_of}
use Rattle.segcore.proofs.Meanwhile.{meanwhile}
use Rattle.segcore.proofs.Quiet.{quiet}
use Rattle.segcore.proofs.Limits.{low_row, low_segment, low_frequency}
use Rattle.segcore.proofs.Coherent.{IsContent}
use Rattle.segcore.proofs.Chains.{chain_of}
use Rattle.segcore.proofs.Cells.{at_stays, at_word}
use Rattle.segcore.proofs.Standing.{coherent}
use Rattle.segcore.proofs.StepKinds.{word_content, above}
use Rattle.segbase.specs.Steps.{IsWordOfContent}
use Rattle.segcore.proofs.Exact.{content_at}

pub some_tag : (key : List ℕ) → 1 ≤ tag_of key
some_tag key = le-max_right (hash_of key / 2 ^ 52) 1

pub tag_of_word : (t f s r : ℕ) → f < 2 ^ 8 → s < 2 ^ 24 → r < 2 ^ 20 → packed t f s r / 2 ^ 52 ≡ t
tag_of_word t f s r a b c = ap (λ n. n / 2 ^ 52)
    (let e : packed t f s r ≡ t * 2 ^ 52 + (f * 2 ^ 44 + s * 2 ^ 20 + r) = omega arith in e)
    ∙ div-mul-add t (2 ^ 52) (f * 2 ^ 44 + s * 2 ^ 20 + r) (omega arith)

pub place_of_word : (t f s r : ℕ) → s < 2 ^ 24 → r < 2 ^ 20 → packed t f s r % 2 ^ 44 ≡ s * 2 ^ 20 + r
place_of_word t f s r b c = ap (λ n. n % 2 ^ 44)
    (let e : packed t f s r ≡ (t * 2 ^ 8 + f) * 2 ^ 44 + (s * 2 ^ 20 + r) = omega arith in e)
    ∙ mod-mul-add (t * 2 ^ 8 + f) (2 ^ 44) (s * 2 ^ 20 + r) (omega arith)

read_as : (z : Shape) (h : List Event) (b n : ℕ) (x : Content) → IsValid z → IsLawful z h
    → IsPosition (bucket_after z h b) n → (bucket_after z h b).items n ≡ x → IsContent h b (bucket_after z h b) n x
    → IsWordOfContent x (content_word h x)
read_as z h b n nothing v l at e is = refl
read_as z h b n (item a) v l at e is =
    let st = (coherent z h l).items b n a e in
    let f = low_frequency z h a.segment a.row l in (
      (frequency_of h a.segment a.row, f, refl),
      subst (λ t. 1 ≤ t) (sym (tag_of_word (tag_of a.key) (frequency_of h a.segment a.row) a.segment a.row f
          (low_segment z a.segment v st.within.0) (low_row z a.row v st.within.1))) (some_tag a.key),
    )
read_as z h b n (next m) v l at e is = refl
read_as z h b n (copy w) v l at e is = let a = at.0 in let i = is.0 in absurd (omega arith)

pub reads : (z : Shape) (h : List Event) (b n found : ℕ) (c : Cell) → IsValid z → IsLawful z h → found ≡ word z h c → IsItemAt z h b n c → IsWordOfContent ((bucket_after z h b).items n) found
reads z h b n found c v l is at = subst (IsWordOfContent ((bucket_after z h b).items n))
    (sym (is ∙ content_at z h b n c at)) (read_as z h b n ((bucket_after z h b).items n) v l at.0 refl
    ((chain_of z h l b).contents n))

-- under the bit only frequencies change
pub under_bit : (z : Shape) (more h : List Event) (p b n : ℕ) (c : Cell) → IsLawful z (more ++ h) → NoneBy p more
    → (bucket_after z h b).holder ≡ Some p → IsItemAt z h b n c
    → word z (more ++ h) c ≡ content_word (more ++ h) ((bucket_after z h b).items n)
under_bit z more h p b n c l none held at =
    at_word z (more ++ h) b n c (at_stays z more h b n c l at.1) ∙ (word_content z (more ++ h) (bucket_after z (more ++ h) b) n (above (bucket_after z h b) n at.0)
    ∙ ap (λ u. content_word (more ++ h) (u.items n)) (quiet z more h p b l none held))

below : (old before found t f g s r : ℕ) → before ≡ packed t f s r → found ≡ packed t g s r → f ≤ g → old ≤ before → found ≢ old → old < found
below old before found t f g s r then now up low other = omega arith

-- the item's word now, which an earlier word of it isn't
pub higher : (z : Shape) (more h : List Event) (p b n old found : ℕ) (a : Slot) (c : Cell) → IsValid z
    → IsLawful z h → IsLawful z (more ++ h) → NoneBy p more → HasBit z h p b → IsItemAt z h b n c
    → (bucket_after z h b).items n ≡ item a
    → IsSameItem old (word z h c) → old ≤ word z h c → found ≡ word z (more ++ h) c → found ≢ old → IsSameItem old found × (old < found)
higher z more h p b n old found a c v l l' none bit at here same low is other =
    let t = tag_of a.key in let s = a.segment in let r = a.row in
    let f : ℕ = frequency_of h s r in let g : ℕ = frequency_of (more ++ h) s r in
    let st = (coherent z h l).items b n a here in
    let ls = low_segment z s v st.within.0 in let lr = low_row z r v st.within.1 in
    let lf = low_frequency z h s r l in let lg = low_frequency z (more ++ h) s r l' in
    let then : word z h c ≡ packed t f s r = content_at z h b n c at ∙ ap (content_word h) here in
    let now : found ≡ packed t g s r = is ∙ (under_bit z more h p b n c l' none bit.1 at ∙ ap (content_word (more ++ h)) here) in
    let up : f ≤ g = (meanwhile z p more h l' none).rises b n a bit here in
    let tags : word z h c / 2 ^ 52 ≡ found / 2 ^ 52 = ap (λ x. x / 2 ^ 52) then ∙ (tag_of_word t f s r lf ls lr ∙ sym (ap (λ x. x / 2 ^ 52) now ∙ tag_of_word t g s r lg ls lr)) in
    let places : word z h c % 2 ^ 44 ≡ found % 2 ^ 44 = ap (λ x. x % 2 ^ 44) then ∙ (place_of_word t f s r ls lr ∙ sym (ap (λ x. x % 2 ^ 44) now ∙ place_of_word t g s r ls lr)) in
    ((same.0, same.1 ∙ tags, same.2 ∙ places), below old (word z h c) found t f g s r then now up low other)
