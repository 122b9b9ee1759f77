-- What the words of a chain's places are: their parts, and the item that stands there.
use Rattle.std.proofs.Common.{◌≡◌, ℕ, ◌+◌, ◌-◌, ◌*◌, ◌/◌, ◌%◌, ◌^◌, ◌<◌, ◌≤◌, Bool, true, false, cond, ltb, List, refl, sym, ap, ◌∙◌, subst, ⊎_elim, arith}
use Rattle.std.proofs.lemmas.Nat.{div-mul-add, mod-mul-add}
use Rattle.segword.specs.Words.{IsSameItem, IsValid, Shape}
use Rattle.segmodel.specs.Words.{Begins, tag_of}
use Rattle.segcore.specs.declared.cell.Cell.TheVariants.{OfBucket, OfOverflow}
use Rattle.segcore.specs.Words.{ChainsOn, Event, home_of, IsAt, IsItemAt, IsLawful, IsOfKey, Names}
use Rattle.segcore.specs.Words.{packed}
use Rattle.segcore.proofs.Limits.{few_drawn, low_row, low_segment}
use Rattle.segcore.proofs.Standing.{coherent}
use Rattle.segcore.proofs.Exact.{named_at, says_of_keys}
use Rattle.segcore.proofs.ChainWords.{place_stays}
use Rattle.segbase.specs.Words.{cell_at, depth_of, home_bucket, home_in, Place, position}
use Rattle.segbase.proofs.Placed.{item_home}
use Rattle.segbase.proofs.Standing.{tag_of_word}
use Rattle.segstore.specs.Linked.{segment_part, row_part, word_of_place, IsChained, WasLinked}

-- ---- parts of words

pub segment_of_packed : (t f s r : ℕ) → s < 2 ^ 24 → r < 2 ^ 20 → segment_part (packed t f s r) ≡ s
segment_of_packed t f s r a b = ap (λ n. n / 2 ^ 20 % 2 ^ 24) (let e : packed t f s r ≡ ((t * 2 ^ 8 + f) * 2 ^ 24 + s) * 2 ^ 20 + r = omega arith in e)
    ∙ (ap (λ n. n % 2 ^ 24) (div-mul-add ((t * 2 ^ 8 + f) * 2 ^ 24 + s) (2 ^ 20) r b) ∙ mod-mul-add (t * 2 ^ 8 + f) (2 ^ 24) s a)

pub row_of_packed : (t f s r : ℕ) → r < 2 ^ 20 → row_part (packed t f s r) ≡ r
row_of_packed t f s r b = ap (λ n. n % 2 ^ 20) (let e : packed t f s r ≡ ((t * 2 ^ 8 + f) * 2 ^ 24 + s) * 2 ^ 20 + r = omega arith in e) ∙ mod-mul-add ((t * 2 ^ 8 + f) * 2 ^ 24 + s) (2 ^ 20) r b

segment_in_place : (w : ℕ) → w / 2 ^ 20 % 2 ^ 24 ≡ w % 2 ^ 44 / 2 ^ 20
segment_in_place w = omega arith

-- words of one item name one segment
pub same_segment : (v w : ℕ) → IsSameItem v w → segment_part v ≡ segment_part w
same_segment v w e = segment_in_place v ∙ (ap (λ n. n / 2 ^ 20) e.2 ∙ sym (segment_in_place w))

-- ---- places of chains

at_cases : (z : Shape) (h : List Event) (b n : ℕ) (place : Place) (t : Bool) → IsAt h b n (cond t (OfBucket place.bucket place.word) (OfOverflow (place.bucket - z.buckets) place.word))
    → (cond t place.bucket (home_in (home_of h (place.bucket - z.buckets))) ≡ b) × (cond t place.word (8 * depth_of (home_of h (place.bucket - z.buckets)) + place.word) ≡ n)
at_cases z h b n place true at = (at.0, at.1)
at_cases z h b n place false at = (ap home_in at.1, ap (λ o. 8 * depth_of o + place.word) at.1 ∙ sym at.2)

-- a place has one bucket and one position
pub at_place : (z : Shape) (h : List Event) (b n : ℕ) (place : Place) → IsAt h b n (cell_at z place) → (home_bucket z h place ≡ b) × (position z h place ≡ n)
at_place z h b n place at = at_cases z h b n place (ltb place.bucket z.buckets) at

-- and they stay
pub same_place : (z : Shape) (h g : List Event) (place : Place) → IsLawful z g → Begins h g → IsChained z h place
    → (home_bucket z g place ≡ home_bucket z h place) × (position z g place ≡ position z h place)
same_place z h g place l s c = at_place z g (home_bucket z h place) (position z h place) place (place_stays z h g (home_bucket z h place) (position z h place) (cell_at z place) l s c.at).1

pub chained_later : (z : Shape) (h g : List Event) (place : Place) → IsLawful z g → Begins h g → IsChained z h place → IsChained z g place
chained_later z h g place l s c =
    let e = same_place z h g place l s c in record {
      in_table = c.in_table;
      at = subst (λ b. IsItemAt z g b (position z g place) (cell_at z place)) (sym e.0) (subst (λ n. IsItemAt z g (home_bucket z h place) n (cell_at z place)) (sym e.1)
          (place_stays z h g (home_bucket z h place) (position z h place) (cell_at z place) l s c.at));
    }

-- ---- the item of a place

-- where the word has a tag it names a row
pub record NamesIn (z : Shape) (h : List Event) (place : Place) (w : ℕ) : Type 0 where
  pub tag : ℕ
  pub segment : ℕ
  pub row : ℕ
  pub names : Names z h (home_bucket z h place) (position z h place) (cell_at z place) tag segment row
  pub is_tag : w / 2 ^ 52 ≡ tag
  pub is_segment : segment_part w ≡ segment
  pub is_row : row_part w ≡ row

named : (z : Shape) (h : List Event) (place : Place) (w t s r : ℕ) → IsValid z → word_of_place z h place ≡ w
    → Names z h (home_bucket z h place) (position z h place) (cell_at z place) t s r → NamesIn z h place w
named z h place w t s r v is x =
    let ls = low_segment z s v x.in_segment.0 in let lr = low_row z r v x.in_segment.1 in record {
      tag = t;
      segment = s;
      row = r;
      names = x;
      is_tag = ap (λ m. m / 2 ^ 52) (sym is ∙ x.reads) ∙ tag_of_word t x.frequency s r x.small ls lr;
      is_segment = ap segment_part (sym is ∙ x.reads) ∙ segment_of_packed t x.frequency s r ls lr;
      is_row = ap row_part (sym is ∙ x.reads) ∙ row_of_packed t x.frequency s r lr;
    }

pub names_in : (z : Shape) (h : List Event) (place : Place) (w : ℕ) → IsValid z → IsLawful z h → IsChained z h place → word_of_place z h place ≡ w → 1 ≤ w / 2 ^ 52 → NamesIn z h place w
names_in z h place w v l c is tag =
    let b = home_bucket z h place in let n = position z h place in let cell = cell_at z place in
    ⊎_elim
    (λ none. absurd (omega arith))
    (λ x. ⊎_elim
    (λ (on : ChainsOn z h b n cell). let few = few_drawn z v in let most = on.in_table in let reads = on.reads in absurd (omega arith))
    (λ (of : IsOfKey z h b n cell). named z h place w (tag_of of.key) of.segment of.row v is of.names)
    x)
    ((says_of_keys z h v l).readings b n cell (item_home z h b n place l c.at) c.at)

-- and is that of a key that stands
pub stood_item : (z : Shape) (h : List Event) (place : Place) (w : ℕ) → IsValid z → IsLawful z h
    → IsChained z h place → word_of_place z h place ≡ w → 1 ≤ w / 2 ^ 52 → (key : List ℕ) × (value : List ℕ)
    × WasLinked z place w key value h
stood_item z h place w v l c is tag =
    let x = names_in z h place w v l c is tag in
    let b = home_bucket z h place in let n = position z h place in
    let i = named_at z h b n (cell_at z place) x.tag x.segment x.row v l x.names in
    let st = (coherent z h l).items b n i.slot i.here in
    let es : segment_part w ≡ i.slot.segment = x.is_segment ∙ sym i.segment in
    let er : row_part w ≡ i.slot.row = x.is_row ∙ sym i.row in (
      i.slot.key,
      st.value,
      record {
        lawful = l;
        chained = c;
        stood = is;
        tag = x.is_tag ∙ sym i.tag;
        here = (st.here, (i.slot, rw st.here i.here, refl));
        valid = st.valid;
        stands = rw es st.stands;
        in_segment = rw (es, er) st.within;
        linked = rw (es, er) st.linked;
        holds = rw (es, er) st.holds;
      },
    )

-- words with the parts of one item are of one item
pub same_parts : (v w : ℕ) → 1 ≤ v / 2 ^ 52 → v / 2 ^ 52 ≡ w / 2 ^ 52 → segment_part v ≡ segment_part w → row_part v ≡ row_part w → IsSameItem v w
same_parts v w low t s r = (low, t, place_from v ∙ ((λ i. s i * 2 ^ 20 + r i) ∙ sym (place_from w)))
  where
    place_from : (n : ℕ) → n % 2 ^ 44 ≡ n / 2 ^ 20 % 2 ^ 24 * 2 ^ 20 + n % 2 ^ 20
    place_from n = omega arith
