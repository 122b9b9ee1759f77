-- What a pass may read of rows stays as it is while the pass does nothing.
use Rattle.std.proofs.Common.{◌≡◌, ℕ, ◌<◌, true, List, [], ◌∷◌, ◌++◌, Some, refl, sym, ap, ◌∙◌, subst, inl, inr}
use Rattle.segword.specs.Words.{covers, Shape, span_of_header}
use Rattle.segcore.specs.Words.{Event}
use Rattle.segcore.specs.Event.{NoneBy, seen}
use Rattle.segcore.specs.Bucket.{Slot, item, bucket_after}
use Rattle.segcore.specs.Row.{Row, row_after, row_alone, span_in}
use Rattle.segcore.specs.Lawful.{IsLawful}
use Rattle.segcore.specs.Kind.{MayRead}
use Rattle.segcore.proofs.Caches.{stands_in}
use Rattle.segcore.proofs.Quiet.{quiet, quiet_alone, quiet_inside}
use Rattle.segcore.proofs.Spans.{header_span, item_after, row_still}
use Rattle.segcore.proofs.Entered.{row_stays, entered_row}
use Rattle.segcore.proofs.Moments.{lawful_before}
use Rattle.segcore.proofs.Segments.{is_pass}
use Rattle.segcore.proofs.Standing.{coherent}

-- a row of the item that a word names stays as it is for one event more: its segment isn't refilled while the key stands there
named_once : (z : Shape) (e : Event) (h : List Event) (b n : ℕ) (a : Slot) (r : ℕ) → IsLawful z (e ∷ h)
    → (bucket_after z h b).items n ≡ item a → covers a.row (span_in h a.segment a.row) r ≡ true
    → row_alone (e ∷ h) a.segment r ≡ row_alone h a.segment r
named_once z e h b n a r l is c =
    let i = (coherent z h l.0).items b n a is in
    row_stays z e h a.segment r a.key l
    (λ p d same. (subst (λ x. IsLawful z (x ∷ h)) same l).1.follows.0 a.key (stands_in z (seen h) a.key a.segment (i.value, i.stands)))
    (i.rows r (subst (λ m. covers a.row m r ≡ true) (header_span (row_after h a.segment a.row) a.key i.value i.valid.0 i.valid.1 i.holds) c))

-- and under the bucket's bit for any number, and so the item
module _ (z : Shape) (h : List Event) (p b n : ℕ) (a : Slot) where
  named_row : (more : List Event) → IsLawful z (more ++ h) → NoneBy p more
      → (bucket_after z h b).holder ≡ Some p → (bucket_after z h b).items n ≡ item a
      → (r : ℕ) → covers a.row (span_in h a.segment a.row) r ≡ true → row_alone (more ++ h) a.segment r ≡ row_alone h a.segment r
  named_row [] l none held is r c = refl
  named_row (e ∷ more) l none held is r c =
      let before = named_row more l.0 none.1 held is in
      let same : row_after (more ++ h) a.segment a.row ≡ row_after h a.segment a.row = item_after h (more ++ h) a.segment a.row before in
      named_once z e (more ++ h) b n a r l (ap (λ u. u.items n) (quiet z more h p b l.0 none.1 held) ∙ is)
      (subst (λ (u : Row). covers a.row (span_of_header (u.words 0)) r ≡ true) (sym same) c) ∙ before r c

  named_item : (more : List Event) → IsLawful z (more ++ h) → NoneBy p more
      → (bucket_after z h b).holder ≡ Some p → (bucket_after z h b).items n ≡ item a
      → row_after (more ++ h) a.segment a.row ≡ row_after h a.segment a.row
  named_item more l none held is = item_after h (more ++ h) a.segment a.row (named_row more l none held is)

-- what a pass may read stays as it is, and it may go on reading it
pub read_row : (z : Shape) (more h : List Event) (p s r : ℕ) → IsLawful z (more ++ h) → NoneBy p more → MayRead z h p s r → row_alone (more ++ h) s r ≡ row_alone h s r
read_row z more h p s r l none (inl own) = quiet_alone z more h s r l (subst (λ x. NoneBy x more) (sym own) none)
read_row z more h p s r l none (inr (inl (there, on))) = entered_row z more h p s r on.0 (is_pass z h p s (lawful_before z more h l) there) l none there on.1
read_row z more h p s r l none (inr (inr (b, n, a, bit, is, es, er))) =
    subst (λ x. row_alone (more ++ h) x r ≡ row_alone h x r) es (named_row z h p b n a more l none bit.1 is r
    (subst (λ x. covers a.row (span_in h x a.row) r ≡ true) (sym es) er))

pub may_read : (z : Shape) (more h : List Event) (p s r : ℕ) → IsLawful z (more ++ h) → NoneBy p more → MayRead z h p s r → MayRead z (more ++ h) p s r
may_read z more h p s r l none (inl own) = inl own
may_read z more h p s r l none (inr (inl (there, on))) =
    inr (inl (subst (λ x. 0 < x) (sym (quiet_inside more h p s none)) there, (on.0, ap (λ u. u.linked) (read_row z more h p s r l none (inr (inl (there, on)))) ∙ on.1)))
may_read z more h p s r l none (inr (inr (b, n, a, bit, is, es, er))) =
    let same = quiet z more h p b l none bit.1 in
    let first : row_after (more ++ h) s a.row ≡ row_after h s a.row = subst (λ x. row_after (more ++ h) x a.row ≡ row_after h x a.row) es (named_item z h p b n a more l none bit.1 is) in
    inr (inr (b, n, a, (bit.0, ap (λ u. u.holder) same ∙ bit.1), ap (λ u. u.items n) same ∙ is, es, row_still (more ++ h) h s a.row r first er))
