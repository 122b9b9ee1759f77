-- All rows of an item that was found are linked to its key, and so they stay until their segment is refilled.
use Rattle.std.proofs.Common.{◌≡◌, ℕ, ◌<◌, true, List, ◌++◌, Some, sym, ap, ◌∙◌, subst, inl, inr, arith}
use Rattle.std.proofs.lemmas.Option.{same_Some}
use Rattle.segword.specs.Words.{covers, IsValid, Shape, span_of_header}
use Rattle.segcore.specs.Words.{Event, inside, IsLawful, NoneRefills, Row, row_after, row_alone}
use Rattle.segcore.proofs.Exact.{named_at, tagged}
use Rattle.segcore.proofs.Segments.{row_since}
use Rattle.segcore.proofs.Spans.{alone_span, covers-first, first_words, header_some, same_after}
use Rattle.segcore.proofs.Standing.{coherent}
use Rattle.segbase.specs.Words.{cell_at, home_bucket, Place, position}
use Rattle.segstore.specs.Linked.{FoundItem, row_part, segment_part, WasLinked}
use Rattle.segstore.specs.Reading.{MayReadItem}
use Rattle.segstore.proofs.Words.{names_in}

-- the rows of the item that begins in a row, as many as its word 0 tells, are linked to the key
abbrev pub AllLinked : List Event → ℕ → ℕ → List ℕ → Type 0
AllLinked h s r k = (i : ℕ) → covers r (span_of_header ((row_alone h s r).words 0)) i ≡ true → (row_alone h s i).linked ≡ Some k

-- the first of them is
pub first_linked : (h : List Event) (s r : ℕ) (k : List ℕ) → AllLinked h s r k → (row_alone h s r).linked ≡ Some k
first_linked h s r k all = let header = (row_alone h s r).words 0 in all r (covers-first r (span_of_header header) (header_some header))

pub same_header : (h : List Event) (s r : ℕ) → span_of_header ((row_after h s r).words 0) ≡ span_of_header ((row_alone h s r).words 0)
same_header h s r = ap span_of_header (first_words h s r 0 (omega arith))

-- a pass in the segment may read all of them
pub may_read_linked : (z : Shape) (h : List Event) (pass s r : ℕ) (k : List ℕ) → 0 < inside h pass s → AllLinked h s r k → MayReadItem z h pass s r
may_read_linked z h pass s r k there all =
    λ other c within. inr (inl (there, (k, all other (subst (λ n. covers r n other ≡ true) (same_header h s r) c))))

-- ---- since a moment

module _ (z : Shape) (more h : List Event) (s r : ℕ) (k : List ℕ) (l : IsLawful z (more ++ h)) (none : NoneRefills s more)
    (on : AllLinked h s r k) where
  -- the item stays as it is
  pub item_stays : row_after (more ++ h) s r ≡ row_after h s r
  item_stays = same_after h (more ++ h) s r (λ i c. row_since z more h s i k l none (on i c))

  -- and its rows are linked to the key still
  pub linked_since : AllLinked (more ++ h) s r k
  linked_since i c =
      let first = row_since z more h s r k l none (first_linked h s r k on) in
      let c' = subst (λ (u : Row). covers r (span_of_header (u.words 0)) i ≡ true) first c in
      ap (λ (u : Row). u.linked) (row_since z more h s i k l none (on i c')) ∙ on i c'

-- ---- of what was found

-- when the word stood, all rows of its item were linked to the key
pub was_linked : (z : Shape) (h : List Event) (place : Place) (w : ℕ) (key value : List ℕ) → IsValid z → WasLinked z place w key value h → AllLinked h (segment_part w) (row_part w) key
was_linked z h place w key value v was =
    let b = home_bucket z h place in let n = position z h place in
    let tag = tagged key in let is = was.tag in
    let x = names_in z h place w v was.lawful was.chained was.stood (omega (arith, tag.0, is)) in
    let i = named_at z h b n (cell_at z place) x.tag x.segment x.row v was.lawful x.names in
    let st = (coherent z h was.lawful).items b n i.slot i.here in
    let es : i.slot.segment ≡ segment_part w = i.segment ∙ sym x.is_segment in
    let er : i.slot.row ≡ row_part w = i.row ∙ sym x.is_row in
    let ek : i.slot.key ≡ key = same_Some i.slot.key key (sym st.linked
    ∙ (ap (λ s. (row_after h s i.slot.row).linked) es ∙ (ap (λ r. (row_after h (segment_part w) r).linked) er ∙ was.linked))) in
    let all : AllLinked h i.slot.segment i.slot.row i.slot.key = λ j c. st.rows j
    (subst (λ m. covers i.slot.row m j ≡ true) (alone_span h i.slot.segment i.slot.row i.slot.key st.value st.valid.0 st.valid.1 st.holds) c) in
    subst (λ s. AllLinked h s (row_part w) key) es (subst (λ r. AllLinked h i.slot.segment r key) er (subst (AllLinked h i.slot.segment i.slot.row) ek all))

-- and they are now
pub found_rows : (z : Shape) (h g : List Event) (place : Place) (w : ℕ) (key value : List ℕ) → IsValid z → IsLawful z g
    → FoundItem z place w key value h g → AllLinked g (segment_part w) (row_part w) key
found_rows z h g place w key value v l f =
    subst (λ t. AllLinked t (segment_part w) (row_part w) key) (sym f.kept.1)
    (linked_since z f.kept.0 f.saw.at (segment_part w) (row_part w) key (subst (IsLawful z) f.kept.1 l) f.kept.2
    (was_linked z f.saw.at place w key value v f.saw.was))
