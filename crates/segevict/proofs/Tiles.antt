-- The rows of a segment by items: a linked row is one of the item that was linked or moved over it last, and that item's first row holds its pair.
use Rattle.std.proofs.Common.{◌≡◌, ◌≢◌, ◌≤◌, ℕ, Bool, true, false, cond, eqb, List, [], ◌∷◌, Some, refl, sym, ap, ◌∙◌, subst, ⊎_elim}
use Rattle.std.proofs.lemmas.Bool.{and_from, and_parts, cases_Bool, cond-false, cond-true, eq-eqb, eqb-true, false_from_ne_true}
use Rattle.std.proofs.lemmas.Option.{none-some, same_Some}
use Rattle.segword.specs.Words.{covers, IsKey, IsValue, IsWithin, Limits, most_rows, Shape, span_of_header}
use Rattle.segmodel.specs.Words.{key_of, Request, value_of}
use Rattle.segcore.specs.declared.event.Event.TheVariants.{Filled, Linked, Refilled, Relinked}
use Rattle.segcore.specs.Words.{AreWithin, cached, Event, Holds, IsLawful, Row, row_after, row_alone, seen, slot, writes_row}
use Rattle.segcore.proofs.Moments.{seen_begins}
use Rattle.segcore.proofs.Quiet.{at_unlinked, of_row}
use Rattle.segcore.proofs.Spans.{alone_span, same_after}
use Rattle.segcore.proofs.Standing.{coherent, link_words, now_linked, now_moved, relinks, row_itself}
use Rattle.segcore.proofs.Within.{began_within, stands_within}
use Rattle.segstore.proofs.Held.{IsPairOf}
use Rattle.segword.proofs.Longest.{spans_few}

-- how many rows the item has whose first row this is
abbrev pub rows_at : List Event → ℕ → ℕ → ℕ
rows_at h s r = span_of_header ((row_alone h s r).words 0)

-- where the item begins that an event makes a row one of
abbrev pub begins : Bool → Event → ℕ → ℕ
begins false e first = first
begins true (Linked p q s r n) first = r
begins true (Relinked p k a f s r n) first = r
begins true e first = first

abbrev pub start_at : List Event → ℕ → ℕ → ℕ
start_at [] s r = r
start_at (e ∷ h) s r = begins (of_row h e s r) e (start_at h s r)

-- the row is one of the item of the key that begins in this one
pub record IsRowFrom (h : List Event) (s first r : ℕ) (k : List ℕ) : Type 0 where
  pub starts : start_at h s r ≡ first
  pub within : covers first (rows_at h s first) r ≡ true
  pub all : (i : ℕ) → covers first (rows_at h s first) i ≡ true → ((row_alone h s i).linked ≡ Some k) × (start_at h s i ≡ first)
  pub pair : IsPairOf (row_after h s first) k
  -- where nothing that was stored is longer than the limits allow, the item takes no more rows than the longest one
  pub few : (limits : Limits) → AreWithin limits (seen h) → rows_at h s first ≤ most_rows limits

-- ---- limits

-- what was stored before was within them too
within_before : (limits : Limits) (e : Event) (h : List Event) → AreWithin limits (seen (e ∷ h)) → AreWithin limits (seen h)
within_before limits e h all = began_within limits (seen h) (seen (e ∷ h)) (seen_begins h (e ∷ h) (e ∷ [], refl)) all

-- the rows of a pair that is held are few
held_few : (h : List Event) (s first : ℕ) (k v : List ℕ) (limits : Limits) → IsKey k × IsValue v → Holds (row_after h s first) k v → IsWithin limits k v
    → rows_at h s first ≤ most_rows limits
held_few h s first k v limits valid holds within =
    subst (λ n. n ≤ most_rows limits) (sym (alone_span h s first k v valid.0 valid.1 holds)) (spans_few limits k v within)

-- ---- an event that touches no linked row of the segment

module _ (e : Event) (h : List Event) (s first r : ℕ) (k : List ℕ) (off : (i : ℕ) → (row_alone h s i).linked ≡ Some k → of_row h e s i ≡ false) where
  same_row : (i : ℕ) → (row_alone h s i).linked ≡ Some k → row_alone (e ∷ h) s i ≡ row_alone h s i
  same_row i on = cond-false (of_row h e s i) (writes_row e (row_alone h s i)) (row_alone h s i) (off i on)

  same_start : (i : ℕ) → (row_alone h s i).linked ≡ Some k → start_at (e ∷ h) s i ≡ start_at h s i
  same_start i on = ap (λ t. begins t e (start_at h s i)) (off i on)

  row_stays : IsRowFrom h s first r k → IsRowFrom (e ∷ h) s first r k
  row_stays t =
      let on = (t.all first (row_itself h s first)).0 in
      let back : (i : ℕ) → covers first (rows_at (e ∷ h) s first) i ≡ true → covers first (rows_at h s first) i ≡ true =
      λ i c. subst (λ (u : Row). covers first (span_of_header (u.words 0)) i ≡ true) (same_row first on) c in
      let item_same : row_after (e ∷ h) s first ≡ row_after h s first = same_after h (e ∷ h) s first (λ i c. same_row i (t.all i c).0) in record {
        starts = same_start r (t.all r t.within).0 ∙ t.starts;
        within = subst (λ (u : Row). covers first (span_of_header (u.words 0)) r ≡ true) (sym (same_row first on)) t.within;
        all = λ i c. let x = t.all i (back i c) in (ap (λ (u : Row). u.linked) (same_row i x.0) ∙ x.0, same_start i x.0 ∙ x.1);
        pair = subst (λ u. IsPairOf u k) (sym item_same) t.pair;
        few = λ limits all. subst (λ (u : Row). span_of_header (u.words 0) ≤ most_rows limits) (sym (same_row first on)) (t.few limits (within_before limits e h all));
      }

-- as no event does but a refilling
none_off : (z : Shape) (e : Event) (h : List Event) (s i : ℕ) (k : List ℕ) → IsLawful z (e ∷ h) → ((p t d : ℕ) → e ≢ Refilled p t d) → (row_alone h s i).linked ≡ Some k → of_row h e s i ≡ false
none_off z e h s i k l ne on = false_from_ne_true (of_row h e s i) (λ t. none-some k (sym (at_unlinked z h e s i l.1.suits ne t) ∙ on))

-- ---- an item that was just linked, or moved

header_linked : (t : Bool) (u : Row) (k : List ℕ) → (cond t (record u { linked = Some k }) u).words 0 ≡ u.words 0
header_linked true u k = refl
header_linked false u k = refl

of_linked : (z : Shape) (h : List Event) (p : ℕ) (q : Request) (s first n r : ℕ) → IsLawful z (Linked p q s first n ∷ h)
    → covers first (rows_at h s first) r ≡ true → IsRowFrom (Linked p q s first n ∷ h) s first r (key_of q)
of_linked z h p q s first n r l c =
    let e = Linked p q s first n in
    let same : rows_at (e ∷ h) s first ≡ rows_at h s first = ap span_of_header (header_linked (of_row h e s first) (row_alone h s first) (key_of q)) in
    let starts : (i : ℕ) → covers first (rows_at h s first) i ≡ true → start_at (e ∷ h) s i ≡ first =
    λ i c. ap (λ t. begins t e (start_at h s i)) (and_from (eqb s s) (covers first (rows_at h s first) i) (eq-eqb s s refl) c) in record {
      starts = starts r c;
      within = subst (λ m. covers first m r ≡ true) (sym same) c;
      all = λ i c. let c' = subst (λ m. covers first m i ≡ true) same c in (now_linked h p q s first n i c', starts i c');
      pair = record { value = value_of q; valid = (l.1.suits.5, l.1.suits.6); holds = λ j lt. link_words h p q s first n s first j ∙ l.1.suits.1 j lt };
      few = λ limits all. held_few (e ∷ h) s first (key_of q) (value_of q) limits (l.1.suits.5, l.1.suits.6)
          (λ j lt. link_words h p q s first n s first j ∙ l.1.suits.1 j lt) all.0;
    }

of_moved : (z : Shape) (h : List Event) (p : ℕ) (k : List ℕ) (a f s first n r : ℕ) → IsLawful z (Relinked p k a f s first n ∷ h)
    → covers first (rows_at h s first) r ≡ true → IsRowFrom (Relinked p k a f s first n ∷ h) s first r k
of_moved z h p k a f s first n r l c =
    let e = Relinked p k a f s first n in
    let same : rows_at (e ∷ h) s first ≡ rows_at h s first = ap span_of_header (header_linked (of_row h e s first) (row_alone h s first) k) in
    let starts : (i : ℕ) → covers first (rows_at h s first) i ≡ true → start_at (e ∷ h) s i ≡ first =
    λ i c. ap (λ t. begins t e (start_at h s i)) (and_from (eqb s s) (covers first (rows_at h s first) i) (eq-eqb s s refl) c) in
    let there = (relinks z h p k a f s first n l.1.suits (coherent z h l.0)).new (slot k s first) refl in record {
      starts = starts r c;
      within = subst (λ m. covers first m r ≡ true) (sym same) c;
      all = λ i c. let c' = subst (λ m. covers first m i ≡ true) same c in (now_moved h p k a f s first n i c', starts i c');
      pair = record { value = there.value; valid = there.valid; holds = there.holds };
      few = λ limits all. held_few (e ∷ h) s first k there.value limits there.valid there.holds
          (stands_within z limits (seen (e ∷ h)) k all (cached there.value s) there.stands);
    }

-- ---- every linked row

pub item_of : (z : Shape) (h : List Event) (s r : ℕ) (k : List ℕ) → IsLawful z h → (row_alone h s r).linked ≡ Some k → (first : ℕ) × IsRowFrom h s first r k
item_of z [] s r k l on = absurd (none-some k on)
item_of z (Linked p q t i n ∷ h) s r k l on = let e = Linked p q t i n in let u = row_alone h s r in ⊎_elim
    (λ hit. let w = and_parts (eqb t s) (covers i (rows_at h t i) r) hit in
    let same : key_of q ≡ k = same_Some (key_of q) k (sym (now_linked h p q t i n r w.1) ∙ subst (λ x. (row_alone (e ∷ h) x r).linked ≡ Some k) (sym (eqb-true t s w.0)) on) in
    (i, subst (λ x. IsRowFrom (e ∷ h) x i r k) (eqb-true t s w.0) (subst (IsRowFrom (e ∷ h) t i r) same (of_linked z h p q t i n r l w.1))))
    (λ miss. let x = item_of z h s r k l.0 (ap (λ (y : Row). y.linked) (sym (cond-false (of_row h e s r) (writes_row e u) u miss)) ∙ on) in
    (x.0, row_stays e h s x.0 r k (λ j on. none_off z e h s j k l (λ p' t' d' same. cc) on) x.1))
    (cases_Bool (of_row h e s r))
item_of z (Relinked p q a f t i n ∷ h) s r k l on = let e = Relinked p q a f t i n in let u = row_alone h s r in ⊎_elim
    (λ hit. let w = and_parts (eqb t s) (covers i (rows_at h t i) r) hit in
    let same : q ≡ k = same_Some q k (sym (now_moved h p q a f t i n r w.1) ∙ subst (λ x. (row_alone (e ∷ h) x r).linked ≡ Some k) (sym (eqb-true t s w.0)) on) in
    (i, subst (λ x. IsRowFrom (e ∷ h) x i r k) (eqb-true t s w.0) (subst (IsRowFrom (e ∷ h) t i r) same (of_moved z h p q a f t i n r l w.1))))
    (λ miss. let x = item_of z h s r k l.0 (ap (λ (y : Row). y.linked) (sym (cond-false (of_row h e s r) (writes_row e u) u miss)) ∙ on) in
    (x.0, row_stays e h s x.0 r k (λ j on. none_off z e h s j k l (λ p' t' d' same. cc) on) x.1))
    (cases_Bool (of_row h e s r))
item_of z (Filled p t i place w ∷ h) s r k l on = let e = Filled p t i place w in let u = row_alone h s r in ⊎_elim
    (λ hit. absurd (none-some k (sym (at_unlinked z h e s r l.1.suits (λ p' t' d' same. cc) hit)
    ∙ (ap (λ (y : Row). y.linked) (sym (cond-true (of_row h e s r) (writes_row e u) u hit)) ∙ on))))
    (λ miss. let x = item_of z h s r k l.0 (ap (λ (y : Row). y.linked) (sym (cond-false (of_row h e s r) (writes_row e u) u miss)) ∙ on) in
    (x.0, row_stays e h s x.0 r k (λ j on. none_off z e h s j k l (λ p' t' d' same. cc) on) x.1))
    (cases_Bool (of_row h e s r))
item_of z (Refilled p t d ∷ h) s r k l on = let e = Refilled p t d in let u = row_alone h s r in ⊎_elim
    (λ hit. absurd (none-some k (ap (λ (y : Row). y.linked) (sym (cond-true (eqb t s) (writes_row e u) u hit)) ∙ on)))
    (λ miss. let x = item_of z h s r k l.0 (ap (λ (y : Row). y.linked) (sym (cond-false (eqb t s) (writes_row e u) u miss)) ∙ on) in
    (x.0, row_stays e h s x.0 r k (λ j on. miss) x.1))
    (cases_Bool (eqb t s))
item_of z (e ∷ h) s r k l on = let x = item_of z h s r k l.0 on in (x.0, row_stays e h s x.0 r k (λ j on. refl) x.1)
