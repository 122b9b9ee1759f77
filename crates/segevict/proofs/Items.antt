-- The items of a segment of the pass's own, by their first rows: from each to the next one, over rows that no word names.
use Rattle.std.proofs.Common.{◌≡◌, ℕ, zero, suc, ◌+◌, ◌-◌, ◌<◌, ◌≤◌, true, is_some, nat_lt, eqb, List, [], ◌∷◌, ◌++◌, Some, refl, sym, ap, ◌∙◌, subst, ⊎_elim, arith}
use Rattle.std.specs.Prelude.{IsSome}
use Rattle.std.proofs.lemmas.Bool.{cases_Bool, cases_eq, cases_lt, eq-eqb, false≢true, ltb-true, lt-ltb}
use Rattle.std.proofs.lemmas.Option.{none-some}
use Rattle.segword.specs.Words.{covers, Shape, span_of_header}
use Rattle.segmodel.specs.Words.{owner}
use Rattle.segcore.specs.Words.{by, Event, IsLawful, NoneRefills, Row, row_after, RowAt, RowGone, span_in}
use Rattle.segcore.proofs.Segments.{row_since}
use Rattle.segcore.proofs.Spans.{first_words, header_some}
use Rattle.segbase.specs.Words.{AddsEvents, Board, number, own_of, Pass, trace, used_of}
use Rattle.segstore.specs.Words.{HoldsPair, IsQuiet}
use Rattle.segstore.proofs.ItemRows.{covers-high, covers-low, not_covered, outside}
use Rattle.segstore.proofs.Keeping.{AreCalmIn, calm_parts, calm_rest, IsCalmIn}
use Rattle.segevict.specs.Rows.{KeepsGone}
use Rattle.segevict.specs.Spans.{first_row, IsFirstRow}
use Rattle.segevict.proofs.FirstRowFacts.{named_first, unnamed_behind}
use Rattle.segevict.proofs.StoredRows.{some_key}
use Rattle.segevict.proofs.Tiles.{IsRowFrom, item_of, rows_at, start_at}

-- ---- how many rows an item takes

-- a segment of the pass's own isn't refilled while nothing is linked there
unrefilled : (z : Shape) (more h : List Event) (p s : ℕ) → IsLawful z (more ++ h) → AreCalmIn s (own_of p more) → owner z s ≡ p → NoneRefills s more
unrefilled z [] h p s l calm own = tt
unrefilled z (e ∷ more) h p s l calm own = ⊎_elim
    (λ t. let c = calm_parts s p e more t calm in ((λ q d is. (subst (IsCalmIn s) is c.0) refl), unrefilled z more h p s l.0 c.1 own))
    (λ f. (
      (λ q d is. false≢true (sym f ∙ eq-eqb (by e) p (ap by is ∙ (sym (subst (λ x. IsLawful z (x ∷ (more ++ h))) is l).1.suits.1 ∙ own)))),
      unrefilled z more h p s l.0 (calm_rest s p e more f calm) own,
    ))
    (cases_Bool (eqb (by e) p))

-- the items there take as many rows as they took
pub span_over : (b : Board) (own : List Event) (p q : Pass) (s r : ℕ) → AddsEvents b own p q → AreCalmIn s own
    → owner b.shape s ≡ number p → IsSome (row_after (trace p) s r).linked → span_in (trace q) s r ≡ span_in (trace p) s r
span_over b own p q s r m calm mine on =
    let h = trace p in let key = some_key (row_after h s r).linked on in
    let lawful = subst (IsLawful b.shape) m.goes_on m.pass.lawful in
    let none = unrefilled b.shape m.more h (number p) s lawful (subst (AreCalmIn s) (sym m.adds) calm) mine in
    ap (λ x. span_in x s r) m.goes_on
    ∙ ap span_of_header (first_words (m.more ++ h) s r 0 (omega arith)
    ∙ (ap (λ (u : Row). u.words 0) (row_since b.shape m.more h s r key.0 lawful none key.1) ∙ sym (first_words h s r 0 (omega arith))))

-- ---- first rows

before_sum : (row rows used : ℕ) → 1 ≤ rows → row + rows ≤ used → row < used
before_sum row rows used some le = omega arith

first_same : (h g : List Event) (s used : ℕ) → ((i : ℕ) → i < used → span_in g s i ≡ span_in h s i) → (n : ℕ) → first_row h s n ≤ used → first_row g s n ≡ first_row h s n
first_same h g s used same zero le = refl
first_same h g s used same (suc n) le =
    let row = first_row h s n in let lt = before_sum row (span_in h s row) used (header_some ((row_after h s row).words 0)) le in
    let i : first_row g s n ≡ row = first_same h g s used same n (omega (arith, lt)) in
    (λ t. i t + span_in g s (i t)) ∙ ap (λ m. row + m) (same row lt)

-- first rows stay so, as far as the rows are used
pub first_stays : (b : Board) (segment row used : ℕ) (p q : Pass) → IsQuiet b p → KeepsGone b segment p q → used_of p segment ≡ Some used → row ≤ used
    → IsFirstRow (trace p) segment row → IsFirstRow (trace q) segment row
first_stays b segment row used p q quiet keeps is le first =
    let few = quiet.segments.few segment used is in
    let on : (i : ℕ) → i < used → IsSome (row_after (trace p) segment i).linked = λ i lt. quiet.segments.rows segment used i is (omega (arith, lt, few)) ∙ lt-ltb i used lt in
    (first.0, first_same (trace p) (trace q) segment used (λ i lt. keeps.spans i (on i lt)) first.0 (subst (λ n. n ≤ used) (sym first.1) le) ∙ first.1)

-- ---- an item

pub in_rows : (first rows row : ℕ) → first ≤ row → row < first + rows → covers first rows row ≡ true
in_rows first rows row low high = ⊎_elim
    (λ here. here)
    (λ off. let past = not_covered first rows row off low in absurd (omega (arith, high, past)))
    (cases_Bool (covers first rows row))

-- an item begins in the row, and its rows are used ones
pub record IsItem (z : Shape) (h : List Event) (s r used : ℕ) : Type 0 where
  pub key : List ℕ
  pub tile : IsRowFrom h s r r key
  pub ends : r + span_in h s r ≤ used

module _ (z : Shape) (h : List Event) (s : ℕ) (l : IsLawful z h) where
  same_span : (r : ℕ) → span_in h s r ≡ rows_at h s r
  same_span r = ap span_of_header (first_words h s r 0 (omega arith))

  item_there : (r : ℕ) → is_some (row_after h s r).linked ≡ true → (key : List ℕ) × ((first : ℕ) × IsRowFrom h s first r key)
  item_there r on = let k = some_key (row_after h s r).linked on in (k.0, item_of z h s r k.0 l k.1)

  -- one begins behind one
  begins_next : (r next last : ℕ) → next ≡ r + span_in h s r → next ≡ last + 1 → start_at h s r ≡ r → is_some (row_after h s r).linked ≡ true
      → is_some (row_after h s next).linked ≡ true → start_at h s next ≡ next
  begins_next r next last is before at on there =
      let x = item_there next there in let f = x.1.0 in let t = x.1.1 in
      let y = item_there r on in let g = y.1.0 in let u = y.1.1 in
      let here : g ≡ r = sym u.starts ∙ at in ⊎_elim
      (λ same. t.starts ∙ same)
      (λ apart.
      let some = header_some ((row_after h s r).words 0) in let rows = same_span r in
      let low = covers-low f (rows_at h s f) next t.within in let high = covers-high f (rows_at h s f) next t.within in
      let of_next = t.all last (in_rows f (rows_at h s f) last (omega (arith, low, apart, before)) (omega (arith, high, before))) in
      let of_this = u.all last (subst (λ k. covers k (rows_at h s k) last ≡ true) (sym here)
      (in_rows r (rows_at h s r) last (omega (arith, is, before, some)) (omega (arith, is, before, rows)))) in
      let one : f ≡ r = sym of_next.1 ∙ (of_this.1 ∙ here) in
      let past = subst (λ k. next < k + rows_at h s k) one high in absurd (omega (arith, is, past, rows)))
      (cases_eq f next)

  begins_at : (used : ℕ) → ((i : ℕ) → i < used → is_some (row_after h s i).linked ≡ true) → (n : ℕ) → first_row h s n < used → start_at h s (first_row h s n) ≡ first_row h s n
  begins_at used on zero lt =
      let x = item_there 0 (on 0 lt) in let low = covers-low x.1.0 (rows_at h s x.1.0) 0 x.1.1.within in
      let none : x.1.0 ≡ 0 = omega (arith, low) in x.1.1.starts ∙ none
  begins_at used on (suc n) lt =
      let row = first_row h s n in let some = header_some ((row_after h s row).words 0) in
      let next = row + span_in h s row in let within = before_sum row (span_in h s row) used some (omega (arith, lt)) in
      begins_next row next (next - 1) refl (omega (arith, some)) (begins_at used on n within) (on row within) (on next lt)

  -- where one begins, it ends before the rows that aren't used
  pub item_begun : (used r : ℕ) → ((i : ℕ) → i < z.rows → is_some (row_after h s i).linked ≡ nat_lt i used) → is_some (row_after h s r).linked ≡ true
      → start_at h s r ≡ r → IsItem z h s r used
  item_begun used r are on at =
      let x = item_there r on in let here : x.1.0 ≡ r = sym x.1.1.starts ∙ at in
      let tile = subst (λ k. IsRowFrom h s k r x.0) here x.1.1 in
      let some = header_some ((row_after h s r).words 0) in let rows = same_span r in
      let last = r + (span_in h s r - 1) in
      let linked = (tile.all last (in_rows r (rows_at h s r) last (omega arith) (omega (arith, some, rows)))).0 in ⊎_elim
      (λ lt. let within = ltb-true last used (sym (are last lt) ∙ ap is_some linked) in record { key = x.0; tile = tile; ends = omega (arith, within, some) })
      (λ past. absurd (none-some x.0 (sym (ap (λ (u : Row). u.linked) (outside z h s last l past)) ∙ linked)))
      (cases_lt last z.rows)

  -- its first row is linked
  pub item_linked : (r used : ℕ) → IsItem z h s r used → IsSome (row_after h s r).linked
  item_linked r used i = ap is_some (i.tile.all r i.tile.within).0

  -- it holds a pair
  pub item_pair : (r used : ℕ) → IsItem z h s r used → HoldsPair (row_after h s r)
  item_pair r used i = let pair = i.tile.pair in record { key = i.key; value = pair.value; is_key = pair.valid.0; is_value = pair.valid.1; holds = pair.holds }

  -- no word names a row behind its first one
  pub item_behind : (r used : ℕ) → IsItem z h s r used → (row : ℕ) → r < row → row < r + span_in h s r → RowGone z s row h
  item_behind r used i row low high = unnamed_behind z h s row l (λ same.
      let rows = same_span r in let of = i.tile.all row (in_rows r (rows_at h s r) row (omega (arith, low)) (omega (arith, high, rows))) in
      let one : r ≡ row = sym of.1 ∙ same in absurd (omega (arith, low, one)))

-- an item begins in a first row that is used
pub item_at : (b : Board) (segment row used : ℕ) (p : Pass) → IsQuiet b p → used_of p segment ≡ Some used → row < used → IsFirstRow (trace p) segment row
    → IsItem b.shape (trace p) segment row used
item_at b segment row used p quiet is lt first =
    let h = trace p in let few = quiet.segments.few segment used is in let are = quiet.segments.rows segment used in
    let on : (i : ℕ) → i < used → is_some (row_after h segment i).linked ≡ true = λ i lt. are i is (omega (arith, lt, few)) ∙ lt-ltb i used lt in
    item_begun b.shape h segment quiet.pass.lawful used row (λ i within. are i is within) (on row lt)
    (subst (λ r. start_at h segment r ≡ r) first.1 (begins_at b.shape h segment quiet.pass.lawful used on first.0 (subst (λ r. r < used) (sym first.1) lt)))

-- a word names the first row of an item alone
pub item_named : (b : Board) (bucket at segment row used : ℕ) (p : Pass) → IsQuiet b p → used_of p segment ≡ Some used → row < used
    → RowAt b.shape bucket segment row (trace p) at → IsItem b.shape (trace p) segment row used
item_named b bucket at segment row used p quiet is lt named =
    let h = trace p in let few = quiet.segments.few segment used is in let are = quiet.segments.rows segment used in
    item_begun b.shape h segment quiet.pass.lawful used row (λ i within. are i is within) (are row is (omega (arith, lt, few)) ∙ lt-ltb row used lt)
    (subst (λ s. start_at h s row ≡ row) named.2.0 (subst (λ r. start_at h named.0.segment r ≡ r) named.2.1 (named_first b.shape h bucket at named.0 quiet.pass.lawful named.1)))
