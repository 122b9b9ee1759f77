-- Items of a segment, one behind the other: where going from each to the next comes to a row, an item begins there, and its rows are used.
use Rattle.std.proofs.Common.{◌≡◌, ℕ, zero, suc, ◌+◌, ◌-◌, ◌^◌, ◌<◌, ◌≤◌, true, eqb, is_some, List, ◌++◌, Some, sym, ap, ◌∙◌, subst, ⊎_elim, eq-eqb, eqb-true, ltb-true, arith}
use Rattle.std.proofs.lemmas.Bool.{cases_Bool, cases_eq, cases_lt, or_cases, or_left, or_right}
use Rattle.std.proofs.lemmas.Option.{none-some}
use Rattle.segword.specs.Words.{covers, Shape, span_of_header}
use Rattle.segmodel.specs.Words.{Entry, owner}
use Rattle.segcore.specs.Words.{Event, IsLawful, Row, row_alone, span_in}
use Rattle.segcore.proofs.Segments.{row_since}
use Rattle.segcore.proofs.Spans.{covers-first, header_some}
use Rattle.segbase.specs.Words.{Board, marked, mine, number, Pass, trace}
use Rattle.segbase.proofs.Starting.{steps_grew}
use Rattle.segstore.specs.Words.{GoesOn, IsQuiet}
use Rattle.segstore.proofs.ItemRows.{covers-high, covers-low, not_covered, outside}
use Rattle.segstore.proofs.LinkedRows.{same_header}
use Rattle.segread.specs.Holds.{NoneFills}
use Rattle.segevict.specs.Rows.{IsUsedRow}
use Rattle.segevict.specs.Words.{AreUnnamed, IsNamed}
use Rattle.segevict.proofs.FirstRowFacts.{unnamed_behind}
use Rattle.segevict.proofs.Naming.{unnamed}
use Rattle.segevict.proofs.StoredRows.{of_row}
use Rattle.segevict.proofs.Tiles.{IsRowFrom, item_of, rows_at, start_at}
use Rattle.segindex.proofs.UnnamedRows.{own_events}
use Rattle.segclient.specs.declared.segments.SourceSegment.{SourceSegment}
use Rattle.segclient.specs.Clearing.{comes_to, IsCleared}

-- ---- the way from item to item

-- it goes on
way_low : (h : List Event) (s to most from : ℕ) → comes_to h s to most from ≡ true → from ≤ to
way_low h s to zero from is = let same = eqb-true from to is in omega (arith, same)
way_low h s to (suc most) from is = ⊎_elim
    (λ here. let same = eqb-true from to here in omega (arith, same))
    (λ on. let low = way_low h s to most (from + span_in h s from) on in omega (arith, low))
    (or_cases (eqb from to) (comes_to h s to most (from + span_in h s from)) is)

way_longer : (h : List Event) (s to most from : ℕ) → comes_to h s to most from ≡ true → comes_to h s to (suc most) from ≡ true
way_longer h s to zero from is = or_left (eqb from to) (comes_to h s to zero (from + span_in h s from)) is
way_longer h s to (suc most) from is = let next = from + span_in h s from in ⊎_elim
    (λ here. or_left (eqb from to) (comes_to h s to (suc most) next) here)
    (λ on. or_right (eqb from to) (comes_to h s to (suc most) next) (way_longer h s to most next on))
    (or_cases (eqb from to) (comes_to h s to most next) is)

way_more : (h : List Event) (s to most more from : ℕ) → comes_to h s to most from ≡ true → comes_to h s to (more + most) from ≡ true
way_more h s to most zero from is = subst (λ n. comes_to h s to n from ≡ true) (let e : most ≡ 0 + most = omega arith in e) is
way_more h s to most (suc more) from is = subst (λ n. comes_to h s to n from ≡ true) (let e : suc (more + most) ≡ suc more + most = omega arith in e)
    (way_longer h s to (more + most) from (way_more h s to most more from is))

-- over one item more
way_over : (h : List Event) (s to most from : ℕ) → comes_to h s to most from ≡ true → comes_to h s (to + span_in h s to) (suc most) from ≡ true
way_over h s to most from is = by most from is
  where
    next : ℕ
    next = to + span_in h s to

    here : (from : ℕ) → eqb from to ≡ true → eqb (from + span_in h s from) next ≡ true
    here from is = eq-eqb (from + span_in h s from) next (ap (λ n. n + span_in h s n) (eqb-true from to is))

    by : (most from : ℕ) → comes_to h s to most from ≡ true → comes_to h s next (suc most) from ≡ true
    by zero from is = or_right (eqb from next) (eqb (from + span_in h s from) next) (here from is)
    by (suc most) from is = let then = from + span_in h s from in or_right (eqb from next) (comes_to h s next (suc most) then) (⊎_elim
        (λ at. or_left (eqb then next) (comes_to h s next most (then + span_in h s then)) (here from at))
        (λ on. by most then on)
        (or_cases (eqb from to) (comes_to h s to most then) is))

-- where the items up to there take as many rows as before
way_same : (h g : List Event) (s to : ℕ) → ((row : ℕ) → row < to → span_in g s row ≡ span_in h s row) → (most from : ℕ) → comes_to h s to most from ≡ true → comes_to g s to most from ≡ true
way_same h g s to same zero from is = is
way_same h g s to same (suc most) from is = let next = from + span_in h s from in ⊎_elim
    (λ here. or_left (eqb from to) (comes_to g s to most (from + span_in g s from)) here)
    (λ on. let low = way_low h s to most next on in let some = header_some ((row_alone h s from).words 0) in let header = same_header h s from in
    or_right (eqb from to) (comes_to g s to most (from + span_in g s from))
    (subst (λ n. comes_to g s to most (from + n) ≡ true) (sym (same from (omega (arith, low, some, header)))) (way_same h g s to same most next on)))
    (or_cases (eqb from to) (comes_to h s to most next) is)

-- ---- first rows

covers_in : (first rows row : ℕ) → first ≤ row → row < first + rows → covers first rows row ≡ true
covers_in first rows row low high = ⊎_elim
    (λ is. is)
    (λ none. let past = not_covered first rows row none low in absurd (omega (arith, past, high)))
    (cases_Bool (covers first rows row))

module _ (z : Shape) (h : List Event) (s : ℕ) (l : IsLawful z h) where
  -- an item begins behind another
  starts_behind : (from : ℕ) (k key : List ℕ) → IsRowFrom h s from from k → (row_alone h s (from + rows_at h s from)).linked ≡ Some key
      → start_at h s (from + rows_at h s from) ≡ from + rows_at h s from
  starts_behind from k key this on =
      let next = from + rows_at h s from in
      let some = header_some ((row_alone h s from).words 0) in
      let item = item_of z h s next key l on in
      let f = item.0 in
      let rows = rows_at h s f in
      let low = covers-low f rows next item.1.within in
      let high = covers-high f rows next item.1.within in
      let itself : start_at h s f ≡ f = (item.1.all f (covers-first f rows (header_some ((row_alone h s f).words 0)))).1 in ⊎_elim
      (λ same. item.1.starts ∙ same)
      (λ other. absurd (⊎_elim
      (λ before. let there = (item.1.all from (covers_in f rows from (omega (arith, before)) (omega (arith, high, some)))).1 in
      let same : f ≡ from = sym there ∙ this.starts in omega (arith, before, same))
      (λ behind. let there = (this.all f (covers_in from (rows_at h s from) f behind (omega (arith, low, other)))).1 in
      let same : f ≡ from = sym itself ∙ there in let past = subst (λ n. next < n + rows_at h s n) same high in omega (arith, past))
      (cases_lt f from)))
      (cases_eq f next)

  module _ (to : ℕ) (k : List ℕ) (linked : (row : ℕ) → row < to → (key : List ℕ) × ((row_alone h s row).linked ≡ Some key)) (on : (row_alone h s to).linked ≡ Some k) where
    linked_to : (row : ℕ) → row ≤ to → (key : List ℕ) × ((row_alone h s row).linked ≡ Some key)
    linked_to row low = ⊎_elim
        (λ same. (k, subst (λ n. (row_alone h s n).linked ≡ Some k) (sym same) on))
        (λ other. linked row (omega (arith, low, other)))
        (cases_eq row to)

    starts : (most from : ℕ) → comes_to h s to most from ≡ true → start_at h s from ≡ from → start_at h s to ≡ to
    starts zero from is at = subst (λ n. start_at h s n ≡ n) (eqb-true from to is) at
    starts (suc most) from is at = ⊎_elim
        (λ here. subst (λ n. start_at h s n ≡ n) (eqb-true from to here) at)
        (λ more.
        let same = same_header h s from in
        let low = way_low h s to most (from + span_in h s from) more in
        let has = linked_to from (omega (arith, low)) in
        let item = item_of z h s from has.0 l has.1 in
        let this = subst (λ f. IsRowFrom h s f from has.0) (sym item.1.starts ∙ at) item.1 in
        let next = linked_to (from + rows_at h s from) (omega (arith, low, same)) in
        starts most (from + span_in h s from) more
        (subst (λ n. start_at h s (from + n) ≡ from + n) (sym same) (starts_behind from has.0 next.0 this next.1)))
        (or_cases (eqb from to) (comes_to h s to most (from + span_in h s from)) is)

    starts_first : start_at h s 0 ≡ 0
    starts_first =
        let has = linked_to 0 (omega arith) in
        let item = item_of z h s 0 has.0 l has.1 in
        let low = covers-low item.0 (rows_at h s item.0) 0 item.1.within in
        item.1.starts ∙ (let e : item.0 ≡ 0 = omega (arith, low) in e)

    pub item_there : comes_to h s to to 0 ≡ true → IsRowFrom h s to to k
    item_there way =
        let item = item_of z h s to k l on in
        subst (λ f. IsRowFrom h s f to k) (sym item.1.starts ∙ starts to 0 way starts_first) item.1

-- ---- the rows of an item that none names any more

module _ (b : Board) (q : Pass) (segment row : ℕ) (quiet : IsQuiet b q) (are : AreUnnamed b.shape segment (row + 1) q) (way : comes_to (trace q) segment row row 0 ≡ true) where
  abbrev h : List Event
  h = trace q

  abbrev lawful : IsLawful b.shape h
  lawful = quiet.pass.lawful

  abbrev rows : ℕ
  rows = rows_at h segment row

  abbrev used : IsUsedRow segment row q
  used = (are row (omega arith)).0

  abbrev key : List ℕ
  key = (of_row b segment row q quiet used).key

  item : IsRowFrom h segment row row key
  item = item_there b.shape h segment lawful row key
      (λ other lt. let of = of_row b segment other q quiet (are other (omega (arith, lt))).0 in (of.key, of.linked))
      (of_row b segment row q quiet used).linked way

  within : (other : ℕ) → (row_alone h segment other).linked ≡ Some key → other < b.shape.rows
  within other linked = ⊎_elim
      (λ lt. lt)
      (λ past. absurd (none-some key (sym (ap (λ (u : Row). u.linked) (outside b.shape h segment other lawful past)) ∙ linked)))
      (cases_lt other b.shape.rows)

  behind : (other : ℕ) → row < other → other < row + rows → IsUsedRow segment other q × ¬ (IsNamed b.shape segment other (marked q))
  behind other low high =
      let is = item.all other (covers_in row rows other (omega (arith, low)) high) in (
        (used.0, used.1, ltb-true other used.0 (sym (quiet.segments.rows segment used.0 other used.1 (within other is.0)) ∙ ap is_some is.0)),
        unnamed b.shape h segment other lawful (unnamed_behind b.shape h segment other lawful (λ same. let e : row ≡ other = sym is.1 ∙ same in omega (arith, low, e))),
      )

  pub all_unnamed : AreUnnamed b.shape segment (row + span_in h segment row) q
  all_unnamed other lt = ⊎_elim
      (λ low. are other low)
      (λ high. let same = same_header h segment row in behind other (omega (arith, high)) (omega (arith, lt, same)))
      (cases_lt other (row + 1))

  pub way_on : comes_to h segment (row + span_in h segment row) (row + span_in h segment row) 0 ≡ true
  way_on =
      let span = span_in h segment row in
      let some = header_some ((row_alone h segment row).words 0) in
      let same = same_header h segment row in
      subst (λ n. comes_to h segment (row + span) n 0 ≡ true) (let e : (span - 1) + suc row ≡ row + span = omega (arith, some, same) in e)
      (way_more h segment (row + span) (suc row) (span - 1) 0 (way_over h segment row row 0 way))

-- so the clearing goes on behind them
pub cleared_behind : (b : Board) (q : Pass) (source : SourceSegment) (count : ℕ) → IsQuiet b q → owner b.shape source.segment ≡ number q
    → AreUnnamed b.shape source.segment (source.row + 1) q → comes_to (trace q) source.segment source.row source.row 0 ≡ true
    → count ≡ span_in (trace q) source.segment source.row
    → IsCleared b.shape (Some (record { segment = source.segment; row = source.row + count })) q
cleared_behind b q source count quiet own are way spans = (
  own,
  subst (λ n. AreUnnamed b.shape source.segment (source.row + n) q) (sym spans) (all_unnamed b q source.segment source.row quiet are way),
  subst (λ n. comes_to (trace q) source.segment (source.row + n) (source.row + n) 0 ≡ true) (sym spans) (way_on b q source.segment source.row quiet are way),
)

-- ---- rows that stay

module _ (b : Board) (p q : Pass) (segment : ℕ) (added : List Entry) (quiet : IsQuiet b p) (on : GoesOn b p q)
    (entries : mine q ≡ added ++ mine p) (none : NoneFills segment added) (own : owner b.shape segment ≡ number p) where
  row_kept : (row : ℕ) → IsUsedRow segment row p → row_alone (trace q) segment row ≡ row_alone (trace p) segment row
  row_kept row used =
      let grew = steps_grew p q on.steps in
      let of = of_row b segment row p quiet used in
      ap (λ g. row_alone g segment row) grew.1
      ∙ row_since b.shape grew.0 (trace p) segment row of.key (subst (IsLawful b.shape) grew.1 on.quiet.pass.lawful)
      (own_events b p q segment added on entries none own) of.linked

  pub span_kept : (row : ℕ) → IsUsedRow segment row p → span_in (trace q) segment row ≡ span_in (trace p) segment row
  span_kept row used = same_header (trace q) segment row ∙ ap (λ (u : Row). span_of_header (u.words 0)) (row_kept row used) ∙ sym (same_header (trace p) segment row)

  pub way_kept : (to : ℕ) → AreUnnamed b.shape segment to p → comes_to (trace p) segment to to 0 ≡ true → comes_to (trace q) segment to to 0 ≡ true
  way_kept to are way = way_same (trace p) (trace q) segment to (λ row lt. span_kept row (are row lt).0) to 0 way

-- a segment has far fewer rows than a number may count
pub last_low : (b : Board) (p : Pass) (segment to : ℕ) → IsQuiet b p → AreUnnamed b.shape segment to p → to < 2 ^ 32
last_low b p segment zero quiet are = omega arith
last_low b p segment (suc to) quiet are =
    let used = (are to (omega arith)).0 in
    let few = quiet.segments.few segment used.0 used.1 in
    let low = used.2 in
    let most = quiet.pass.valid.0.1.1 in
    omega (arith, few, low, most)
