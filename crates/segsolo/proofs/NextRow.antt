-- A row that is used stays what it is by the marks until its segment is refilled; so an item that comes begins in the first row that isn't used.
use Rattle.std.proofs.Common.{◌≡◌, ◌≢◌, ℕ, ◌+◌, ◌<◌, ◌≤◌, ◌&&◌, eqb, true, is_some, List, [], ◌∷◌, ◌++◌, Some, None, refl, sym, ap, ◌∙◌, subst, ⊎_elim, arith}
use Rattle.std.proofs.lemmas.Bool.{and_from, and_parts, cases_lt, cond-false, eqb-true, false_from_ne_true, lt-ltb}
use Rattle.std.proofs.lemmas.Option.{none-some}
use Rattle.segword.specs.Words.{covers, Shape, span_of_header}
use Rattle.segmodel.specs.Words.{Entry, key_of, owner}
use Rattle.segcore.specs.declared.event.Event.TheVariants.{Linked, Refilled, Relinked, Unlinked}
use Rattle.segcore.specs.declared.event.Leaving.TheVariants.{Deletes, Evicts}
use Rattle.segcore.specs.Mark as mark
use Rattle.segcore.specs.Words.{Event, IsLawful, linked_in, NoneRefills, Row, row_after, row_alone, span_in}
use Rattle.segcore.proofs.Quiet.{at_unlinked}
use Rattle.segcore.proofs.Segments.{row_since}
use Rattle.segcore.proofs.Spans.{covers-first, header_some}
use Rattle.segcore.proofs.Standing.{row_itself}
use Rattle.segbase.specs.Words.{Board, marked, mine, number, Pass, trace, used_of}
use Rattle.segbase.proofs.Starting.{steps_grew}
use Rattle.segstore.specs.Words.{GoesOn, IsQuiet}
use Rattle.segstore.proofs.ItemRows.{covers-low}
use Rattle.segstore.proofs.LinkedRows.{same_header}
use Rattle.segread.specs.Holds.{NoneFills}
use Rattle.segevict.proofs.StoredRows.{some_key}
use Rattle.segevict.proofs.Tiles.{rows_at}
use Rattle.segindex.proofs.FirstRows.{item_of_used, used_if_in_item}
use Rattle.segindex.proofs.UnnamedRows.{own_events}

-- an item that begins in a row is of that row
begins_here : (h : List Event) (t i s r : ℕ) → (eqb t s && eqb i r) ≡ true → (eqb t s && covers i (rows_at h t i) r) ≡ true
begins_here h t i s r hit = let w = and_parts (eqb t s) (eqb i r) hit in
    and_from (eqb t s) (covers i (rows_at h t i) r) w.0 (subst (λ x. covers i (rows_at h t i) x ≡ true) (eqb-true i r w.1) (row_itself h t i))

-- no other item comes to begin in a row that is linked
linked_still : (z : Shape) (more h : List Event) (s r : ℕ) (k : List ℕ) → IsLawful z (more ++ h) → NoneRefills s more → (row_alone h s r).linked ≡ Some k
    → linked_in (mark.marked (more ++ h)) s r ≡ linked_in (mark.marked h) s r
linked_still z [] h s r k l none on = refl
linked_still z (Linked p q t i n ∷ more) h s r k l none on =
    let still : (row_alone (more ++ h) s r).linked ≡ Some k = ap (λ (u : Row). u.linked) (row_since z more h s r k l.0 none.1 on) ∙ on in
    cond-false (eqb t s && eqb i r) (Some (key_of q)) (linked_in (mark.marked (more ++ h)) s r)
    (false_from_ne_true (eqb t s && eqb i r) (λ hit.
    none-some k (sym (at_unlinked z (more ++ h) (Linked p q t i n) s r l.1.suits (λ p' t' d' same. cc) (begins_here (more ++ h) t i s r hit)) ∙ still)))
    ∙ linked_still z more h s r k l.0 none.1 on
linked_still z (Relinked p q a f t i n ∷ more) h s r k l none on =
    let still : (row_alone (more ++ h) s r).linked ≡ Some k = ap (λ (u : Row). u.linked) (row_since z more h s r k l.0 none.1 on) ∙ on in
    cond-false (eqb t s && eqb i r) (Some q) (linked_in (mark.marked (more ++ h)) s r)
    (false_from_ne_true (eqb t s && eqb i r) (λ hit.
    none-some k (sym (at_unlinked z (more ++ h) (Relinked p q a f t i n) s r l.1.suits (λ p' t' d' same. cc) (begins_here (more ++ h) t i s r hit)) ∙ still)))
    ∙ linked_still z more h s r k l.0 none.1 on
linked_still z (Refilled p t d ∷ more) h s r k l none on =
    cond-false (eqb t s) None (linked_in (mark.marked (more ++ h)) s r) (false_from_ne_true (eqb t s) (λ hit. none.0 p d (ap (λ x. Refilled p x d) (eqb-true t s hit))))
    ∙ linked_still z more h s r k l.0 none.1 on
linked_still z (Unlinked p q n (Deletes m) ∷ more) h s r k l none on = linked_still z more h s r k l.0 none.1 on
linked_still z (Unlinked p q n (Evicts t) ∷ more) h s r k l none on = linked_still z more h s r k l.0 none.1 on
linked_still z (e ∷ more) h s r k l none on = linked_still z more h s r k l.0 none.1 on

-- the row of an item that came, which uses so many rows, is the first one that wasn't used
module _ (b : Board) (p q : Pass) (on : GoesOn b p q) (before : IsQuiet b p) (key : List ℕ) (segment row used rows : ℕ) (added : List Entry)
    (entries : mine q ≡ added ++ mine p) (unfilled : NoneFills segment added) (own : owner b.shape segment ≡ number p)
    (fits : row < b.shape.rows) (some : 1 ≤ rows) (had : used_of p segment ≡ Some used) (has : used_of q segment ≡ Some (used + rows))
    (unlinked : linked_in (marked p) segment row ≡ None) (linked : linked_in (marked q) segment row ≡ Some key)
    (others : (r : ℕ) → r ≢ row → linked_in (marked q) segment r ≡ linked_in (marked p) segment r) where
  abbrev more : List Event
  more = (steps_grew p q on.steps).0

  grew : trace q ≡ more ++ trace p
  grew = (steps_grew p q on.steps).1

  lawful : IsLawful b.shape (more ++ trace p)
  lawful = subst (IsLawful b.shape) grew on.quiet.pass.lawful

  none : NoneRefills segment more
  none = own_events b p q segment added on entries unfilled own

  -- a used row is linked
  taken : (r : ℕ) → r < b.shape.rows → r < used → (k : List ℕ) × ((row_alone (trace p) segment r).linked ≡ Some k)
  taken r within low = some_key (row_after (trace p) segment r).linked (before.segments.rows segment used r had within ∙ lt-ltb r used low)

  not_used : row < used → ⊥
  not_used low = let k = taken row fits low in
      none-some key (sym unlinked ∙ (sym (linked_still b.shape more (trace p) segment row k.0 lawful none k.1)
      ∙ (ap (λ h. linked_in (mark.marked h) segment row) (sym grew) ∙ linked)))

  not_behind : used < row → ⊥
  not_behind high =
      let few = on.quiet.segments.few segment (used + rows) has in
      let it = item_of_used b q segment (used + rows) used on.quiet has (omega (arith, some)) in
      let first = it.0 in
      let low = covers-low first (span_in (trace q) segment first) used it.2 in
      let there : is_some (linked_in (marked p) segment first) ≡ true = ap is_some (sym (others first (λ e. omega (arith, e, low, high)))) ∙ it.1 in
      let itself = covers-first first (span_in (trace p) segment first) (header_some ((row_after (trace p) segment first).words 0)) in
      let begun = used_if_in_item b p segment used first before had (omega (arith, low, few, some)) (first, there, itself) in
      let k = taken first (omega (arith, low, few, some)) begun in
      let same : span_in (trace q) segment first ≡ span_in (trace p) segment first =
      ap (λ h. span_in h segment first) grew ∙ (same_header (more ++ trace p) segment first
      ∙ (ap (λ (u : Row). span_of_header (u.words 0)) (row_since b.shape more (trace p) segment first k.0 lawful none k.1) ∙ sym (same_header (trace p) segment first))) in
      let past = used_if_in_item b p segment used used before had (omega (arith, few, some))
      (first, there, subst (λ n. covers first n used ≡ true) same it.2) in
      absurd (omega (arith, past))

  pub next_row : row ≡ used
  next_row = ⊎_elim (λ low. absurd (not_used low)) (λ least. ⊎_elim (λ high. absurd (not_behind high)) (λ most. omega (arith, least, most)) (cases_lt used row)) (cases_lt row used)
