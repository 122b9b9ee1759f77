-- The rows that marks name are the first ones of the items that are linked in this filling, and the used rows are those of these items.
use Rattle.std.proofs.Common.{◌≡◌, ◌≢◌, ℕ, ◌<◌, ◌≤◌, nat_lt, Bool, true, false, cond, eqb, ◌&&◌, is_some, List, [], ◌∷◌, Option, Some, None, refl, sym, ap, ◌∙◌, subst, ⊎_elim, arith}
use Rattle.std.proofs.lemmas.Bool.{and_from, and_parts, cases_Bool, cases_lt, cond-false, cond-true, eq-eqb, eqb-true, false_from_ne_true, false≢true, le-ltb, lt-ltb, ltb-true}
use Rattle.std.specs.Prelude.{IsSome}
use Rattle.segword.specs.Words.{covers, most_rows, Shape}
use Rattle.segmodel.specs.Words.{key_of}
use Rattle.segcore.specs.declared.event.Event.TheVariants.{Filled, Linked, Refilled, Relinked, Unlinked}
use Rattle.segcore.specs.declared.event.Leaving.TheVariants.{Deletes, Evicts}
use Rattle.segcore.specs.Words.{Event, IsLawful, linked_in, marked, Row, row_after, row_alone, span_in, writes_row}
use Rattle.segcore.proofs.Orderly.{unlinked_marked}
use Rattle.segcore.proofs.Quiet.{at_unlinked, of_row}
use Rattle.segcore.proofs.Spans.{header_some}
use Rattle.segcore.proofs.Standing.{now_linked, now_moved, row_itself}
use Rattle.segbase.specs.Words.{Board, Pass, trace, used_of}
use Rattle.segstore.specs.Words.{IsQuiet}
use Rattle.segstore.proofs.LinkedRows.{same_header}
use Rattle.segevict.proofs.StoredRows as stored
use Rattle.segevict.proofs.Tiles.{begins, item_of, rows_at, start_at}
use Rattle.segindex.specs.Laws.{IsOfLinkedItem}

-- ---- the rows that marks name

-- what a row is linked to, if an item begins there
abbrev first_linked : List Event → ℕ → ℕ → Option (List ℕ)
first_linked h s r = cond (eqb (start_at h s r) r) (row_alone h s r).linked None

-- an event that isn't of the row leaves it
off : (e : Event) (h : List Event) (s r : ℕ) → of_row h e s r ≡ false → first_linked (e ∷ h) s r ≡ first_linked h s r
off e h s r miss = let u = row_alone h s r in
    λ j. cond (eqb (begins (miss j) e (start_at h s r)) r) (cond-false (of_row h e s r) (writes_row e u) u miss j).linked None

-- a row that isn't linked isn't the first one of an item
none_if : (t : Bool) (o : Option (List ℕ)) → o ≡ None → cond t o None ≡ None
none_if true o is = is
none_if false o is = refl

-- an item that takes rows from another one on doesn't begin here
not_first : (t i s r : ℕ) (among : ℕ → Bool) → among i ≡ true → (eqb t s && among r) ≡ false → (eqb t s && eqb i r) ≡ false
not_first t i s r among itself miss = ⊎_elim
    (λ y. let q = and_parts (eqb t s) (eqb i r) y in
    absurd (false≢true (sym miss ∙ and_from (eqb t s) (among r) q.0 (subst (λ x. among x ≡ true) (eqb-true i r q.1) itself))))
    (λ f. f)
    (cases_Bool (eqb t s && eqb i r))

-- a mark that names a row, and what it leaves of the others
module _ (z : Shape) (e : Event) (h : List Event) (t i s r : ℕ) (k : List ℕ) (l : IsLawful z (e ∷ h)) (other : (p u d : ℕ) → e ≢ Refilled p u d) where
  marks_hit : of_row h e s r ≡ true → eqb t s ≡ true → start_at (e ∷ h) s r ≡ i → (row_alone (e ∷ h) s r).linked ≡ Some k
      → cond (eqb t s && eqb i r) (Some k) (linked_in (marked h) s r) ≡ first_linked (e ∷ h) s r
  marks_hit hit here start linked =
      let before : linked_in (marked h) s r ≡ None = unlinked_marked h s r (at_unlinked z h e s r l.1.suits other hit) in
      (λ j. cond (here j && eqb i r) (Some k) (before j)) ∙ sym (λ j. cond (eqb (start j) r) (linked j) None)

  marks_miss : of_row h e s r ≡ false → (eqb t s && eqb i r) ≡ false → linked_in (marked h) s r ≡ first_linked h s r
      → cond (eqb t s && eqb i r) (Some k) (linked_in (marked h) s r) ≡ first_linked (e ∷ h) s r
  marks_miss miss elsewhere before = cond-false (eqb t s && eqb i r) (Some k) (linked_in (marked h) s r) elsewhere ∙ (before ∙ sym (off e h s r miss))

-- marks name the first row of each item that is linked in this filling, and no row behind a first one
marks_first : (z : Shape) (h : List Event) (s r : ℕ) → IsLawful z h → linked_in (marked h) s r ≡ first_linked h s r
marks_first z [] s r l = sym (none_if (eqb r r) None refl)
marks_first z (Linked p q t i n ∷ h) s r l = let e = Linked p q t i n in let among = covers i (rows_at h t i) in ⊎_elim
    (λ hit. let w = and_parts (eqb t s) (among r) hit in
    marks_hit z e h t i s r (key_of q) l (λ p' t' d' same. cc) hit w.0 (ap (λ b. begins b e (start_at h s r)) hit)
    (subst (λ x. (row_alone (e ∷ h) x r).linked ≡ Some (key_of q)) (eqb-true t s w.0) (now_linked h p q t i n r w.1)))
    (λ miss. marks_miss z e h t i s r (key_of q) l (λ p' t' d' same. cc) miss (not_first t i s r among (row_itself h t i) miss) (marks_first z h s r l.0))
    (cases_Bool (of_row h e s r))
marks_first z (Relinked p k a f t i n ∷ h) s r l = let e = Relinked p k a f t i n in let among = covers i (rows_at h t i) in ⊎_elim
    (λ hit. let w = and_parts (eqb t s) (among r) hit in
    marks_hit z e h t i s r k l (λ p' t' d' same. cc) hit w.0 (ap (λ b. begins b e (start_at h s r)) hit)
    (subst (λ x. (row_alone (e ∷ h) x r).linked ≡ Some k) (eqb-true t s w.0) (now_moved h p k a f t i n r w.1)))
    (λ miss. marks_miss z e h t i s r k l (λ p' t' d' same. cc) miss (not_first t i s r among (row_itself h t i) miss) (marks_first z h s r l.0))
    (cases_Bool (of_row h e s r))
marks_first z (Refilled p t d ∷ h) s r l = let e = Refilled p t d in let u = row_alone h s r in ⊎_elim
    (λ hit. cond-true (eqb t s) None (linked_in (marked h) s r) hit
    ∙ sym (none_if (eqb (start_at (e ∷ h) s r) r) (row_alone (e ∷ h) s r).linked (ap (λ (y : Row). y.linked) (cond-true (eqb t s) (writes_row e u) u hit))))
    (λ miss. cond-false (eqb t s) None (linked_in (marked h) s r) miss ∙ (marks_first z h s r l.0 ∙ sym (off e h s r miss)))
    (cases_Bool (eqb t s))
marks_first z (Filled p t i place w ∷ h) s r l = let e = Filled p t i place w in let u = row_alone h s r in ⊎_elim
    (λ hit. let before = at_unlinked z h e s r l.1.suits (λ p' t' d' same. cc) hit in
    marks_first z h s r l.0 ∙ (none_if (eqb (start_at h s r) r) u.linked before
    ∙ sym (none_if (eqb (start_at (e ∷ h) s r) r) (row_alone (e ∷ h) s r).linked (ap (λ (y : Row). y.linked) (cond-true (of_row h e s r) (writes_row e u) u hit) ∙ before))))
    (λ miss. marks_first z h s r l.0 ∙ sym (off e h s r miss))
    (cases_Bool (of_row h e s r))
marks_first z (Unlinked p k n (Deletes m) ∷ h) s r l = marks_first z h s r l.0
marks_first z (Unlinked p k n (Evicts t) ∷ h) s r l = marks_first z h s r l.0
marks_first z (e ∷ h) s r l = marks_first z h s r l.0

-- ---- the rows that are used

some_if : (t : Bool) (o : Option (List ℕ)) → is_some (cond t o None) ≡ true → (t ≡ true) × ((k : List ℕ) × (o ≡ Some k))
some_if true (Some k) some = (refl, (k, refl))
some_if true None some = absurd (false≢true some)
some_if false o some = absurd (false≢true some)

module _ (b : Board) (p : Pass) (s used row : ℕ) (quiet : IsQuiet b p) (is : used_of p s ≡ Some used) where
  -- a used row is one of an item whose first row marks name
  pub item_of_used : row < used → IsOfLinkedItem p s row
  item_of_used lt =
      let h = trace p in let of = stored.of_row b s row p quiet (used, is, lt) in
      let x = item_of b.shape h s row of.key quiet.pass.lawful of.linked in let first = x.1.all x.0 (row_itself h s x.0) in (
        x.0,
        ap is_some (marks_first b.shape h s x.0 quiet.pass.lawful
            ∙ (cond-true (eqb (start_at h s x.0) x.0) (row_alone h s x.0).linked None (eq-eqb (start_at h s x.0) x.0 first.1) ∙ first.0)),
        subst (λ n. covers x.0 n row ≡ true) (sym (same_header h s x.0)) x.1.within,
      )

  -- and the rows of such an item are used
  pub used_if_in_item : row < b.shape.rows → IsOfLinkedItem p s row → row < used
  used_if_in_item within it =
      let h = trace p in let first = it.0 in
      let begun = some_if (eqb (start_at h s first) first) (row_alone h s first).linked (sym (ap is_some (marks_first b.shape h s first quiet.pass.lawful)) ∙ it.1) in
      let x = item_of b.shape h s first begun.1.0 quiet.pass.lawful begun.1.1 in
      let same : x.0 ≡ first = sym x.1.starts ∙ eqb-true (start_at h s first) first begun.0 in
      let among : covers first (rows_at h s first) row ≡ true = subst (λ n. covers first n row ≡ true) (same_header h s first) it.2 in
      let linked = (x.1.all row (subst (λ i. covers i (rows_at h s i) row ≡ true) (sym same) among)).0 in
      ltb-true row used (sym (quiet.segments.rows s used row is within) ∙ ap is_some linked)

-- ---- how many rows an item takes

-- the item of a row that marks name takes no more than the limits allow
pub items_within : (b : Board) (p : Pass) (s row : ℕ) → IsQuiet b p → IsSome (linked_in (marked (trace p)) s row) → span_in (trace p) s row ≤ most_rows b.limits
items_within b p s row quiet some =
    let h = trace p in
    let begun = some_if (eqb (start_at h s row) row) (row_alone h s row).linked (sym (ap is_some (marks_first b.shape h s row quiet.pass.lawful)) ∙ some) in
    let x = item_of b.shape h s row begun.1.0 quiet.pass.lawful begun.1.1 in
    let same : x.0 ≡ row = sym x.1.starts ∙ eqb-true (start_at h s row) row begun.0 in
    subst (λ n. n ≤ most_rows b.limits) (sym (same_header h s row)) (subst (λ r. rows_at h s r ≤ most_rows b.limits) same (x.1.few b.limits quiet.pass.within))

-- where these allow only one, an item that begins in a row that is used has just that row
module _ (b : Board) (p : Pass) (s used : ℕ) (quiet : IsQuiet b p) (one : most_rows b.limits ≡ 1) where
  only_itself : (first row : ℕ) → IsSome (linked_in (marked (trace p)) s first) → covers first (span_in (trace p) s first) row ≡ true → first ≡ row
  only_itself first row some among =
      let few = items_within b p s first quiet some in let least = header_some ((row_after (trace p) s first).words 0) in
      let single : span_in (trace p) s first ≡ 1 = omega (arith, few, least, one) in
      eqb-true first row (subst (λ n. covers first n row ≡ true) single among)

  -- so marks name each used row
  pub each_linked : (row : ℕ) → used_of p s ≡ Some used → row < used → IsSome (linked_in (marked (trace p)) s row)
  each_linked row is lt = let it = item_of_used b p s used row quiet is lt in
      subst (λ r. IsSome (linked_in (marked (trace p)) s r)) (only_itself it.0 row it.1 it.2) it.1

  pub only_row : (first row : ℕ) → used_of p s ≡ Some used → first < used → covers first (span_in (trace p) s first) row ≡ true → first ≡ row
  only_row first row is lt among = only_itself first row (each_linked first is lt) among

  -- and no other row of the segment
  pub linked_if_used : (row : ℕ) → used_of p s ≡ Some used → row < b.shape.rows → is_some (linked_in (marked (trace p)) s row) ≡ nat_lt row used
  linked_if_used row is within = ⊎_elim
      (λ lt. each_linked row is lt ∙ sym (lt-ltb row used lt))
      (λ le. false_from_ne_true (is_some (linked_in (marked (trace p)) s row)) (λ some.
      let lt = used_if_in_item b p s used row quiet is within (row, some, subst (λ n. covers row n row ≡ true) (sym (same_header (trace p) s row)) (row_itself (trace p) s row)) in
      absurd (omega (arith, lt, le)))
      ∙ sym (le-ltb row used le))
      (cases_lt row used)
