-- How many rows are left where the pass stores: rows for an item are rows for one that takes fewer, and a segment that was refilled has all.
use Rattle.std.proofs.Common.{◌≡◌, ℕ, ◌+◌, ◌<◌, ◌≤◌, Bool, true, false, eqb, cond, Option, Some, None, option_and_then, refl, sym, ap, ◌∙◌, ⊎_elim, lt-ltb, ltb-true, le-leb, leb-true, arith}
use Rattle.std.specs.Prelude.{min}
use Rattle.std.proofs.lemmas.Bool.{cases_Bool, cond_both, cond-false, cond-true, eqb-true, false≢true, false_from_ne_true}
use Rattle.segword.specs.declared.limits.Limits.{Limits}
use Rattle.segword.specs.Words.{most_rows, Shape}
use Rattle.segcore.proofs.Spans.{span_some}
use Rattle.segbase.specs.Words.{current_of, Pass, used_of}
use Rattle.segstore.specs.Words.{are_left, has_room, has_room_for, is_below}
use Rattle.segclient.specs.PutParts.{StoresAfresh}

-- ---- rows of a segment of which so many are used

abbrev left_of : ℕ → ℕ → Option ℕ → Bool
left_of count rows used = cond (eqb count 1) (is_below rows used) (are_left count rows used)

left_true : (count rows used : ℕ) → left_of count rows (Some used) ≡ true → used + count ≤ rows
left_true count rows used is = ⊎_elim
    (λ one. let below = ltb-true used rows (sym (cond-true (eqb count 1) (is_below rows (Some used)) (are_left count rows (Some used)) one) ∙ is) in
    let same = eqb-true count 1 one in omega (arith, below, same))
    (λ more. leb-true (used + count) rows (sym (cond-false (eqb count 1) (is_below rows (Some used)) (are_left count rows (Some used)) more) ∙ is))
    (cases_Bool (eqb count 1))

left_from : (count rows used : ℕ) → used + count ≤ rows → left_of count rows (Some used) ≡ true
left_from count rows used fits = cond_both (eqb count 1) (is_below rows (Some used)) (are_left count rows (Some used)) (λ t. t ≡ true)
    (λ one. let same = eqb-true count 1 one in lt-ltb used rows (omega (arith, fits, same)))
    (λ more. le-leb (used + count) rows fits)

left_none : (count rows : ℕ) → left_of count rows None ≡ false
left_none count rows = cond_both (eqb count 1) false false (λ t. t ≡ false) (λ one. refl) (λ more. refl)

left_fewer : (count more rows : ℕ) (used : Option ℕ) → count ≤ more → left_of more rows used ≡ true → left_of count rows used ≡ true
left_fewer count more rows None few is = absurd (false≢true (sym (left_none more rows) ∙ is))
left_fewer count more rows (Some used) few is = let fits = left_true more rows used is in left_from count rows used (omega (arith, few, fits))

left_too_few : (count rows : ℕ) (used : Option ℕ) → rows < count → left_of count rows used ≡ false
left_too_few count rows None many = left_none count rows
left_too_few count rows (Some used) many = false_from_ne_true (left_of count rows (Some used)) (λ is. let fits = left_true count rows used is in omega (arith, many, fits))

-- ---- rows of the current segment

abbrev used_there : Pass → Option ℕ
used_there p = option_and_then (used_of p) (current_of p)

pub room_for_fewer : (shape : Shape) (count more : ℕ) (p : Pass) → count ≤ more → has_room_for shape more p ≡ true → has_room_for shape count p ≡ true
room_for_fewer shape count more p few is = left_fewer count more shape.rows (used_there p) few is

-- room for an item is room for a row
pub room_for_one : (shape : Shape) (count : ℕ) (p : Pass) → 1 ≤ count → has_room_for shape count p ≡ true → has_room shape p ≡ true
room_for_one shape count p some is = room_for_fewer shape 1 count p some is

pub none_for_more : (shape : Shape) (count : ℕ) (p : Pass) → 1 ≤ count → has_room shape p ≡ false → has_room_for shape count p ≡ false
none_for_more shape count p some full = false_from_ne_true (has_room_for shape count p) (λ is. false≢true (sym full ∙ room_for_one shape count p some is))

-- an item never has room that takes more rows than a segment has
pub none_for_long : (shape : Shape) (count : ℕ) (p : Pass) → shape.rows < count → has_room_for shape count p ≡ false
none_for_long shape count p long = left_too_few count shape.rows (used_there p) long

-- so many rows are used of the current segment, and so many more fit
pub room_behind : (shape : Shape) (count used segment : ℕ) (p : Pass) → current_of p ≡ Some segment → used_of p segment ≡ Some used
    → used + count ≤ shape.rows → has_room_for shape count p ≡ true
room_behind shape count used segment p current is fits =
    ap (λ (o : Option ℕ). left_of count shape.rows (option_and_then (used_of p) o)) current ∙ ap (left_of count shape.rows) is ∙ left_from count shape.rows used fits

pub room_afresh : (shape : Shape) (count : ℕ) (p : Pass) → StoresAfresh p → count ≤ shape.rows → has_room_for shape count p ≡ true
room_afresh shape count p (segment, current, none) few = room_behind shape count 0 segment p current none (omega (arith, few))

-- ---- rows of an item

-- as many as the longest item takes, or all that a segment has
pub most_few : (limits : Limits) (rows : ℕ) → min (most_rows limits) rows ≤ rows
most_few limits rows = omega arith

pub most_some : (limits : Limits) (rows : ℕ) → 1 ≤ rows → 1 ≤ min (most_rows limits) rows
most_some limits rows some = let longest = span_some limits.key limits.value in omega (arith, some, longest)
