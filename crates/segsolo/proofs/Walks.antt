-- A walk over the rows of items: at each row an item begins, or the row is one behind an item's first.
-- The model decides of an item at its last row.
use Rattle.std.proofs.Common.{◌≡◌, ◌≢◌, ℕ, zero, suc, ◌+◌, ◌-◌, ◌<◌, ◌≤◌, ◌==◌, ◌&&◌, cond, nat_le, nat_lt, not, Bool, true, false, List, [], ◌∷◌, ◌++◌, length, replicate, Some, None, arith, refl, sym, ap, ◌∙◌, inl, inr, ◌⊎◌, ⊎_elim}
use Rattle.std.specs.BTreeMap.{is_at}
use Rattle.std.specs.Option.{option_or}
use Rattle.std.proofs.lemmas.Bool.{cases_lt, le-leb, le-ltb, lt-leb}
use Rattle.segword.specs.Words.{Shape}
use Rattle.segmodel.specs.declared.answer.KeepAnswer.TheVariants as keep
use Rattle.segmodel.specs.Words.{Filling, is_among, is_last_of, is_locked, keep_rows, KeepAnswer, key_cmp, lacks_rows, moved_to, span_under, standing, stands_in, State}
use Rattle.segmodel.proofs.Keys.{at_self, same_key}
use Rattle.segsolo.specs.Stored.{keys_of_rows, last_row_of}
use Rattle.segsolo.proofs.Rows.{among_itself, AreSome, before_last, last_is, last_low, rows_of_item}

-- ---- the items that begin at a row or behind it

-- the row in which the first of them begins, and they themselves
abbrev pub rest_from : ℕ → ℕ → List (List ℕ × ℕ) → ℕ × List (List ℕ × ℕ)
rest_from from row [] = (from, [])
rest_from from row (item ∷ items) = cond (nat_le row from) (from, item ∷ items) (rest_from (from + item.1) row items)

-- all of them, where the first one does
pub rest_all : (from row : ℕ) (items : List (List ℕ × ℕ)) → row ≤ from → rest_from from row items ≡ (from, items)
rest_all from row [] low = refl
rest_all from row (item ∷ items) low = ap (λ t. cond t (from, item ∷ items) (rest_from (from + item.1) row items)) (le-leb row from low)

past_first : (from row : ℕ) (item : List ℕ × ℕ) (items : List (List ℕ × ℕ)) → from < row → rest_from from row (item ∷ items) ≡ rest_from (from + item.1) row items
past_first from row item items high = ap (λ t. cond t (from, item ∷ items) (rest_from (from + item.1) row items)) (lt-leb row from high)

-- none, behind the last row
pub rest_none : (from row : ℕ) (items : List (List ℕ × ℕ)) → AreSome items → from + length (keys_of_rows items) ≤ row → (rest_from from row items).1 ≡ []
rest_none from row [] all past = refl
rest_none from row (item ∷ items) all past =
    let long = rows_of_item item items in
    ap (λ rest. rest.1) (past_first from row item items (omega (arith, past, long, all.0)))
    ∙ rest_none (from + item.1) row items all.1 (omega (arith, past, long))

-- an item begins in the row; it is the last one of its key if none of the others has the key
pub record BeginsAt (from row : ℕ) (items : List (List ℕ × ℕ)) : Type 0 where
  pub item : List ℕ × ℕ
  pub later : List (List ℕ × ℕ)
  pub some : 1 ≤ item.1
  pub each : AreSome later
  pub here : rest_from from row items ≡ (row, item ∷ later)
  pub next : rest_from from (suc row) items ≡ (row + item.1, later)
  pub named : (key : List ℕ) → last_row_of key from items ≡ Some row → (item.0 ≡ key) × (last_row_of key (row + item.1) later ≡ None)
  pub last : last_row_of item.0 (row + item.1) later ≡ None → last_row_of item.0 from items ≡ Some row

-- or the row is one behind an item's first
pub record IsBehind (from row : ℕ) (items : List (List ℕ × ℕ)) : Type 0 where
  pub still : rest_from from (suc row) items ≡ rest_from from row items
  pub unnamed : (key : List ℕ) → last_row_of key from items ≢ Some row

pub at_row : (from row : ℕ) (items : List (List ℕ × ℕ)) → AreSome items → from ≤ row → row < from + length (keys_of_rows items) → BeginsAt from row items ⊎ IsBehind from row items
at_row from row [] all low high = absurd (omega (arith, low, high))
at_row from row (item ∷ items) all low high = ⊎_elim
    (λ inside. by inside (cases_lt from row))
    (λ past. go past (at_row (from + item.1) row items all.1 past (omega (arith, high, rows_of_item item items))))
    (cases_lt row (from + item.1))
  where
    -- the last item of a key is one of the others where it begins behind the first
    other : (key : List ℕ) → from < row → last_row_of key from (item ∷ items) ≡ Some row → last_row_of key (from + item.1) items ≡ Some row
    other key high is = ⊎_elim (λ later. later) (λ here. let place = here.2 in absurd (omega (arith, high, place))) (last_is key from row item items is)

    here : from ≡ row → row < from + item.1 → BeginsAt from row (item ∷ items)
    here same inside = record {
      item = item;
      later = items;
      some = all.0;
      each = all.1;
      here = rest_all from row (item ∷ items) (omega (arith, same)) ∙ (λ i. (same i, item ∷ items));
      next = past_first from (suc row) item items (omega (arith, same)) ∙ (rest_all (from + item.1) (suc row) items (omega (arith, inside)) ∙ (λ i. (same i + item.1, items)));
      named = λ key is. ⊎_elim
          (λ later. let behind = last_low key (from + item.1) row items later in absurd (omega (arith, behind, inside)))
          (λ first. (sym (same_key key item.0 first.1), ap (λ n. last_row_of key (n + item.1) items) (sym same) ∙ first.0))
          (last_is key from row item items is);
      last = λ none.
          (λ i. option_or ((ap (λ n. last_row_of item.0 (n + item.1) items) same ∙ none) i) (cond (at_self item.0 i) (Some from) None)) ∙ ap Some same;
    }

    by : row < from + item.1 → (from < row) ⊎ (row ≤ from) → BeginsAt from row (item ∷ items) ⊎ IsBehind from row (item ∷ items)
    by inside (inr least) = inl (here (omega (arith, low, least)) inside)
    by inside (inl behind) = inr (record {
      still = past_first from (suc row) item items (omega (arith, behind)) ∙ (rest_all (from + item.1) (suc row) items (omega (arith, inside))
          ∙ (sym (rest_all (from + item.1) row items (omega (arith, inside))) ∙ sym (past_first from row item items behind)));
      unnamed = λ key is. let place = last_low key (from + item.1) row items (other key behind is) in absurd (omega (arith, place, inside));
    })

    go : from + item.1 ≤ row → BeginsAt (from + item.1) row items ⊎ IsBehind (from + item.1) row items → BeginsAt from row (item ∷ items) ⊎ IsBehind from row (item ∷ items)
    go past (inl begins) = inl (record {
      item = begins.item;
      later = begins.later;
      some = begins.some;
      each = begins.each;
      here = past_first from row item items (omega (arith, past, all.0)) ∙ begins.here;
      next = past_first from (suc row) item items (omega (arith, past, all.0)) ∙ begins.next;
      named = λ key is. begins.named key (other key (omega (arith, past, all.0)) is);
      last = λ none. ap (λ last. option_or last (cond (is_at (key_cmp begins.item.0) item.0) (Some from) None)) (begins.last none);
    })
    go past (inr behind) = inr (record {
      still = past_first from (suc row) item items (omega (arith, past, all.0)) ∙ (behind.still ∙ sym (past_first from row item items (omega (arith, past, all.0))));
      unnamed = λ key is. behind.unnamed key (other key (omega (arith, past, all.0)) is);
    })

-- ---- the model goes over an item's rows

passed : (stands later low : Bool) → later ≡ true → (stands && not later && low) ≡ false
passed stands later low is = (λ i. stands && not (is i) && low) ∙ by stands
  where
    by : (stands : Bool) → (stands && false && low) ≡ false
    by true = refl
    by false = refl

-- it passes over all but the last
pub to_last : (shape : Shape) (from to cutoff rows : ℕ) (key : List ℕ) (keys : List (List ℕ)) (came now : ℕ) (frequencies : List ℕ) (count : ℕ) (state : State) → 1 ≤ rows
    → keep_rows shape from to cutoff (replicate rows key ++ keys) (replicate (rows - 1) came ++ now ∷ frequencies) count state
    ≡ keep_rows shape from to cutoff (key ∷ keys) (now ∷ frequencies) count state
to_last shape from to cutoff rows key keys came now frequencies count state some =
    ap (λ n. keep_rows shape from to cutoff (replicate n key ++ keys) (replicate (rows - 1) came ++ now ∷ frequencies) count state) (sym (before_last rows some)) ∙ by (rows - 1)
  where
    over : (last low : Bool) (on : KeepAnswer × State) (rest : KeepAnswer × State) → (last && low) ≡ false → cond (not (last && low)) on rest ≡ on
    over last low on rest is = ap (λ t. cond (not t) on rest) is

    by : (more : ℕ) → keep_rows shape from to cutoff (replicate (suc more) key ++ keys) (replicate more came ++ now ∷ frequencies) count state
        ≡ keep_rows shape from to cutoff (key ∷ keys) (now ∷ frequencies) count state
    by zero = refl
    by (suc more) = over (is_last_of state from key (replicate (suc more) key ++ keys)) (nat_le cutoff came) _ _
        (passed (stands_in from (standing state.cache key)) (is_among (replicate (suc more) key ++ keys) key) (nat_le cutoff came)
        (among_itself key (suc more) key keys (omega arith) (at_self key)))
        ∙ by more

-- and decides of the last
module _ (shape : Shape) (from to cutoff count : ℕ) (state : State) (key : List ℕ) (keys : List (List ℕ)) (frequency : ℕ) (frequencies : List ℕ) where
  abbrev is_to_move : Bool
  is_to_move = is_last_of state from key keys && nat_le cutoff frequency

  abbrev whole : KeepAnswer × State
  whole = keep_rows shape from to cutoff (key ∷ keys) (frequency ∷ frequencies) count state

  pub passes : is_to_move ≡ false → whole ≡ keep_rows shape from to cutoff keys frequencies count state
  passes is = rw is refl

  pub ends : is_to_move ≡ true → lacks_rows shape (span_under state key) state.filling (Some to) ≡ true → whole ≡ (keep.NoRoom count, state)
  ends is out = rw (is, out) refl

  pub blocks : is_to_move ≡ true → lacks_rows shape (span_under state key) state.filling (Some to) ≡ false → is_locked shape state key ≡ true → whole ≡ (keep.Busy count, state)
  blocks is room locked = rw (is, room, locked) refl

  pub moves : is_to_move ≡ true → lacks_rows shape (span_under state key) state.filling (Some to) ≡ false → is_locked shape state key ≡ false
      → whole ≡ keep_rows shape from to cutoff keys frequencies (count + 1) (moved_to key frequency to state)
  moves is room free = rw (is, room, free) refl

-- so many rows are left
pub has_them : (shape : Shape) (rows : ℕ) (filling : ℕ → Filling) (segment : ℕ) → 1 ≤ rows → length (filling segment).keys + rows ≤ shape.rows
    → lacks_rows shape rows filling (Some segment) ≡ false
has_them shape rows filling segment some fits = by (rows == 1)
  where
    by : (one : Bool) → cond one (nat_le shape.rows (length (filling segment).keys)) (nat_lt shape.rows (length (filling segment).keys + rows)) ≡ false
    by true = lt-leb shape.rows (length (filling segment).keys) (omega (arith, some, fits))
    by false = le-ltb shape.rows (length (filling segment).keys + rows) fits
