-- The rows that items of several rows take in a segment: one key, and one frequency, for each of them.
use Rattle.std.proofs.Common.{◌≡◌, ℕ, zero, suc, ◌+◌, ◌<◌, ◌≤◌, ◌==◌, Bool, true, false, cond, List, [], ◌∷◌, ◌++◌, length, replicate, Option, Some, None, refl, sym, ap, ◌∙◌, subst, eq-eqb, inl, inr, arith, MatchBool, IsSomeAnd, ◌||◌, ◌⊎◌, append_assoc, add-one, vec_len}
use Rattle.std.proofs.lemmas.Bool.{cases_eq, leb-false, ltb-false, ne_eqb}
use Rattle.std.proofs.lemmas.List.{append-nil, length-append, length-replicate}
use Rattle.std.specs.Prelude.{slice_get}
use Rattle.std.specs.Vec.{vec_capacity}
use Rattle.std.specs.List.{list_any}
use Rattle.std.specs.BTreeMap.{is_at}
use Rattle.segword.specs.Words.{Shape, span_of}
use Rattle.segmodel.specs.Words.{Cached}
use Rattle.segmodel.specs.declared.segment.Segment.{Segment}
use Rattle.segmodel.specs.Cache.{key_cmp, standing, with_at}
use Rattle.segmodel.specs.Segments.{AreRoomy, filling_of, fillings, HasRow, HasRows, HasSpace}
use Rattle.segmodel.specs.State.{Filling, State, is_among}
use Rattle.segmodel.specs.Serving.{are_short, is_out_of_rows, lacks_rows, span_of_item, span_under, with_key, with_rows}
use Rattle.segmodel.proofs.Keys.{at_self}

-- ---- how many rows

pub span_some : (key value : List ℕ) → 1 ≤ span_of key value
span_some key value = omega arith

pub item_span_some : (key : List ℕ) (item : Option Cached) → 1 ≤ span_of_item key item
item_span_some key None = omega arith
item_span_some key (Some item) = span_some key item.value

pub under_some : (state : State) (key : List ℕ) → 1 ≤ span_under state key
under_some state key = item_span_some key (standing state.cache key)

-- ---- so many rows are left

pub left_rows : (rows used limit : ℕ) → MatchBool (rows == 1) (used < limit) (used + rows ≤ limit) → used + rows ≤ limit
left_rows rows used limit left = elim (cases_eq rows 1) [
  | inl one ↦
      let below : used < limit = subst (λ b. MatchBool b (used < limit) (used + rows ≤ limit)) (eq-eqb rows 1 one) left in
      omega arith
  | inr more ↦ subst (λ b. MatchBool b (used < limit) (used + rows ≤ limit)) (ne_eqb rows 1 more) left
]

-- and the other way round
pub rows_left : (rows used limit : ℕ) → used + rows ≤ limit → MatchBool (rows == 1) (used < limit) (used + rows ≤ limit)
rows_left rows used limit left = elim (cases_eq rows 1) [
  | inl one ↦
      let below : used < limit = omega arith in
      subst (λ b. MatchBool b (used < limit) (used + rows ≤ limit)) (sym (eq-eqb rows 1 one)) below
  | inr more ↦ subst (λ b. MatchBool b (used < limit) (used + rows ≤ limit)) (sym (ne_eqb rows 1 more)) left
]

-- a segment that doesn't lack the rows has them
pub has_rows : (shape : Shape) (rows : ℕ) (filling : ℕ → Filling) (segment : ℕ) → lacks_rows shape rows filling (Some segment) ≡ false
    → length (filling segment).keys + rows ≤ shape.rows
has_rows shape rows filling segment room = elim (cases_eq rows 1) [
  | inl one ↦
      let left : is_out_of_rows shape filling (Some segment) ≡ false =
      sym (ap (λ b. cond b (is_out_of_rows shape filling (Some segment)) (are_short shape rows filling (Some segment))) (eq-eqb rows 1 one)) ∙ room in
      let below = leb-false shape.rows (length (filling segment).keys) left in
      omega arith
  | inr more ↦
      let left : are_short shape rows filling (Some segment) ≡ false =
      sym (ap (λ b. cond b (is_out_of_rows shape filling (Some segment)) (are_short shape rows filling (Some segment))) (ne_eqb rows 1 more)) ∙ room in
      ltb-false shape.rows (length (filling segment).keys + rows) left
]

-- no segment has none
pub lacks_none : (shape : Shape) (rows : ℕ) (filling : ℕ → Filling) → lacks_rows shape rows filling None ≡ true
lacks_none shape rows filling = by (rows == 1)
  where
    by : (one : Bool) → cond one true true ≡ true
    by true = refl
    by false = refl

-- ---- what the rows of an item leave in a segment

module _ (rows : ℕ) (key : List ℕ) (frequency : ℕ) (filling : Filling) where
  abbrev pub many : Filling
  many = record filling { keys = filling.keys ++ replicate rows key; frequencies = filling.frequencies ++ replicate rows frequency }

  pub rows_are : with_rows rows key frequency filling ≡ many
  rows_are = elim (cases_eq rows 1) [
    | inl one ↦
        ap (λ b. cond b (with_key key frequency filling) many) (eq-eqb rows 1 one)
        ∙ (λ i. record filling { keys = filling.keys ++ replicate (sym one i) key; frequencies = filling.frequencies ++ replicate (sym one i) frequency })
    | inr more ↦ ap (λ b. cond b (with_key key frequency filling) many) (ne_eqb rows 1 more)
  ]

  pub keys_with : (with_rows rows key frequency filling).keys ≡ filling.keys ++ replicate rows key
  keys_with = ap (λ (f : Filling). f.keys) rows_are

  pub frequencies_with : (with_rows rows key frequency filling).frequencies ≡ filling.frequencies ++ replicate rows frequency
  frequencies_with = ap (λ (f : Filling). f.frequencies) rows_are

  pub state_with : (with_rows rows key frequency filling).state ≡ filling.state
  state_with = ap (λ (f : Filling). f.state) rows_are

  pub pushed_rows : length (with_rows rows key frequency filling).keys ≡ length filling.keys + rows
  pushed_rows = ap length keys_with ∙ (length-append filling.keys (replicate rows key) ∙ ap (λ n. length filling.keys + n) (length-replicate rows key))

  pub pushed_frequencies : length (with_rows rows key frequency filling).frequencies ≡ length filling.frequencies + rows
  pushed_frequencies = ap length frequencies_with
      ∙ (length-append filling.frequencies (replicate rows frequency) ∙ ap (λ n. length filling.frequencies + n) (length-replicate rows frequency))

-- one row more
more_rows : {A : Type 0} (rows : ℕ) (x : A) → replicate rows x ++ x ∷ [] ≡ replicate (suc rows) x
more_rows zero x = refl
more_rows (suc rows) x = ap (λ xs. x ∷ xs) (more_rows rows x)

pushed : {A : Type 0} (rows : ℕ) (x : A) (xs : List A) → (xs ++ replicate rows x) ++ x ∷ [] ≡ xs ++ replicate (rows + 1) x
pushed rows x xs = append_assoc xs (replicate rows x) (x ∷ []) ∙ ap (λ ys. xs ++ ys) (more_rows rows x) ∙ ap (λ n. xs ++ replicate n x) (sym (add-one rows))

pub one_more : (rows : ℕ) (key : List ℕ) (frequency : ℕ) (filling : Filling) → with_key key frequency (many rows key frequency filling) ≡ many (rows + 1) key frequency filling
one_more rows key frequency filling = λ i. record filling { keys = pushed rows key filling.keys i; frequencies = pushed rows frequency filling.frequencies i }

pub none_more : (key : List ℕ) (frequency : ℕ) (filling : Filling) → many 0 key frequency filling ≡ filling
none_more key frequency filling = λ i. record filling { keys = append-nil filling.keys i; frequencies = append-nil filling.frequencies i }

-- a segment that is set to what it is, and one that is set twice
pub set_same : (f : ℕ → Filling) (segment : ℕ) (x : Filling) → x ≡ f segment → with_at f segment x ≡ f
set_same f segment x same = λ i other. at other (cases_eq segment other) i
  where
    at : (other : ℕ) → (segment ≡ other) ⊎ (segment ≡ other → ⊥) → with_at f segment x other ≡ f other
    at other (inl here) = rw (eq-eqb segment other here) (same ∙ ap f here)
    at other (inr there) = rw (ne_eqb segment other there) refl

pub set_twice : (f : ℕ → Filling) (segment : ℕ) (x y : Filling) → with_at (with_at f segment x) segment y ≡ with_at f segment y
set_twice f segment x y = λ i other. at (segment == other) other i
  where
    at : (here : Bool) (other : ℕ) → cond here y (cond here x (f other)) ≡ cond here y (f other)
    at true other = refl
    at false other = refl

pub set_here : (f : ℕ → Filling) (segment : ℕ) (x : Filling) → with_at f segment x segment ≡ x
set_here f segment x = rw (eq-eqb segment segment refl) refl

-- what stands at a place of a list
is_there : {A : Type 0} (xs : List A) (n : ℕ) → n < length xs → (x : A) × (slice_get xs n ≡ Some x)
is_there [] n below = absurd (omega arith)
is_there (y ∷ ys) zero below = (y, refl)
is_there (y ∷ ys) (suc n) below = is_there ys n (omega arith)

-- the memory for the rows of an item is memory for so many more
pub space_of : (segments : List Segment) (segment rows : ℕ) → HasRows segments segment rows → HasSpace segments segment rows
space_of segments segment rows has = elim (cases_eq rows 1) [
  | inl one ↦
      one_of (slice_get segments segment) one (subst (λ b. MatchBool b (HasRow segments segment) (HasSpace segments segment rows)) (eq-eqb rows 1 one) has)
  | inr more ↦ subst (λ b. MatchBool b (HasRow segments segment) (HasSpace segments segment rows)) (ne_eqb rows 1 more) has
]
  where
    one_of : (found : Option Segment) → rows ≡ 1
        → IsSomeAnd found (λ found. (vec_len found.keys < vec_capacity found.keys) × (vec_len found.frequencies < vec_capacity found.frequencies))
        → IsSomeAnd found (λ found. (vec_len found.keys + rows ≤ vec_capacity found.keys) × (vec_len found.frequencies + rows ≤ vec_capacity found.frequencies))
    one_of None one has = has
    one_of (Some found) one has = (omega (arith, has.0, one), omega (arith, has.1, one))

-- and it is memory for one of them, and for the rows of the item
pub row_of : (segments : List Segment) (segment rows : ℕ) → 1 ≤ rows → HasSpace segments segment rows → HasRow segments segment
row_of segments segment rows some has = by (slice_get segments segment) has
  where
    by : (found : Option Segment) → IsSomeAnd found (λ found. (vec_len found.keys + rows ≤ vec_capacity found.keys) × (vec_len found.frequencies + rows ≤ vec_capacity found.frequencies))
        → IsSomeAnd found (λ found. (vec_len found.keys < vec_capacity found.keys) × (vec_len found.frequencies < vec_capacity found.frequencies))
    by None has = has
    by (Some found) has = (omega (arith, has.0, some), omega (arith, has.1, some))

pub rows_of : (segments : List Segment) (segment rows : ℕ) → HasSpace segments segment rows → HasRows segments segment rows
rows_of segments segment rows has = elim (cases_eq rows 1) [
  | inl one ↦
      subst (λ b. MatchBool b (HasRow segments segment) (HasSpace segments segment rows)) (sym (eq-eqb rows 1 one)) (row_of segments segment rows (omega (arith, one)) has)
  | inr more ↦ subst (λ b. MatchBool b (HasRow segments segment) (HasSpace segments segment rows)) (sym (ne_eqb rows 1 more)) has
]

-- a segment that is there has the memory for the rows that are left in it, if it has it for all rows
pub space_left : (segments : List Segment) (segment rows limit : ℕ) → segment < length segments → AreRoomy limit segments
    → length (fillings segments segment).frequencies ≡ length (fillings segments segment).keys
    → MatchBool (rows == 1) (length (fillings segments segment).keys < limit) (length (fillings segments segment).keys + rows ≤ limit)
    → HasRows segments segment rows
space_left segments segment rows limit own roomy same left = by (is_there segments segment own)
  where
    by : (found : Segment) × (slice_get segments segment ≡ Some found) → HasRows segments segment rows
    by (found, is) =
        let few : length (fillings segments segment).keys + rows ≤ limit = left_rows rows (length (fillings segments segment).keys) limit left in
        let keys : vec_len found.keys ≡ length found.keys.items = found.keys.ok.0 in
        let frequencies : vec_len found.frequencies ≡ length found.frequencies.items = found.frequencies.ok.0 in
        let used : length (fillings segments segment).keys ≡ length found.keys.items = ap (λ o. length (filling_of o).keys) is in
        let raised : length (fillings segments segment).frequencies ≡ length found.frequencies.items = ap (λ o. length (filling_of o).frequencies) is in
        let space = roomy segment found is in
        rows_of segments segment rows (
        subst (λ o. IsSomeAnd o (λ found. (vec_len found.keys + rows ≤ vec_capacity found.keys) × (vec_len found.frequencies + rows ≤ vec_capacity found.frequencies))) (sym is)
        (omega (arith, space.0), omega (arith, space.1)))

-- ---- the rows of what stands

-- the rows of an item that stands under a key, and of none
pub under_is : (state : State) (key : List ℕ) (item : Cached) → standing state.cache key ≡ Some item → span_of key item.value ≡ span_under state key
under_is state key item stands = ap (span_of_item key) (sym stands)

pub under_none : (state : State) (key : List ℕ) → standing state.cache key ≡ None → 1 ≡ span_under state key
under_none state key stands = ap (span_of_item key) (sym stands)

-- a key is among its own rows
pub among_rows : (rows : ℕ) (key : List ℕ) → 1 ≤ rows → is_among (replicate rows key) key ≡ true
among_rows zero key some = absurd (omega arith)
among_rows (suc rows) key some = ap (λ b. b || list_any (is_at (key_cmp key)) (replicate rows key)) (at_self key)
