-- The rows of items that were stored one behind the other: their keys, their frequencies, and the last item of a key.
use Rattle.std.proofs.Common.{◌≡◌, ◌≢◌, ℕ, zero, suc, ◌+◌, ◌-◌, ◌<◌, ◌≤◌, ◌||◌, ◌&&◌, cond, eqb, not, Bool, true, false, List, [], ◌∷◌, ◌++◌, length, replicate, Option, Some, None, arith, refl, sym, ap, ◌∙◌, subst, inl, inr, ◌⊎◌, ⊎_elim, append_assoc}
use Rattle.std.specs.List.{list_any}
use Rattle.std.specs.BTreeMap.{is_at}
use Rattle.std.specs.Option.{option_or}
use Rattle.std.proofs.lemmas.Bool.{false≢true}
use Rattle.std.proofs.lemmas.List.{append-nil, length-append, length-replicate}
use Rattle.std.proofs.lemmas.List.Folds.{list_any-append}
use Rattle.std.proofs.lemmas.Option.{none-some, same_Some}
use Rattle.segword.specs.Words.{Shape}
use Rattle.segmodel.specs.declared.entry.Entry.TheVariants as entry
use Rattle.segmodel.specs.declared.request.Reply.TheVariants as reply
use Rattle.segmodel.specs.Words.{after, Entry, higher, is_among, key_cmp, key_of, raised, standing, value_of}
use Rattle.segmodel.proofs.Keys.{same_key, at_self}
use Rattle.segmodel.proofs.Spans.{item_span_some, span_some}
use Rattle.segsolo.specs.Stored.{frequencies_of, items_stored_in, keys_of_rows, last_row_of}

pub at_other : (key other : List ℕ) → key ≢ other → is_at (key_cmp key) other ≡ false
at_other key other ne = by (is_at (key_cmp key) other) refl
  where
    by : (here : Bool) → is_at (key_cmp key) other ≡ here → here ≡ false
    by true same = absurd (ne (same_key key other same))
    by false same = refl

-- ---- how many rows

-- each of these items takes a row at least
abbrev pub AreSome : List (List ℕ × ℕ) → Type 0
AreSome [] = Unit {0}
AreSome (item ∷ items) = (1 ≤ item.1) × AreSome items

some_pushed : (items : List (List ℕ × ℕ)) (item : List ℕ × ℕ) → AreSome items → 1 ≤ item.1 → AreSome (items ++ item ∷ [])
some_pushed [] item all some = (some, tt)
some_pushed (other ∷ items) item all some = (all.0, some_pushed items item all.1 some)

either : (here : Bool) (xs ys : List (List ℕ × ℕ)) → AreSome xs → AreSome ys → AreSome (cond here xs ys)
either true xs ys x y = x
either false xs ys x y = y

-- so does each that was stored in a segment
pub items_some : (shape : Shape) (history : List Entry) (segment : ℕ) → AreSome (items_stored_in shape history segment)
items_some shape [] segment = tt
items_some shape (entry.Wrote pass request reply.Stored (Some other) ∷ history) segment =
    either (eqb other segment) _ _ (some_pushed (items_stored_in shape history segment) _
    (items_some shape history segment) (span_some (key_of request) (value_of request))) (items_some shape history segment)
items_some shape (entry.Moved pass key from to ∷ history) segment =
    either (eqb to segment) _ _ (some_pushed (items_stored_in shape history segment) _
    (items_some shape history segment) (item_span_some key (standing (after shape history) key))) (items_some shape history segment)
items_some shape (entry.Refilled pass other deadline ∷ history) segment = either (eqb other segment) [] _ tt (items_some shape history segment)
items_some shape (other ∷ history) segment = items_some shape history segment

pub rows_of_item : (item : List ℕ × ℕ) (items : List (List ℕ × ℕ)) → length (keys_of_rows (item ∷ items)) ≡ item.1 + length (keys_of_rows items)
rows_of_item item items = length-append (replicate item.1 item.0) (keys_of_rows items) ∙ ap (λ n. n + length (keys_of_rows items)) (length-replicate item.1 item.0)

-- each row has a frequency
pub as_many : (came now : ℕ → ℕ) (row : ℕ) (items : List (List ℕ × ℕ)) → AreSome items → length (frequencies_of came now row items) ≡ length (keys_of_rows items)
as_many came now row [] all = refl
as_many came now row (item ∷ items) all =
    let rest = as_many came now (row + item.1) items all.1 in
    let keys = rows_of_item item items in
    let parts : length (frequencies_of came now row (item ∷ items)) ≡ (item.1 - 1) + suc (length (frequencies_of came now (row + item.1) items)) =
    length-append (replicate (item.1 - 1) (came row)) (now row ∷ frequencies_of came now (row + item.1) items)
    ∙ ap (λ n. n + suc (length (frequencies_of came now (row + item.1) items))) (length-replicate (item.1 - 1) (came row)) in
    omega (arith, all.0, rest, keys, parts)

-- ---- an item more

pub keys_pushed : (items : List (List ℕ × ℕ)) (key : List ℕ) (rows : ℕ) → keys_of_rows (items ++ (key, rows) ∷ []) ≡ keys_of_rows items ++ replicate rows key
keys_pushed [] key rows = append-nil (replicate rows key)
keys_pushed (item ∷ items) key rows =
    ap (λ keys. replicate item.1 item.0 ++ keys) (keys_pushed items key rows) ∙ sym (append_assoc (replicate item.1 item.0) (keys_of_rows items) (replicate rows key))

one_more : (rows : ℕ) (x : ℕ) → replicate rows x ++ x ∷ [] ≡ replicate (suc rows) x
one_more zero x = refl
one_more (suc rows) x = ap (λ xs. x ∷ xs) (one_more rows x)

pub before_last : (rows : ℕ) → 1 ≤ rows → suc (rows - 1) ≡ rows
before_last rows some = omega arith

-- its rows have a frequency of their own
pub frequencies_pushed : (came now came' now' : ℕ → ℕ) (value row : ℕ) (items : List (List ℕ × ℕ)) (key : List ℕ) (rows : ℕ) → 1 ≤ rows → AreSome items
    → ((r : ℕ) → r < row + length (keys_of_rows items) → (came' r ≡ came r) × (now' r ≡ now r))
    → came' (row + length (keys_of_rows items)) ≡ value → now' (row + length (keys_of_rows items)) ≡ value
    → frequencies_of came' now' row (items ++ (key, rows) ∷ []) ≡ frequencies_of came now row items ++ replicate rows value
frequencies_pushed came now came' now' value row [] key rows some all same first last =
    let here : row ≡ row + 0 = omega arith in
    (λ i. replicate (rows - 1) ((ap came' here ∙ first) i) ++ (ap now' here ∙ last) i ∷ [])
    ∙ (one_more (rows - 1) value ∙ ap (λ n. replicate n value) (before_last rows some))
frequencies_pushed came now came' now' value row (item ∷ items) key rows some all same first last =
    let long = rows_of_item item items in
    let on : row + length (keys_of_rows (item ∷ items)) ≡ row + item.1 + length (keys_of_rows items) = omega (arith, long) in
    let here = same row (omega (arith, long, all.0)) in
    let rest = frequencies_pushed came now came' now' value (row + item.1) items key rows some all.1
    (λ r low. same r (omega (arith, low, long))) (ap came' (sym on) ∙ first) (ap now' (sym on) ∙ last) in
    (λ i. replicate (item.1 - 1) (here.0 i) ++ here.1 i ∷ rest i)
    ∙ sym (append_assoc (replicate (item.1 - 1) (came row)) (now row ∷ frequencies_of came now (row + item.1) items) (replicate rows value))

-- it is the last one of its key
pub last_pushed : (key : List ℕ) (row : ℕ) (items : List (List ℕ × ℕ)) (rows : ℕ) → last_row_of key row (items ++ (key, rows) ∷ []) ≡ Some (row + length (keys_of_rows items))
last_pushed key row [] rows = ap (λ here. cond here (Some row) None) (at_self key) ∙ ap Some (let none : row ≡ row + 0 = omega arith in none)
last_pushed key row (item ∷ items) rows =
    let long = rows_of_item item items in
    ap (λ last. option_or last (cond (is_at (key_cmp key) item.0) (Some row) None)) (last_pushed key (row + item.1) items rows)
    ∙ ap Some (let same : row + item.1 + length (keys_of_rows items) ≡ row + length (keys_of_rows (item ∷ items)) = omega (arith, long) in same)

-- and other keys have the last one that they had
pub last_still : (key other : List ℕ) (row : ℕ) (items : List (List ℕ × ℕ)) (rows : ℕ) → key ≢ other → last_row_of key row (items ++ (other, rows) ∷ []) ≡ last_row_of key row items
last_still key other row [] rows ne = ap (λ here. cond here (Some row) None) (at_other key other ne)
last_still key other row (item ∷ items) rows ne = ap (λ last. option_or last (cond (is_at (key_cmp key) item.0) (Some row) None)) (last_still key other (row + item.1) items rows ne)

-- ---- the last item of a key

-- where a later one has the key, and where none has
pub last_is : (key : List ℕ) (row at : ℕ) (item : List ℕ × ℕ) (items : List (List ℕ × ℕ)) → last_row_of key row (item ∷ items) ≡ Some at
    → (last_row_of key (row + item.1) items ≡ Some at) ⊎ ((last_row_of key (row + item.1) items ≡ None) × (is_at (key_cmp key) item.0 ≡ true) × (row ≡ at))
last_is key row at item items is = by (last_row_of key (row + item.1) items) (is_at (key_cmp key) item.0) is
  where
    by : (last : Option ℕ) (here : Bool) → option_or last (cond here (Some row) None) ≡ Some at → (last ≡ Some at) ⊎ ((last ≡ None) × (here ≡ true) × (row ≡ at))
    by (Some other) here is = inl is
    by None true is = inr (refl, refl, same_Some row at is)
    by None false is = absurd (none-some at is)

pub last_low : (key : List ℕ) (row at : ℕ) (items : List (List ℕ × ℕ)) → last_row_of key row items ≡ Some at → row ≤ at
last_low key row at [] is = absurd (none-some at is)
last_low key row at (item ∷ items) is = ⊎_elim
    (λ later. let low = last_low key (row + item.1) at items later in omega (arith, low))
    (λ here. omega (arith, here.2))
    (last_is key row at item items is)

pub among_itself : (key : List ℕ) (rows : ℕ) (other : List ℕ) (keys : List (List ℕ)) → 1 ≤ rows → is_at (key_cmp key) other ≡ true → is_among (replicate rows other ++ keys) key ≡ true
among_itself key zero other keys some is = absurd (omega (arith, some))
among_itself key (suc rows) other keys some is = ap (λ b. b || list_any (is_at (key_cmp key)) (replicate rows other ++ keys)) is

either_true : (b : Bool) → (b || true) ≡ true
either_true true = refl
either_true false = refl

among_later : (key : List ℕ) (rows : ℕ) (other : List ℕ) (keys : List (List ℕ)) → is_among keys key ≡ true → is_among (replicate rows other ++ keys) key ≡ true
among_later key rows other keys is =
    list_any-append (is_at (key_cmp key)) (replicate rows other) keys
    ∙ (ap (λ b. list_any (is_at (key_cmp key)) (replicate rows other) || b) is ∙ either_true (list_any (is_at (key_cmp key)) (replicate rows other)))

not_among : (key : List ℕ) (rows : ℕ) (other : List ℕ) (keys : List (List ℕ)) → is_at (key_cmp key) other ≡ false → is_among keys key ≡ false → is_among (replicate rows other ++ keys) key ≡ false
not_among key zero other keys apart none = none
not_among key (suc rows) other keys apart none = ap (λ b. b || list_any (is_at (key_cmp key)) (replicate rows other ++ keys)) apart ∙ not_among key rows other keys apart none

-- a key that has a last item is among the keys, and another isn't
pub last_among : (key : List ℕ) (row at : ℕ) (items : List (List ℕ × ℕ)) → AreSome items → last_row_of key row items ≡ Some at → is_among (keys_of_rows items) key ≡ true
last_among key row at [] all is = absurd (none-some at is)
last_among key row at (item ∷ items) all is = ⊎_elim
    (λ later. among_later key item.1 item.0 (keys_of_rows items) (last_among key (row + item.1) at items all.1 later))
    (λ here. among_itself key item.1 item.0 (keys_of_rows items) all.0 here.1)
    (last_is key row at item items is)

pub last_none : (key : List ℕ) (row : ℕ) (items : List (List ℕ × ℕ)) → last_row_of key row items ≡ None → is_among (keys_of_rows items) key ≡ false
last_none key row [] none = refl
last_none key row (item ∷ items) none = by (last_row_of key (row + item.1) items) (is_at (key_cmp key) item.0) refl none (last_none key (row + item.1) items)
  where
    by : (last : Option ℕ) (here : Bool) → is_at (key_cmp key) item.0 ≡ here → option_or last (cond here (Some row) None) ≡ None
        → (last ≡ None → is_among (keys_of_rows items) key ≡ false) → is_among (keys_of_rows (item ∷ items)) key ≡ false
    by (Some other) here same none rest = absurd (none-some other (sym none))
    by None true same none rest = absurd (none-some row (sym none))
    by None false same none rest = not_among key item.1 item.0 (keys_of_rows items) same (rest refl)

-- so a key that isn't among them has none
pub none_last : (key : List ℕ) (row : ℕ) (items : List (List ℕ × ℕ)) → AreSome items → is_among (keys_of_rows items) key ≡ false → last_row_of key row items ≡ None
none_last key row items all none = by (last_row_of key row items) refl
  where
    by : (last : Option ℕ) → last_row_of key row items ≡ last → last ≡ None
    by None is = refl
    by (Some at) is = absurd (false≢true (sym none ∙ last_among key row at items all is))

-- ---- a hit

passed_over : (here later : Bool) (up same : List ℕ) → later ≡ true → cond (here && not later) up same ≡ same
passed_over true later up same is = ap (λ t. cond (not t) up same) is
passed_over false later up same is = refl

-- rows before one of the key stay as they are
raised_behind : (key other : List ℕ) (rows came now : ℕ) (keys : List (List ℕ)) (rest : List ℕ) → is_among keys key ≡ true
    → raised key (replicate (suc rows) other ++ keys) (replicate rows came ++ now ∷ rest) ≡ replicate rows came ++ now ∷ raised key keys rest
raised_behind key other zero came now keys rest among =
    passed_over (is_at (key_cmp key) other) (is_among keys key) (higher now ∷ rest) (now ∷ raised key keys rest) among
raised_behind key other (suc rows) came now keys rest among =
    let more = replicate rows came ++ now ∷ rest in
    passed_over (is_at (key_cmp key) other) (is_among (replicate (suc rows) other ++ keys) key) (higher came ∷ more)
    (came ∷ raised key (replicate (suc rows) other ++ keys) more) (among_later key (suc rows) other keys among)
    ∙ ap (λ xs. came ∷ xs) (raised_behind key other rows came now keys rest among)

-- and of the rows of the last item the last one is raised
raised_here : (key other : List ℕ) (rows came now : ℕ) (keys : List (List ℕ)) (rest : List ℕ) → is_at (key_cmp key) other ≡ true → is_among keys key ≡ false
    → raised key (replicate (suc rows) other ++ keys) (replicate rows came ++ now ∷ rest) ≡ replicate rows came ++ higher now ∷ rest
raised_here key other zero came now keys rest here none = λ i. cond (here i && not (none i)) (higher now ∷ rest) (now ∷ raised key keys rest)
raised_here key other (suc rows) came now keys rest here none =
    let more = replicate rows came ++ now ∷ rest in
    passed_over (is_at (key_cmp key) other) (is_among (replicate (suc rows) other ++ keys) key) (higher came ∷ more)
    (came ∷ raised key (replicate (suc rows) other ++ keys) more) (among_itself key (suc rows) other keys (omega arith) here)
    ∙ ap (λ xs. came ∷ xs) (raised_here key other rows came now keys rest here none)

-- items behind a row whose frequency changed
above_alike : (came now now' : ℕ → ℕ) (row : ℕ) (items : List (List ℕ × ℕ)) → ((r : ℕ) → row ≤ r → now' r ≡ now r) → frequencies_of came now' row items ≡ frequencies_of came now row items
above_alike came now now' row [] same = refl
above_alike came now now' row (item ∷ items) same =
    λ i. replicate (item.1 - 1) (came row) ++ same row (omega arith) i ∷ above_alike came now now' (row + item.1) items (λ r high. same r (omega (arith, high))) i

-- the last item of a key has its frequency raised
pub raised_last : (key : List ℕ) (came now now' : ℕ → ℕ) (items : List (List ℕ × ℕ)) (at row : ℕ) → AreSome items → last_row_of key row items ≡ Some at
    → now' at ≡ higher (now at) → ((other : ℕ) → other ≢ at → now' other ≡ now other)
    → frequencies_of came now' row items ≡ raised key (keys_of_rows items) (frequencies_of came now row items)
raised_last key came now now' [] at row all is up same = absurd (none-some at is)
raised_last key came now now' (item ∷ items) at row all is up same =
    let rows = before_last item.1 all.0 in
    subst (λ n. frequencies_of came now' row (item ∷ items) ≡ raised key (replicate n item.0 ++ keys_of_rows items) (frequencies_of came now row (item ∷ items))) rows (⊎_elim
    (λ later.
    let low = last_low key (row + item.1) at items later in
    let rest = raised_last key came now now' items at (row + item.1) all.1 later up same in
    (λ i. replicate (item.1 - 1) (came row) ++ same row (λ e. omega (arith, e, low, all.0)) i ∷ rest i)
    ∙ sym (raised_behind key item.0 (item.1 - 1) (came row) (now row) (keys_of_rows items) (frequencies_of came now (row + item.1) items) (last_among key (row + item.1) at items all.1 later)))
    (λ here.
    let first : now' row ≡ higher (now row) = subst (λ n. now' n ≡ higher (now n)) (sym here.2) up in
    let rest = above_alike came now now' (row + item.1) items (λ r high. same r (λ e. let place = here.2 in omega (arith, e, high, place, all.0))) in
    (λ i. replicate (item.1 - 1) (came row) ++ first i ∷ rest i)
    ∙ sym (raised_here key item.0 (item.1 - 1) (came row) (now row) (keys_of_rows items) (frequencies_of came now (row + item.1) items) here.1 (last_none key (row + item.1) items here.0)))
    (last_is key row at item items is))
