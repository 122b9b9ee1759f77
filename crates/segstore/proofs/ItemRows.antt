-- The rows of an item that begins in a row: its words by the rows that have them, and rows behind those of the table.
use Rattle.std.proofs.Common.{◌≡◌, ◌≢◌, ℕ, ◌+◌, ◌-◌, ◌*◌, ◌<◌, ◌≤◌, Bool, true, false, cond, eqb, nat_le, nat_lt, ◌&&◌, List, get_or, length, slice_index, take, [], ◌∷◌, None, MatchBool, refl, sym, ap, ◌∙◌, subst, ⊎_elim, arith}
use Rattle.std.proofs.lemmas.Bool.{and_from, and_parts, cases_Bool, cases_eq, cases_lt, cond-false, cond-true, eq-eqb, eqb-true, false_from_ne_true, false≢true, le-leb, le-ltb, leb-true, lt-ltb, ltb-true, ne_eqb}
use Rattle.std.proofs.lemmas.Grind.{same_number_lists}
use Rattle.std.proofs.lemmas.List.{drop_all, get_or-drop}
use Rattle.std.specs.Int.{div_ceil}
use Rattle.segword.specs.Row.{value_width, word_of}
use Rattle.segword.specs.RowLayout.{value_length}
use Rattle.segword.specs.Words.{covers, IsKey, IsValue, item_width, key_width, place_behind, row_behind, row_of, row_width, Shape, span, span_of, span_of_header, value_place}
use Rattle.segword.specs.Words as word
use Rattle.segword.proofs.RowLemmas.{get_or-words_from, key_length-header, length-row_of, value_in_row, value_length-header, widths}
use Rattle.segcore.specs.declared.event.Event.TheVariants.{Filled, Linked, Relinked, Refilled}
use Rattle.segcore.specs.Row.{writes_row}
use Rattle.segcore.specs.Words.{AreOwnRows, Event, Holds, IsLawful, IsOwnRow, Row, row_after, row_alone, span_in}
use Rattle.segcore.specs.Lawful.{Suits}
use Rattle.segcore.proofs.Quiet.{linked_own, moved_own, of_row}
use Rattle.segcore.proofs.Spans.{covers-behind, covers-first, first_words, header_span, own_row, span_some}

-- what is so in each of two cases
in_either : (b : Bool) {A B : Type 0} → A → B → MatchBool b A B
in_either true f g = f
in_either false f g = g

pub in_same : (b : Bool) {A B C D : Type 0} → (A → C) → (B → D) → MatchBool b A B → MatchBool b C D
in_same true f g is = f is
in_same false f g is = g is

-- ---- rows and places

-- the places of a row are the first ones of an item that begins there
pub row_of_first : (first place : ℕ) → place < row_width → row_behind first place ≡ first
row_of_first first place lt = omega (arith, lt)

pub place_of_first : (place : ℕ) → place < row_width → place_behind place ≡ place
place_of_first place lt = omega (arith, lt)

-- each place of an item is one in its row
pub place_inside : (place header : ℕ) → place < row_width * span_of_header header → place_behind place < row_width
place_inside place header lt = omega (arith, lt)

-- two places of an item are in two rows, or have two places in one
pub apart_places : (first place other : ℕ) → other ≢ place → row_behind first other ≡ row_behind first place → place_behind other ≢ place_behind place
apart_places first place other apart same_row = λ same. apart (omega (arith, same_row, same))

-- which rows are so many from a first one on
one_row : (first rows row : ℕ) → rows ≡ 1 → covers first rows row ≡ eqb first row
one_row first rows row one = cond-true (eqb rows 1) (eqb first row) (nat_le first row && nat_lt row (first + rows)) (eq-eqb rows 1 one)

more_rows : (first rows row : ℕ) → rows ≢ 1 → covers first rows row ≡ (nat_le first row && nat_lt row (first + rows))
more_rows first rows row more = cond-false (eqb rows 1) (eqb first row) (nat_le first row && nat_lt row (first + rows)) (ne_eqb rows 1 more)

pub covers-low : (first rows row : ℕ) → covers first rows row ≡ true → first ≤ row
covers-low first rows row c = ⊎_elim
    (λ one. let same = eqb-true first row (sym (one_row first rows row one) ∙ c) in omega arith)
    (λ more. leb-true first row (and_parts (nat_le first row) (nat_lt row (first + rows)) (sym (more_rows first rows row more) ∙ c)).0)
    (cases_eq rows 1)

pub covers-high : (first rows row : ℕ) → covers first rows row ≡ true → row < first + rows
covers-high first rows row c = ⊎_elim
    (λ one. let same = eqb-true first row (sym (one_row first rows row one) ∙ c) in omega arith)
    (λ more. ltb-true row (first + rows) (and_parts (nat_le first row) (nat_lt row (first + rows)) (sym (more_rows first rows row more) ∙ c)).1)
    (cases_eq rows 1)

-- a row that isn't, and isn't before them, is behind them
pub not_covered : (first rows row : ℕ) → covers first rows row ≡ false → first ≤ row → first + rows ≤ row
not_covered first rows row c low = ⊎_elim
    (λ lt. absurd (false≢true (sym c ∙ ⊎_elim
    (λ one. one_row first rows row one ∙ eq-eqb first row (omega arith))
    (λ more. more_rows first rows row more ∙ and_from (nat_le first row) (nat_lt row (first + rows)) (le-leb first row low) (lt-ltb row (first + rows) lt))
    (cases_eq rows 1))))
    (λ le. le)
    (cases_lt row (first + rows))

pub covers-more : (first few rows row : ℕ) → few ≤ rows → covers first few row ≡ true → covers first rows row ≡ true
covers-more first few rows row le c = let low = covers-low first few row c in let high = covers-high first few row c in ⊎_elim
    (λ here. here)
    (λ off. let past = not_covered first rows row off low in absurd (omega (arith, high, past, le)))
    (cases_Bool (covers first rows row))

-- ---- words of an item

-- they are those of its rows
pub item_word : (h : List Event) (s r place : ℕ) → place < row_width * span_in h s r
    → (row_after h s r).words place ≡ (row_alone h s (row_behind r place)).words (place_behind place)
item_word h s r place lt =
    let header = (row_alone h s r).words 0 in let word = (row_alone h s (row_behind r place)).words (place_behind place) in
    let inside : place < row_width * span_of_header header = subst (λ w. place < row_width * span_of_header w) (first_words h s r 0 (omega arith)) lt in
    cond-true (nat_lt place (row_width * span_of_header header)) word 0 (lt-ltb place (row_width * span_of_header header) inside)

-- and 0 behind them
pub past_item : (h : List Event) (s r place : ℕ) → row_width * span_in h s r ≤ place → (row_after h s r).words place ≡ 0
past_item h s r place le =
    let header = (row_alone h s r).words 0 in let word = (row_alone h s (row_behind r place)).words (place_behind place) in
    let past : row_width * span_of_header header ≤ place = subst (λ w. row_width * span_of_header w ≤ place) (first_words h s r 0 (omega arith)) le in
    cond-false (nat_lt place (row_width * span_of_header header)) word 0 (le-ltb place (row_width * span_of_header header) past)

-- the words of a pair behind its rows are 0
row_past : (key value : List ℕ) (place : ℕ) → row_width * span_of key value ≤ place → place < item_width → slice_index (row_of key value) place ≡ 0
row_past key value place past lt =
    let n = key_width (length key) in let m = value_width (length key) in let k = place - (1 + n) in
    let all = widths (length key) in
    let at : place ≡ 1 + n + k = omega (arith, past, lt) in
    ap (λ (i : ℕ). slice_index (row_of key value) i) at
    ∙ sym (get_or-drop (1 + n) (row_of key value) k 0) ∙ ap (λ (l : List ℕ). get_or l k 0) (value_in_row key value)
    ∙ get_or-words_from m value 0 k (omega (arith, at, lt, all))
    ∙ ap (λ (l : List ℕ). word_of (take 8 l)) (drop_all (0 + 8 * k) value (omega (arith, past, at)))

-- all words of an item that holds a pair are those of the pair
pub item_is_pair : (h : List Event) (s r : ℕ) (key value found : List ℕ) → IsKey key → IsValue value → Holds (row_after h s r) key value
    → length found ≡ item_width → ((place : ℕ) → place < item_width → slice_index found place ≡ (row_after h s r).words place) → row_of key value ≡ found
item_is_pair h s r key value found is_key is_value holds long each =
    let rows = header_span (row_after h s r) key value is_key is_value holds in
    same_number_lists (row_of key value) found (length-row_of key value ∙ sym long) (λ place less.
    let lt : place < item_width = omega (arith, less, length-row_of key value) in ⊎_elim
    (λ inside. sym (each place lt ∙ holds place inside))
    (λ past. row_past key value place past lt ∙ sym (each place lt ∙ past_item h s r place (subst (λ n. row_width * n ≤ place) (sym rows) past)))
    (cases_lt place (row_width * span_of key value)))

-- rows that have the words of a pair hold it
pub words_hold : (h : List Event) (s r : ℕ) (key value : List ℕ) (words : List ℕ) → IsKey key → IsValue value → words ≡ row_of key value
    → ((place : ℕ) → place < row_width * span_of key value → (row_alone h s (row_behind r place)).words (place_behind place) ≡ slice_index words place)
    → Holds (row_after h s r) key value
words_hold h s r key value words is_key is_value are each place lt =
    let some = span_some (length key) (length value) in
    let first : (row_after h s r).words 0 ≡ length value * 256 + length key =
    first_words h s r 0 (omega arith)
    ∙ (λ t. (row_alone h s (sym (row_of_first r 0 (omega arith)) t)).words (sym (place_of_first 0 (omega arith)) t))
    ∙ each 0 (omega (arith, some)) ∙ ap (λ ws. slice_index ws 0) are in
    let rows : span_in h s r ≡ span_of key value = ap span_of_header first
    ∙ (λ t. span (key_length-header key value is_key t) (value_length-header key value is_key is_value t)) in
    item_word h s r place (subst (λ n. place < row_width * n) (sym rows) lt) ∙ each place lt ∙ ap (λ ws. slice_index ws place) are

-- ---- which places an item has

pub head_inside : (header : ℕ) → value_place header ≤ row_width * span_of_header header
head_inside header = omega arith

pub value_ends : (header count : ℕ) → count ≤ word.value_width → count ≤ div_ceil (value_length header) 8 → value_place header + count ≤ row_width * span_of_header header
value_ends header count few most = omega (arith, few, most)

-- a word of an item, by how many rows behind the first one it stands
pub in_row : (first behind word k header : ℕ) → word + k < row_width → row_width * behind + word + k < row_width * span_of_header header
    → (row_behind first (row_width * behind + word + k) ≡ first + behind) × (place_behind (row_width * behind + word + k) ≡ word + k)
in_row first behind word k header less inside = (omega (arith, less, inside), omega (arith, less, inside))

-- a place before the end of the longest item is one in its row
pub place_fits : (place : ℕ) → place < item_width → place_behind place < row_width
place_fits place lt = omega (arith, lt)

pub span_fits : (key value : List ℕ) → IsKey key → IsValue value → row_width * span_of key value ≤ item_width
span_fits key value is_key is_value = omega (arith, is_key.fits, is_value.fits)

-- ---- rows that are a pass's own

pub own_place : (z : Shape) (h : List Event) (p s r rows place : ℕ) → AreOwnRows z h p s r rows → place < row_width * rows → IsOwnRow z h p s (row_behind r place)
own_place z h p s r rows place own lt = own_row z h p s r rows (row_behind r place) own (covers-behind r rows place lt)

-- and so are fewer of them
pub own_fewer : (z : Shape) (h : List Event) (p s r few rows : ℕ) → 1 ≤ few → few ≤ rows → AreOwnRows z h p s r rows → AreOwnRows z h p s r few
own_fewer z h p s r few rows some le own = in_either (eqb few 1)
    (own_row z h p s r rows r own (covers-more r few rows r le (covers-first r few some)))
    (λ i c. own_row z h p s r rows i own (covers-more r few rows i le c))

-- ---- rows behind those of the table

at_inside : (z : Shape) (h : List Event) (e : Event) (s r : ℕ) → Suits z h e → ((p t d : ℕ) → e ≢ Refilled p t d) → of_row h e s r ≡ true → r < z.rows
at_inside z h (Filled p t i j w) s r u other is = let q = and_parts (eqb t s) (eqb i r) is in subst (λ x. x < z.rows) (eqb-true i r q.1) u.0.1
at_inside z h (Linked p q t i n) s r u other is =
    (linked_own z h p q t i n r u (and_parts (eqb t s) (covers i (span_of_header ((row_alone h t i).words 0)) r) is).1).1
at_inside z h (Relinked p k a f t i n) s r u other is =
    (moved_own z h p k a f t i n r u (and_parts (eqb t s) (covers i (span_of_header ((row_alone h t i).words 0)) r) is).1).1
at_inside z h (Refilled p t d) s r u other is = absurd (other p t d refl)
at_inside z h e s r u other is = absurd (false≢true is)

abbrev blank : Row
blank = record { linked = None; words = λ place. 0 }

misses : (z : Shape) (e : Event) (h : List Event) (s r : ℕ) → Suits z h e → ((p t d : ℕ) → e ≢ Refilled p t d) → z.rows ≤ r → row_alone (e ∷ h) s r ≡ row_alone h s r
misses z e h s r u other past = cond-false (of_row h e s r) (writes_row e (row_alone h s r)) (row_alone h s r)
    (false_from_ne_true (of_row h e s r) (λ is. let lt = at_inside z h e s r u other is in omega (arith, lt, past)))

unlinked : (b : Bool) (u : Row) → u ≡ blank → cond b (record u { linked = None }) u ≡ blank
unlinked true u is = λ t. record (is t) { linked = None }
unlinked false u is = is

-- nothing is ever stored there
pub outside : (z : Shape) (h : List Event) (s r : ℕ) → IsLawful z h → z.rows ≤ r → row_alone h s r ≡ blank
outside z [] s r l past = refl
outside z (Refilled p t d ∷ h) s r l past = unlinked (eqb t s) (row_alone h s r) (outside z h s r l.0 past)
outside z (Filled p t i j w ∷ h) s r l past = misses z (Filled p t i j w) h s r l.1.suits (λ p' t' d' same. cc) past ∙ outside z h s r l.0 past
outside z (Linked p q t i n ∷ h) s r l past = misses z (Linked p q t i n) h s r l.1.suits (λ p' t' d' same. cc) past ∙ outside z h s r l.0 past
outside z (Relinked p k a f t i n ∷ h) s r l past = misses z (Relinked p k a f t i n) h s r l.1.suits (λ p' t' d' same. cc) past ∙ outside z h s r l.0 past
outside z (e ∷ h) s r l past = outside z h s r l.0 past
