-- How many rows an item takes, and what the rows of an item have to do with the first of them.
use Rattle.std.proofs.Common.{◌≡◌, ℕ, ◌+◌, ◌*◌, ◌<◌, ◌≤◌, Bool, true, false, cond, eqb, nat_le, nat_lt, ◌&&◌, List, length, MatchBool, sym, refl, ap, ◌∙◌, subst, ⊎_elim, arith}
use Rattle.std.proofs.lemmas.Bool.{cases_Bool, cond-true, cond-false, eqb-true, eq-eqb, and_from, le-leb, lt-ltb, ltb-true}
use Rattle.segword.specs.RowLayout.{key_length, value_length}
use Rattle.segword.specs.Words.{covers, IsKey, IsValue, place_behind, row_behind, row_width, Shape}
use Rattle.segword.specs.Words.{span, span_of, span_of_header}
use Rattle.segword.proofs.RowLemmas.{key_length-header, value_length-header}
use Rattle.segcore.specs.Words.{Event}
use Rattle.segcore.specs.Row.{Row, Holds, row_after, row_alone, span_in, words_on}
use Rattle.segcore.specs.Lawful.{AreOwnRows, IsOwnRow}
use Rattle.segcore.specs.Kind.{IsRowOf}

-- ---- how many rows

pub span_some : (key value : ℕ) → 1 ≤ span key value
span_some key value = omega arith

pub header_some : (header : ℕ) → 1 ≤ span_of_header header
header_some header = span_some (key_length header) (value_length header)

-- ---- so many rows from a first one on

pub covers-first : (first rows : ℕ) → 1 ≤ rows → covers first rows first ≡ true
covers-first first rows some = ⊎_elim
    (λ t. cond-true (eqb rows 1) (eqb first first) (nat_le first first && nat_lt first (first + rows)) t ∙ eq-eqb first first refl)
    (λ f. cond-false (eqb rows 1) (eqb first first) (nat_le first first && nat_lt first (first + rows)) f
    ∙ and_from (nat_le first first) (nat_lt first (first + rows)) (le-leb first first (omega arith)) (lt-ltb first (first + rows) (omega arith)))
    (cases_Bool (eqb rows 1))

pub covers-behind : (first rows place : ℕ) → place < row_width * rows → covers first rows (row_behind first place) ≡ true
covers-behind first rows place lt = let row = row_behind first place in ⊎_elim
    (λ t. let one = eqb-true rows 1 t in let here : first ≡ row = omega (arith, one, lt) in
    cond-true (eqb rows 1) (eqb first row) (nat_le first row && nat_lt row (first + rows)) t ∙ eq-eqb first row here)
    (λ f. let low : first ≤ row = omega arith in let high : row < first + rows = omega (arith, lt) in
    cond-false (eqb rows 1) (eqb first row) (nat_le first row && nat_lt row (first + rows)) f
    ∙ and_from (nat_le first row) (nat_lt row (first + rows)) (le-leb first row low) (lt-ltb row (first + rows) high))
    (cases_Bool (eqb rows 1))

-- rows that are a pass's own are each its own
pub own_row : (z : Shape) (h : List Event) (p s r n i : ℕ) → AreOwnRows z h p s r n → covers r n i ≡ true → IsOwnRow z h p s i
own_row z h p s r n i own c =
    let One = IsOwnRow z h p s r in let All = (row : ℕ) → covers r n row ≡ true → IsOwnRow z h p s row in ⊎_elim
    (λ t. subst (IsOwnRow z h p s) (eqb-true r i (sym (cond-true (eqb n 1) (eqb r i) (nat_le r i && nat_lt i (r + n)) t) ∙ c))
    (subst (λ b. MatchBool b One All) t own))
    (λ f. let all : All = subst (λ b. MatchBool b One All) f own in all i c)
    (cases_Bool (eqb n 1))

pub own_first : (z : Shape) (h : List Event) (p s r n : ℕ) → 1 ≤ n → AreOwnRows z h p s r n → IsOwnRow z h p s r
own_first z h p s r n some own = own_row z h p s r n r own (covers-first r n some)

own_by : (b : Bool) {A B C D : Type 0} → (A → C) → (B → D) → MatchBool b A B → MatchBool b C D
own_by true f g own = f own
own_by false f g own = g own

-- and they stay so where the same rows are linked
pub own_rows_same : (z : Shape) (h g : List Event) (p s r n : ℕ) → ((i : ℕ) → (row_after g s i).linked ≡ (row_after h s i).linked)
    → AreOwnRows z h p s r n → AreOwnRows z g p s r n
own_rows_same z h g p s r n same own =
    own_by (eqb n 1) (λ o. (o.0, o.1, o.2, same r ∙ o.3)) (λ o i c. let x = o i c in (x.0, x.1, x.2, same i ∙ x.3)) own

-- ---- the words of the item that begins in a row

words_on-first : (rows : ℕ → Row) (r j : ℕ) → j < row_width → words_on rows r j ≡ (rows r).words j
words_on-first rows r j lt =
    let n = span_of_header ((rows r).words 0) in let some = header_some ((rows r).words 0) in
    let inside : j < row_width * n = omega (arith, lt, some) in
    let row : row_behind r j ≡ r = omega (arith, lt) in let place : place_behind j ≡ j = omega (arith, lt) in
    cond-true (nat_lt j (row_width * n)) ((rows (row_behind r j)).words (place_behind j)) 0 (lt-ltb j (row_width * n) inside)
    ∙ (λ t. (rows (row t)).words (place t))

-- the words of a row are the first ones of an item that begins there
pub first_words : (h : List Event) (s r j : ℕ) → j < row_width → (row_after h s r).words j ≡ (row_alone h s r).words j
first_words h s r j lt = words_on-first (row_alone h s) r j lt

by_test : (b : Bool) (x y : ℕ) → (b ≡ true → x ≡ y) → cond b x 0 ≡ cond b y 0
by_test true x y e = e refl
by_test false x y e = refl

same_on : (rows others : ℕ → Row) (r : ℕ) → ((i : ℕ) → covers r (span_of_header ((rows r).words 0)) i ≡ true → others i ≡ rows i)
    → (place : ℕ) → words_on others r place ≡ words_on rows r place
same_on rows others r same place =
    let n = span_of_header ((rows r).words 0) in let at = row_behind r place in let within = place_behind place in
    let first : others r ≡ rows r = same r (covers-first r n (header_some ((rows r).words 0))) in
    ap (λ (u : Row). cond (nat_lt place (row_width * span_of_header (u.words 0))) ((others at).words within) 0) first
    ∙ by_test (nat_lt place (row_width * n)) ((others at).words within) ((rows at).words within)
    (λ t. ap (λ (u : Row). u.words within) (same at (covers-behind r n place (ltb-true place (row_width * n) t))))

-- if the rows of an item are as before, so is the item
pub same_after : (h g : List Event) (s r : ℕ) → ((i : ℕ) → covers r (span_of_header ((row_alone h s r).words 0)) i ≡ true → row_alone g s i ≡ row_alone h s i)
    → row_after g s r ≡ row_after h s r
same_after h g s r same =
    let header = (row_alone h s r).words 0 in
    let first : row_alone g s r ≡ row_alone h s r = same r (covers-first r (span_of_header header) (header_some header)) in
    let words = same_on (row_alone h s) (row_alone g s) r same in
    λ t. record (first t) { words = λ place. words place t }

-- the same where the rows are told by the item's first word
pub item_after : (h g : List Event) (s r : ℕ) → ((i : ℕ) → covers r (span_in h s r) i ≡ true → row_alone g s i ≡ row_alone h s i) → row_after g s r ≡ row_after h s r
item_after h g s r same = same_after h g s r (λ i c. same i
    (subst (λ w. covers r (span_of_header w) i ≡ true) (sym (first_words h s r 0 (omega arith))) c))

-- and its words are, if all words of rows are
pub same_words_after : (h g : List Event) (s r : ℕ) → ((i j : ℕ) → (row_alone g s i).words j ≡ (row_alone h s i).words j)
    → (j : ℕ) → (row_after g s r).words j ≡ (row_after h s r).words j
same_words_after h g s r same j =
    λ t. cond (nat_lt j (row_width * span_of_header (same r 0 t))) (same (row_behind r j) (place_behind j) t) 0

-- ---- the rows of an item that holds a pair

pub header_span : (u : Row) (k v : List ℕ) → IsKey k → IsValue v → Holds u k v → span_of_header (u.words 0) ≡ span_of k v
header_span u k v is_key is_value holds =
    let some = span_some (length k) (length v) in
    let header : u.words 0 ≡ length v * 256 + length k = holds 0 (omega (arith, some)) in
    ap span_of_header header ∙ (λ t. span (key_length-header k v is_key t) (value_length-header k v is_key is_value t))

-- by the first word of the row alone
pub alone_span : (h : List Event) (s r : ℕ) (k v : List ℕ) → IsKey k → IsValue v → Holds (row_after h s r) k v
    → span_of_header ((row_alone h s r).words 0) ≡ span_of k v
alone_span h s r k v is_key is_value holds =
    ap span_of_header (sym (first_words h s r 0 (omega arith))) ∙ header_span (row_after h s r) k v is_key is_value holds

-- a row of an item is one still where the first row is as before
pub row_still : (g h : List Event) (s first r : ℕ) → row_after g s first ≡ row_after h s first → IsRowOf h s first r → IsRowOf g s first r
row_still g h s first r same is = subst (λ (u : Row). covers first (span_of_header (u.words 0)) r ≡ true) (sym same) is
