-- The value that a row's words say.
use Rattle.std.proofs.Common.{◌≡◌, ℕ, zero, suc, ◌+◌, ◌*◌, ◌/◌, ◌%◌, ◌^◌, ◌<◌, List, [], ◌∷◌, length, get_or, refl, sym, ap, ◌∙◌, subst, arith}
use Rattle.segword.specs.RowLayout.{value_length}
use Rattle.segword.specs.Words.{IsKey, IsValue, Item, item_word, Shape, value_place}
use Rattle.segcore.specs.Words.{Event, Holds, Row, row_after}
use Rattle.segbase.specs.Words.{Place}
use Rattle.segstore.specs.Words.{FoundItem, FoundKey}
use Rattle.segstore.proofs.Copying.{are_value}
use Rattle.segstore.proofs.Seconds.{found_holds}

byte_at : (ℕ → ℕ) → ℕ → ℕ
byte_at words at = words (at / 8) / 2 ^ (8 * (at % 8)) % 256

-- so many bytes of words, from one on
bytes_from : (ℕ → ℕ) → ℕ → ℕ → List ℕ
bytes_from words at zero = []
bytes_from words at (suc count) = byte_at words at ∷ bytes_from words (at + 1) count

pub value_in : Row → List ℕ
value_in row = bytes_from (λ k. row.words (value_place (row.words 0) + k)) 0 (value_length (row.words 0))

length_bytes : (words : ℕ → ℕ) (at count : ℕ) → length (bytes_from words at count) ≡ count
unfolding bytes_from
length_bytes words at zero = refl
length_bytes words at (suc count) = ap suc (length_bytes words (at + 1) count)

each_byte : (words : ℕ → ℕ) (at count i : ℕ) → i < count → get_or (bytes_from words at count) i 0 ≡ byte_at words (at + i)
unfolding bytes_from
each_byte words at zero i lt = absurd (omega (arith, lt))
each_byte words at (suc count) zero lt = ap (byte_at words) (omega arith)
each_byte words at (suc count) (suc i) lt = each_byte words (at + 1) count i (omega (arith, lt)) ∙ ap (byte_at words) (omega arith)

-- a row that holds a pair says its value
value_of_pair : (row : Row) (key value : List ℕ) → IsKey key → IsValue value → Holds row key value → value_in row ≡ value
unfolding value_in byte_at
value_of_pair row key value is_key is_value holds =
    let words : ℕ → ℕ = λ k. row.words (value_place (row.words 0) + k) in let count = value_length (row.words 0) in
    are_value row key value (row.words 0) is_key is_value holds refl (bytes_from words 0 count) (length_bytes words 0 count)
    (λ k i few lt.
    let inside : 8 * k + i < count = omega (arith, lt, length_bytes words 0 count) in
    let place : (0 + (8 * k + i)) / 8 ≡ k = omega (arith, few) in let rest : (0 + (8 * k + i)) % 8 ≡ i = omega (arith, few) in
    each_byte words 0 count (8 * k + i) inside ∙ (λ j. words (place j) / 2 ^ (8 * rest j) % 256))

-- so the item of a key that was found is found with the value that its row says
pub found_in : (z : Shape) (place : Place) (item : Item) (header : ℕ) (key : List ℕ) (h g : List Event) → FoundKey z place item header key h g
    → FoundItem z place (item_word item) key (value_in (row_after g item.seg item.row)) h g
found_in z place item header key h g x = let valid = x.found.saw.was.valid in
    subst (λ value. FoundItem z place (item_word item) key value h g)
    (sym (value_of_pair (row_after g item.seg item.row) key x.value valid.0 valid.1 (found_holds place item key x.value z h g x.found))) x.found
