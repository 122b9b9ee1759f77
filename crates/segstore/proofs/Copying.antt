-- Bytes that go word by word from a row to a buffer.
use Rattle.std.proofs.Common.{◌≡◌, ℕ, zero, suc, ◌+◌, ◌-◌, ◌*◌, ◌/◌, ◌%◌, ◌^◌, ◌<◌, ◌≤◌, List, ◌++◌, length, get_or, take, refl, sym, ap, ◌∙◌, ⊎_elim, arith}
use Rattle.std.proofs.lemmas.Grind.{same_number_lists}
use Rattle.std.proofs.lemmas.Bool.{cases_lt}
use Rattle.std.proofs.lemmas.List.{get_or_append_left, get_or-append_right, get_or-drop, get_or-take, length-take-le}
use borrow.Rule.Slice.PartMut.{put_mid}
use Rattle.std.proofs.lemmas.Slice.{take-put_mid}
use Rattle.std.specs.Int.{to_le_bytes, w64}
use Rattle.std.specs.List.{slice_index}
use Rattle.segword.specs.Row.{key_width, row_of, value_width, words_from}
use Rattle.segword.specs.RowLayout.{key_length, value_length}
use Rattle.segword.specs.Words.{IsKey, IsValue, row_width, span_of, value_place}
use Rattle.segword.proofs.RowLemmas.{byte_at-split, byte_at-words_from, key_length-header, value_in_row, value_length-header, value_width-room, widths}
use Rattle.segword.proofs.WordLemmas.{AreBytes-from_All}
use Rattle.segcore.specs.Words.{Holds, Row}
use Rattle.segstore.specs.Copying.{AreBytesOf}

-- what stands behind a place once the rest was written over
pub behind : (from count : ℕ) (xs ys zs : List ℕ) (i : ℕ) → ys ≡ take count zs → count ≤ length zs
    → from ≤ length xs → i < count → get_or (put_mid from count xs ys) (from + i) 0 ≡ get_or zs i 0
behind from count xs ys zs i e long inside lt =
    let same : length ys ≡ count = ap length e ∙ length-take-le count zs long in
    let whole = take-put_mid from count xs ys (from + length ys) refl inside in
    sym (get_or-take (from + length ys) (put_mid from count xs ys) (from + i) 0 (omega (arith, same, lt)))
    ∙ ap (λ (l : List ℕ). get_or l (from + i) 0) whole
    ∙ get_or-append_right (take from xs) ys from (from + i) 0 (length-take-le from xs inside) (omega arith)
    ∙ ap (λ (n : ℕ). get_or ys n 0) (omega arith)
    ∙ ap (λ (l : List ℕ). get_or l i 0) e
    ∙ get_or-take count zs i 0 lt

-- the bytes of a word, the lowest first
pub byte_of : (w i : ℕ) → i < 8 → get_or (to_le_bytes w64 w) i 0 ≡ w / 2 ^ (8 * i) % 256
byte_of w zero lt = omega arith
byte_of w (suc zero) lt = omega arith
byte_of w (suc (suc zero)) lt = omega arith
byte_of w (suc (suc (suc zero))) lt = omega arith
byte_of w (suc (suc (suc (suc zero)))) lt = omega arith
byte_of w (suc (suc (suc (suc (suc zero))))) lt = omega arith
byte_of w (suc (suc (suc (suc (suc (suc zero)))))) lt = omega arith
byte_of w (suc (suc (suc (suc (suc (suc (suc zero))))))) lt = omega arith
byte_of w (suc (suc (suc (suc (suc (suc (suc (suc i)))))))) lt = absurd (omega (arith, lt))

-- those of a word that is 0
pub no_byte : (i : ℕ) → i < 8 → 0 / 2 ^ (8 * i) % 256 ≡ 0
no_byte i lt = sym (byte_of 0 i lt) ∙ none i lt
  where
    none : (i : ℕ) → i < 8 → get_or (to_le_bytes w64 0) i 0 ≡ 0
    none zero lt = refl
    none (suc zero) lt = refl
    none (suc (suc zero)) lt = refl
    none (suc (suc (suc zero))) lt = refl
    none (suc (suc (suc (suc zero)))) lt = refl
    none (suc (suc (suc (suc (suc zero))))) lt = refl
    none (suc (suc (suc (suc (suc (suc zero)))))) lt = refl
    none (suc (suc (suc (suc (suc (suc (suc zero))))))) lt = refl
    none (suc (suc (suc (suc (suc (suc (suc (suc i)))))))) lt = absurd (omega (arith, lt))

-- bytes that were loaded over a part of a buffer, behind those that were loaded before
pub part_loaded : (words : ℕ → ℕ) (from start at count : ℕ) (bytes part : List ℕ) → start ≡ 8 * at → length part ≡ count → start + count ≤ length bytes
    → AreBytesOf words from bytes start → AreBytesOf words (from + at) part count → AreBytesOf words from (put_mid start count bytes part) (start + count)
part_loaded words from start at count bytes part is long inside before here k i few lt =
    let n = 8 * k + i in let whole = put_mid start count bytes part in
    let joined : take (start + length part) whole ≡ take start bytes ++ part = take-put_mid start count bytes part (start + length part) refl (omega (arith, inside)) in
    sym (get_or-take (start + length part) whole n 0 (omega (arith, lt, long))) ∙ ap (λ (l : List ℕ). get_or l n 0) joined ∙ ⊎_elim
    (λ low. get_or_append_left (take start bytes) part 0 n (omega (arith, low, length-take-le start bytes (omega (arith, inside)))) ∙ get_or-take start bytes n 0 low ∙ before k i few low)
    (λ past. let j = k - at in let same : 8 * j + i ≡ n - start = omega (arith, past, is, few) in let on : from + at + j ≡ from + k = omega (arith, past, is, few) in
    get_or-append_right (take start bytes) part start n 0 (length-take-le start bytes (omega (arith, inside))) past
    ∙ ap (λ (m : ℕ). get_or part m 0) (sym same)
    ∙ here j i few (omega (arith, same, past, lt))
    ∙ ap (λ (m : ℕ). words m / 2 ^ (8 * i) % 256) on)
    (cases_lt n start)

-- the bytes of a row's value are those of its words from the value's place on
module _ (row : Row) (key value : List ℕ) (header : ℕ) (is_key : IsKey key) (is_value : IsValue value) (holds : Holds row key value) (begins : header ≡ row.words 0) where
  first : slice_index (row_of key value) 0 ≡ header
  first = sym (holds 0 (omega arith)) ∙ sym begins

  pub value_long : value_length header ≡ length value
  value_long = ap value_length (sym first) ∙ value_length-header key value is_key is_value

  at_key : value_place header ≡ 1 + key_width (length key)
  at_key = ap (λ (n : ℕ). 1 + key_width n) (ap key_length (sym first) ∙ key_length-header key value is_key)

  pub value_byte : (k i : ℕ) → i < 8 → 8 * k + i < length value
      → row.words (value_place header + k) / 2 ^ (8 * i) % 256 ≡ get_or value (8 * k + i) 0
  value_byte k i few lt =
      let n = key_width (length key) in
      let w = value_width (length key) in
      let inside : 1 + n + k < row_width * span_of key value = omega (arith, lt, is_value.fits, value_width-room (length key), widths (length key)) in
      let room : 8 * k + i < 8 * w = omega (arith, lt, is_value.fits, value_width-room (length key)) in
      let word : row.words (value_place header + k) ≡ slice_index (words_from w value 0) k = ap (λ (m : ℕ). row.words (m + k)) at_key
      ∙ holds (1 + n + k) inside
      ∙ sym (get_or-drop (1 + n) (row_of key value) k 0)
      ∙ ap (λ (l : List ℕ). get_or l k 0) (value_in_row key value) in
      ap (λ (m : ℕ). m / 2 ^ (8 * i) % 256) word
      ∙ sym (byte_at-split (words_from w value 0) k i few)
      ∙ byte_at-words_from w value 0 (8 * k + i) (AreBytes-from_All value is_value.all_bytes) room
      ∙ ap (λ (n : ℕ). get_or value n 0) (omega arith)

  -- bytes that were written one by one
  pub are_value : (bytes : List ℕ) → length bytes ≡ value_length header
      → ((k i : ℕ) → i < 8 → 8 * k + i < length bytes → get_or bytes (8 * k + i) 0 ≡ row.words (value_place header + k) / 2 ^ (8 * i) % 256)
      → bytes ≡ value
  are_value bytes long each =
      let same : length bytes ≡ length value = long ∙ value_long in
      same_number_lists bytes value same
      (λ at lt.
      let k = at / 8 in let i = at % 8 in
      let is : 8 * k + i ≡ at = omega arith in
      ap (λ (n : ℕ). get_or bytes n 0) (sym is)
      ∙ each k i (omega arith) (omega (arith, is, lt))
      ∙ value_byte k i (omega arith) (omega (arith, is, lt, same))
      ∙ ap (λ (n : ℕ). get_or value n 0) is)
