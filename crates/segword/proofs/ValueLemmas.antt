-- The words of an item by their places: those of its key, and those of its value.
use Rattle.std.proofs.Common.{◌≡◌, ℕ, suc, ◌+◌, ◌*◌, ◌<◌, List, length, get_or, sym, ap, ◌∙◌, arith}
use Rattle.std.specs.Prelude.{slice_index}
use Rattle.std.proofs.lemmas.List.{get_or-drop}
use Rattle.segword.specs.declared.key.TheConstants.{KEY_WORDS}
use Rattle.segword.specs.declared.spans.TheConstants.{ITEM_WORDS}
use Rattle.segword.specs.KeyWords.{key_words}
use Rattle.segword.specs.Row.{key_width, row_of, value_width, word_at}
use Rattle.segword.proofs.RowLemmas.{get_or-words_from, key_in_row, key_width-most, value_in_row, widths}

-- a word of an item by its place: of the key, and of the value
pub item_key_word : (key value : List ℕ) (place : ℕ) → suc place < 1 + key_width (length key)
    → slice_index (row_of key value) (suc place) ≡ slice_index (key_words key) (suc place)
item_key_word key value place inside =
    let width = key_width (length key) in let most = key_width-most (length key) in
    key_in_row key value place (omega (arith, inside))
    ∙ get_or-words_from width key 0 place (omega (arith, inside))
    ∙ sym (get_or-words_from KEY_WORDS key 0 place (omega (arith, inside, most)))

pub item_value_word : (key value : List ℕ) (place : ℕ) → 1 + key_width (length key) + place < ITEM_WORDS
    → slice_index (row_of key value) (1 + key_width (length key) + place) ≡ word_at value (8 * place)
item_value_word key value place inside =
    let width = value_width (length key) in let sum = widths (length key) in
    sym (get_or-drop (1 + key_width (length key)) (row_of key value) place 0)
    ∙ ap (λ (words : List ℕ). get_or words place 0) (value_in_row key value)
    ∙ get_or-words_from width value 0 place (omega (arith, inside, sum)) ∙ ap (word_at value) (omega arith)
