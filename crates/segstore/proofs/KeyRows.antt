-- The key of a row that holds a pair, by the row's words: as it is read, and as another key is compared with it.
use Rattle.std.proofs.Common.{◌≡◌, ℕ, suc, ◌+◌, ◌-◌, ◌*◌, ◌<◌, ◌≤◌, ◌↔◌, List, ◌∷◌, length, get_or, take, drop, Option, Some, None, IsSome, sym, ap, ◌∙◌, ⊎_elim, arith}
use Rattle.std.proofs.lemmas.Bool.{cases_lt, false≢true}
use Rattle.std.proofs.lemmas.Grind.{same_number_lists}
use Rattle.std.proofs.lemmas.List.{drop_all, get_or-drop}
use Rattle.std.specs.Int.{IsInRange}
use Rattle.std.specs.Prelude.{IfSome, slice_index}
use Rattle.segword.specs.KeyWords.{key_words}
use Rattle.segword.specs.Row.{bytes_of, key_width, word_at, word_of, words_from}
use Rattle.segword.specs.RowLayout.{key_length}
use Rattle.segword.specs.Words.{head_width, IsKey, IsValue}
use Rattle.segword.proofs.RowLemmas.{front_bytes, get_or-words_from, key_in_row, key_length-header, key_width-most, key_width-room, key_words-one, length-words_from}
use Rattle.segword.proofs.WordLemmas.{AreBytes-from_All}
use Rattle.segcore.specs.Words.{Holds, Row}
use Rattle.segcore.proofs.Spans.{span_some}

-- behind its bytes the words of a key are 0
none_behind : (key : List ℕ) (k : ℕ) → length key ≤ 8 * k → word_at key (8 * k) ≡ 0
none_behind key k past = ap (λ (l : List ℕ). word_of (take 8 l)) (drop_all (8 * k) key past)

-- the words of a key that is compared
own_word : (key : List ℕ) (k : ℕ) → k < head_width - 1 → slice_index (key_words key) (suc k) ≡ word_at key (8 * k)
own_word key k lt = get_or-words_from (head_width - 1) key 0 k lt ∙ ap (word_at key) (let at : 0 + 8 * k ≡ 8 * k = omega arith in at)

module _ (row : Row) (key value : List ℕ) (is_key : IsKey key) (is_value : IsValue value) (holds : Holds row key value) where
  pub key_header : key_length (row.words 0) ≡ length key
  key_header = ap key_length (holds 0 (omega (arith, span_some (length key) (length value)))) ∙ key_length-header key value is_key

  key_word : (k : ℕ) → k < key_width (length key) → row.words (suc k) ≡ get_or (words_from (key_width (length key)) key 0) k 0
  key_word k lt =
      holds (suc k) (omega (arith, lt, key_width-most (length key)))
      ∙ key_in_row key value k lt

  at_word : (k : ℕ) → k < key_width (length key) → row.words (suc k) ≡ word_at key (8 * k)
  at_word k lt = key_word k lt ∙ get_or-words_from (key_width (length key)) key 0 k lt
      ∙ ap (word_at key) (let at : 0 + 8 * k ≡ 8 * k = omega arith in at)

  -- the key's own words are the row's
  pub key_at : (k : ℕ) → k < key_width (length key) → slice_index (key_words key) (suc k) ≡ row.words (suc k)
  key_at k lt = own_word key k (omega (arith, lt, key_width-most (length key))) ∙ sym (at_word k lt)

  -- and another key with these words is this one
  pub key_by_words : (other : List ℕ) → IsKey other → length other ≡ key_length (row.words 0)
      → ((k : ℕ) → k < key_width (length other) → slice_index (key_words other) (suc k) ≡ row.words (suc k)) → key ≡ other
  key_by_words other is_other same each =
      let long : length key ≡ length other = sym (same ∙ key_header) in
      let room = key_width-room (length key) is_key.fits in
      let words : words_from (head_width - 1) key 0 ≡ words_from (head_width - 1) other 0 = same_number_lists
      (words_from (head_width - 1) key 0) (words_from (head_width - 1) other 0)
      (length-words_from (head_width - 1) key 0 ∙ sym (length-words_from (head_width - 1) other 0))
      (λ k lt. let inside : k < head_width - 1 = omega (arith, lt, length-words_from (head_width - 1) key 0) in ⊎_elim
      (λ low. own_word key k inside ∙ sym (at_word k low) ∙ sym (each k (omega (arith, low, long))))
      (λ past. own_word key k inside ∙ none_behind key k (omega (arith, past, room))
      ∙ sym (own_word other k inside ∙ none_behind other k (omega (arith, past, room, long))))
      (cases_lt k (key_width (length key)))) in
      key_words-one key other is_key is_other (λ i. long i ∷ words i)

  -- the key is read from its words, whatever comes behind them
  pub key_taken : (words : List ℕ) (room : ℕ) → length key ≤ room → get_or words 0 0 ≡ row.words 0
      → ((k : ℕ) → k < key_width (length key) → get_or words (suc k) 0 ≡ row.words (suc k))
      → take (key_length (get_or words 0 0)) (bytes_of (drop 1 words) room) ≡ key
  key_taken words room fits first each =
      let n = key_width (length key) in
      let long : key_length (get_or words 0 0) ≡ length key = ap key_length first ∙ key_header in
      ap (λ (m : ℕ). take m (bytes_of (drop 1 words) room)) long
      ∙ front_bytes n room key (drop 1 words) (AreBytes-from_All key is_key.all_bytes) (key_width-room (length key) is_key.fits) fits
      (λ k lt. get_or-drop 1 words k 0 ∙ ap (λ (m : ℕ). get_or words m 0) (let at : 1 + k ≡ suc k = omega arith in at) ∙ each k lt ∙ key_word k lt)

-- a key that is told as it is read, if its length is one of a key
pub read_as : (told : Option (List ℕ)) (header : ℕ) (key read : List ℕ) (most : ℕ) → (IsSome told ↔ IsInRange 1 most header)
    → IfSome told (λ k. k ≡ read) → read ≡ key → 1 ≤ header → header ≤ most → told ≡ Some key
read_as None header key read most variant is same low high = absurd (false≢true (variant.1 (low, high)))
read_as (Some k) header key read most variant is same low high = ap Some (is ∙ same)
