-- When words are a row, by the layout alone:
-- word 0 has the key's length in bits 7..0 and the value's in bits 23..8, the words from 1 on have the key's bytes, and those behind them the value's.
use Rattle.std.specs.Prelude.{◌≡◌, ℕ, ◌+◌, ◌*◌, ◌/◌, ◌%◌, ◌^◌, ◌<◌, ◌≤◌, List, length, slice_index, slice_range}
use Rattle.segword.specs.declared.key.TheConstants.{KEY_BYTES}
use Rattle.segword.specs.declared.spans.TheConstants.{ITEM_WORDS}
use Rattle.segword.specs.declared.value.TheConstants.{VALUE_BYTES}
use Rattle.segword.specs.Row.{byte_at, key_width}

-- the length of the key, and that of the value, that a row's first word gives
abbrev pub key_length : ℕ → ℕ
key_length header = header % 2 ^ 8

abbrev pub value_length : ℕ → ℕ
value_length header = header / 2 ^ 8 % 2 ^ 16

-- each byte of these words is 0, from a place on
abbrev pub IsZeroFrom : List ℕ → ℕ → Type 0
IsZeroFrom words from = (i : ℕ) → from ≤ i → i < 8 * length words → byte_at words i ≡ 0

-- these words are a row
pub record IsRow (words : List ℕ) : Type 0 where
  pub key_not_empty : 1 ≤ key_length (slice_index words 0)
  pub key_fits : key_length (slice_index words 0) ≤ KEY_BYTES
  pub value_fits : value_length (slice_index words 0) ≤ VALUE_BYTES
  pub no_other_header_bit : slice_index words 0 / 2 ^ 24 ≡ 0
  pub nothing_past_key : IsZeroFrom (slice_range words 1 (1 + key_width (key_length (slice_index words 0)))) (key_length (slice_index words 0))
  pub nothing_past_value : IsZeroFrom (slice_range words (1 + key_width (key_length (slice_index words 0))) ITEM_WORDS) (value_length (slice_index words 0))
