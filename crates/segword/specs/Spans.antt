-- How many rows an item takes: as many as it needs, one behind the other.
use Rattle.std.specs.Prelude.{ℕ, ◌+◌, ◌/◌, ◌%◌, ◌==◌, ◌&&◌, Bool, nat_le, nat_lt, List, length, if◌then◌else◌}
use Rattle.std.specs.Int.{div_ceil}
use Rattle.segword.specs.declared.row.TheConstants.{ROW_WORDS}
use Rattle.segword.specs.Row.{key_width}
use Rattle.segword.specs.RowLayout.{key_length, value_length}

-- how many rows the item of a key and a value with these lengths takes
abbrev pub span : ℕ → ℕ → ℕ
span key value = div_ceil (1 + key_width key + div_ceil value 8) ROW_WORDS

abbrev pub span_of : List ℕ → List ℕ → ℕ
span_of key value = span (length key) (length value)

-- how many rows an item with this word 0 takes, and the place of its value's first word
abbrev pub span_of_header : ℕ → ℕ
span_of_header header = span (key_length header) (value_length header)

abbrev pub value_place : ℕ → ℕ
value_place header = 1 + key_width (key_length header)

-- whether a row is one of so many from a first one on
abbrev pub covers : ℕ → ℕ → ℕ → Bool
covers first rows row =
    if rows == 1 then first == row else nat_le first row && nat_lt row (first + rows)

-- the row of a place of an item that begins in a row, and the place in that row
abbrev pub row_behind : ℕ → ℕ → ℕ
row_behind first place = first + place / ROW_WORDS

abbrev pub place_behind : ℕ → ℕ
place_behind place = place % ROW_WORDS
