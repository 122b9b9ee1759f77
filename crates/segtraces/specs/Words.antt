-- What a word of a trace writes: an operation, a key, a number, a moment.
use Rattle.std.specs.Prelude.{ℕ, ◌+◌, ◌-◌, ◌*◌, ◌^◌, ◌/◌, ◌==◌, ◌&&◌, ◌||◌, Bool, List, [], ◌∷◌, length, take, drop, slice_index, Option, Some, None, if◌then◌else◌, nat_lt, codes}
use Rattle.std.specs.Char.{is_ascii_digit, is_ascii_whitespace}
use Rattle.std.specs.Int.{to_be_bytes, w64}
use Rattle.std.specs.List.{list_all, prefix_len, suffix_len}
use Rattle.std.specs.Str.{str_eq_ignore_ascii_case}
use Rattle.segword.specs.declared.key.TheConstants.{KEY_BYTES}
use Rattle.segword.specs.Fnv.{hash_of}
use Rattle.segtext.specs.Digits.{number_below}
use Rattle.segtraces.specs.declared.line.Operation.{Operation}
use Rattle.segtraces.specs.declared.line.Operation.TheVariants as verb

-- ---- texts

-- the text without the white space at its end
abbrev pub without_end : List ℕ → List ℕ
without_end text = take (length text - suffix_len is_ascii_whitespace text) text

-- the text without the white space at its beginning and at its end
abbrev pub trimmed : List ℕ → List ℕ
trimmed text = without_end (drop (prefix_len is_ascii_whitespace text) text)

-- a line that ends with a carriage return, without it
abbrev pub without_return : List ℕ → List ℕ
without_return line =
    if slice_index line (length line - 1) == 13 then take (length line - 1) line else line

-- ---- operations, in any case

-- the text is this name, in any case
abbrev pub is_name : List ℕ → List ℕ → Bool
is_name text name = str_eq_ignore_ascii_case text name

abbrev pub is_get : List ℕ → Bool
is_get text = is_name text (codes "get") || is_name text (codes "gets")

-- the other writes of a cache's protocol count as a set
abbrev pub is_set : List ℕ → Bool
is_set text =
    is_name text (codes "set") || is_name text (codes "put") || is_name text (codes "add")
    || is_name text (codes "replace") || is_name text (codes "cas")

-- so do writes that a client makes of the value that stands
abbrev pub is_change : List ℕ → Bool
is_change text =
    is_name text (codes "append") || is_name text (codes "prepend")
    || is_name text (codes "incr") || is_name text (codes "decr")

abbrev pub verb_named : List ℕ → Option Operation
verb_named text =
    if is_get text then Some verb.Get
    else (if is_set text || is_change text then Some verb.Set
    else (if is_name text (codes "delete") then Some verb.Delete else None))

-- ---- keys

-- A text of at most KEY_BYTES bytes is the key itself. A longer one goes by the bytes of its hash.
abbrev pub key_named : List ℕ → Option (List ℕ)
key_named [] = None
key_named text =
    if nat_lt KEY_BYTES (length text) then Some (to_be_bytes w64 (hash_of text)) else Some text

-- ---- numbers

-- the number below 2^32 that these digits write
abbrev pub number_named : List ℕ → Option ℕ
number_named text = number_below (2 ^ 32) text

-- a time to live of 0 stands for no end
abbrev pub lasting : Option ℕ → Option ℕ
lasting None = None
lasting (Some time) = Some (if time == 0 then 2 ^ 32 - 1 else time)

-- ---- moments

-- The whole part, below 2^60, of the decimal that these bytes write behind digits that write the
-- first number. Behind a point stand digits, or nothing.
abbrev pub whole_from : ℕ → List ℕ → Option ℕ
whole_from number [] = Some number
whole_from number (byte ∷ text) =
    if byte == 46 then (if list_all is_ascii_digit text then Some number else None)
    else (if is_ascii_digit byte && nat_lt (number * 10 + (byte - 48)) (2 ^ 60)
    then whole_from (number * 10 + (byte - 48)) text
    else None)

-- a decimal begins with a digit
abbrev pub whole_named : List ℕ → Option ℕ
whole_named text = if is_ascii_digit (slice_index text 0) then whole_from 0 text else None

-- a number from 10^12 on is one of milliseconds
abbrev pub seconds_of : ℕ → ℕ
seconds_of number = if nat_lt number 1000000000000 then number else number / 1000

-- the seconds, if the clock can show them
abbrev pub shown : ℕ → Option ℕ
shown seconds = if nat_lt seconds (2 ^ 32) then Some seconds else None

abbrev pub moment_of : Option ℕ → Option ℕ
moment_of None = None
moment_of (Some number) = shown (seconds_of number)

abbrev pub moment_named : List ℕ → Option ℕ
moment_named text = moment_of (whole_named text)
