-- Why a line is bad: the first fault of a line, as a function of the line.
-- Its words are looked at in their order. Each has to be what its place in the line asks for.
use Rattle.std.specs.Prelude.{◌≡◌, ℕ, ◌+◌, ◌^◌, ◌==◌, ◌&&◌, ◌||◌, Bool, not, List, [], ◌∷◌, length, drop, Option, Some, None, Result, Ok, Err, if◌then◌else◌, nat_lt, slice_index}
use Rattle.std.specs.List.{list_all, slice_split}
use Rattle.std.specs.Char.{is_ascii_digit}
use Rattle.std.specs.Str.Parse.{digits_value}
use Rattle.segword.specs.declared.key.TheConstants.{KEY_BYTES}
use Rattle.segword.specs.declared.value.TheConstants.{VALUE_BYTES}
use Rattle.segscript.specs.Reading.{has_leading_zero}
use Rattle.segscript.specs.Spelling.{commands, line_parts, named_among}
use Rattle.segscript.specs.declared.line.Verb.{Verb}
use Rattle.segscript.specs.declared.reason.LineFault.{LineFault}
use Rattle.segscript.specs.declared.reason.LineFault.TheVariants as fault
use Rattle.segscript.specs.declared.reason.Part.{Part}
use Rattle.segscript.specs.declared.reason.Part.TheVariants as part
use Rattle.segscript.specs.declared.reason.WordFault.{WordFault}
use Rattle.segscript.specs.declared.reason.WordFault.TheVariants as why
use Rattle.segscript.specs.declared.limits.TheConstants.{LINE_BYTES}

-- ---- words

abbrev pub is_word_byte : ℕ → Bool
is_word_byte byte = nat_lt 32 byte && nat_lt byte 127

-- the first fault, if either is one
abbrev pub or_else : Option WordFault → Option WordFault → Option WordFault
or_else (Some f) other = Some f
or_else None other = other

abbrev pub are_no_digits : List ℕ → Bool
are_no_digits word = length word == 0 || not (list_all is_ascii_digit word)

-- the fault of decimal digits that are to be a number below 2^32
abbrev pub number_fault : List ℕ → Option WordFault
number_fault digits =
    if are_no_digits digits then Some why.NoNumber
    else (if has_leading_zero digits then Some why.LeadingZero
    else (if nat_lt (digits_value 10 digits) (2 ^ 32) then None else Some why.LargeNumber))

-- These digits write the number, or this is their fault.
abbrev pub ReturnsNumber : List ℕ → Result ℕ WordFault → Type 0
ReturnsNumber digits (Ok n) = (number_fault digits ≡ None) × (digits_value 10 digits ≡ n)
ReturnsNumber digits (Err f) = number_fault digits ≡ Some f

-- the fault of a number that is to be below `limit`
abbrev pub below_fault : ℕ → WordFault → List ℕ → Option WordFault
below_fault limit f digits = if nat_lt (digits_value 10 digits) limit then None else Some f

-- the fault of a word that is to have at most `most` bytes
abbrev pub bytes_fault : ℕ → WordFault → List ℕ → Option WordFault
bytes_fault most long word =
    if nat_lt most (length word) then Some long
    else (if list_all is_word_byte word then None else Some why.NotPrintable)

abbrev pub command_fault : Option Verb → Option WordFault
command_fault (Some v) = None
command_fault None = Some why.NoCommand

-- the fault of a word that isn't empty, and is to be this part of a line
abbrev pub part_fault : ℕ → Part → List ℕ → Option WordFault
part_fault passes part.Pass word =
    if slice_index word 0 == 112
    then or_else (number_fault (drop 1 word)) (below_fault passes why.NoPass (drop 1 word))
    else Some why.NotPass
part_fault passes part.Command word = command_fault (named_among commands word)
part_fault passes part.Cutoff word =
    or_else (number_fault word) (below_fault 256 why.LargeCutoff word)
part_fault passes part.Key word = bytes_fault KEY_BYTES (why.LongKey (length word)) word
part_fault passes part.Value word = bytes_fault VALUE_BYTES (why.LongValue (length word)) word
part_fault passes part.Moment word =
    if slice_index word 0 == 64 then number_fault (drop 1 word) else Some why.NoAt
part_fault passes part.Segment word = number_fault word
part_fault passes part.Deadline word = number_fault word
part_fault passes part.Version word = number_fault word

-- A word is empty between two spaces that follow each other, and behind a space at the end of a line.
abbrev pub word_fault : ℕ → Part → List ℕ → Option WordFault
word_fault passes p word = if length word == 0 then Some why.Empty else part_fault passes p word

-- ---- lines

abbrev pub extra_fault : ℕ → List ℕ → LineFault
extra_fault place word =
    if length word == 0 then fault.Word place why.Empty else fault.Extra place

abbrev pub at_place : ℕ → Option WordFault → Option LineFault → Option LineFault
at_place place (Some f) other = Some (fault.Word place f)
at_place place None other = other

-- The first fault of words that are to be these parts. The first word has this place in its line.
abbrev pub words_fault : ℕ → ℕ → List Part → List (List ℕ) → Option LineFault
words_fault passes place [] [] = None
words_fault passes place [] (word ∷ words) = Some (extra_fault place word)
words_fault passes place (p ∷ parts) [] = Some (fault.Missing place p)
words_fault passes place (p ∷ parts) (word ∷ words) =
    at_place place (word_fault passes p word) (words_fault passes (place + 1) parts words)

-- The first fault of a line, for so many passes. A line without bytes has none.
-- No line has more than seven words: the eighth is one too many, whatever the others are.
abbrev pub line_fault : ℕ → List ℕ → Option LineFault
line_fault passes line =
    let words = slice_split (λ byte. byte == 32) line in
    if nat_lt LINE_BYTES (length line) then Some fault.TooLong
    else (if length line == 0 then None
    else (if nat_lt 7 (length words) then Some (fault.Extra 8)
    else words_fault passes 1 (line_parts words) words))
