-- What a word of the command line says of a word of the table, and the line that explains it.
use Rattle.std.specs.Prelude.{◌≡◌, ℕ, ◌^◌, ◌<◌, ◌/◌, ◌%◌, List, [], ◌∷◌, ◌++◌, length, slice_index, codes, decimal, if◌then◌else◌}
use Rattle.std.specs.Str.Parse.{AllDigits, digits_value}
use Rattle.segword.specs.Words.{Info, info_word, IsProperReading, Reading, reading_word}
use Rattle.segword.specs.Words.{SegmentWord, word_of_segment}
use Rattle.segword.specs.declared.reading.Reading.TheVariants as reading
use Rattle.segtasks.specs.declared.asked.WordKind.{WordKind}
use Rattle.segtasks.specs.declared.asked.WordKind.TheVariants as kinds
use Rattle.segcli.specs.declared.explanation.Meaning.{Meaning}
use Rattle.segcli.specs.declared.explanation.Meaning.TheVariants as meaning

-- The text is exactly 16 hexadecimal digits, of either case.
abbrev pub IsHexWord : List ℕ → Type 0
IsHexWord text = (length text ≡ 16) × AllDigits 16 text

-- the kind of word that has this meaning
abbrev pub kind_of_meaning : Meaning → WordKind
kind_of_meaning (meaning.Item r) = kinds.Item
kind_of_meaning (meaning.Information i) = kinds.Information
kind_of_meaning (meaning.Segment s) = kinds.Segment

-- the word that has this meaning
abbrev pub meaning_word : Meaning → ℕ
meaning_word (meaning.Item r) = reading_word r
meaning_word (meaning.Information i) = info_word i
meaning_word (meaning.Segment s) = word_of_segment s

-- a table can have a word of this meaning
abbrev pub IsProperMeaning : Meaning → Type 0
IsProperMeaning (meaning.Item r) = IsProperReading r
IsProperMeaning (meaning.Information i) = i.version < 2 ^ 32
IsProperMeaning (meaning.Segment s) = (s.deadline < 2 ^ 32) × (s.readers < 2 ^ 32)

-- This is what a word says that is one of this kind.
abbrev pub Means : WordKind → ℕ → Meaning → Type 0
Means kind word m =
    (kind_of_meaning m ≡ kind) × IsProperMeaning m × (word ≡ meaning_word m)

-- The text writes the word of this kind and meaning, which is one that a table can have.
abbrev pub SpellsWord : WordKind → List ℕ → Meaning → Type 0
SpellsWord kind text m = IsHexWord text × Means kind (digits_value 16 text) m

abbrev pub hex_digit : ℕ → ℕ
hex_digit n = slice_index (codes "0123456789abcdef") n

-- a tag in three digits
abbrev pub tag_digits : ℕ → List ℕ
tag_digits tag = hex_digit (tag / 256) ∷ hex_digit (tag / 16 % 16) ∷ hex_digit (tag % 16) ∷ []

-- the line of a reading
abbrev pub reading_line : Reading → List ℕ
reading_line reading.Empty = codes "empty\n"
reading_line (reading.Item item) =
    codes "item tag=" ++ tag_digits item.tag ++ codes " freq=" ++ decimal item.freq
    ++ codes " seg=" ++ decimal item.seg ++ codes " row=" ++ decimal item.row ++ codes "\n"
reading_line (reading.Chain number) = codes "chain " ++ decimal number ++ codes "\n"

-- the line of an information word
abbrev pub information_line : Info → List ℕ
information_line info =
    codes "information version=" ++ decimal info.version
    ++ (if info.held then codes " bit=1\n" else codes " bit=0\n")

-- the line of a segment's word
abbrev pub segment_line : SegmentWord → List ℕ
segment_line word =
    codes "segment deadline=" ++ decimal word.deadline ++ codes " readers=" ++ decimal word.readers
    ++ codes "\n"

-- the line of a meaning
abbrev pub explanation : Meaning → List ℕ
explanation (meaning.Item r) = reading_line r
explanation (meaning.Information i) = information_line i
explanation (meaning.Segment s) = segment_line s
