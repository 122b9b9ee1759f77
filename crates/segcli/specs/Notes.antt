-- What `--explain` says behind the line of a fault, as a function of the command and the fault.
use Rattle.std.specs.Prelude.{ℕ, ◌+◌, ◌==◌, ◌&&◌, ◌||◌, Bool, false, List, [], ◌∷◌, ◌++◌, length, slice_index, Option, Some, None, codes, decimal, if◌then◌else◌}
use Rattle.std.specs.Char.{is_ascii_hexdigit}
use Rattle.segword.specs.declared.shape.ShapeFault.{ShapeFault}
use Rattle.segword.specs.declared.shape.ShapeFault.TheVariants as shape_fault
use Rattle.segtasks.specs.declared.asked.WordKind.{WordKind}
use Rattle.segtasks.specs.declared.asked.WordKind.TheVariants as kinds
use Rattle.segtasks.specs.declared.task.Task.{Task}
use Rattle.segtasks.specs.declared.task.Task.TheVariants as command
use Rattle.segcli.specs.declared.fault.ProgramFault.{ProgramFault}
use Rattle.segcli.specs.declared.fault.ProgramFault.TheVariants as fault
use Rattle.segcli.specs.TraceNotes.{trace_note}

-- ---- a shape

-- the option that has this fault, and its range
abbrev pub shape_note : ShapeFault → List ℕ
shape_note shape_fault.BadBuckets = codes "buckets: a power of two, 1 to 65536\n"
shape_note shape_fault.BadOverflow = codes "overflow: 0 to 65536\n"
shape_note shape_fault.BadPasses = codes "passes: 1 to 64\n"
shape_note shape_fault.BadSegments = codes "segments: 1 to 1024\n"
shape_note shape_fault.BadRows = codes "rows: 1 to 4096\n"
shape_note shape_fault.TooLarge = codes "the table: at most 67108864 words of 8 bytes\n"

-- ---- a word

-- whether the text begins with `0x` or `0X`
abbrev pub has_prefix : List ℕ → Bool
has_prefix text =
    slice_index text 0 == 48 && (slice_index text 1 == 120 || slice_index text 1 == 88)

-- The place of the first byte that isn't a hexadecimal digit. The first byte of the text has this place.
abbrev pub letter_from : ℕ → List ℕ → Option ℕ
letter_from place [] = None
letter_from place (byte ∷ text) =
    if is_ascii_hexdigit byte then letter_from (place + 1) text else Some place

-- no word of this kind is the one that the digits write
abbrev pub kind_note : WordKind → List ℕ
kind_note kinds.Item = codes "HEX: tag 0, and over 65536: no item, no chain (see --kind)\n"
kind_note kinds.Information = codes "HEX: one of its bits 1 to 31 is set\n"
kind_note kinds.Segment = []

abbrev pub length_note : WordKind → ℕ → List ℕ
length_note kind n =
    if n == 16 then kind_note kind
    else codes "HEX: it has " ++ decimal n ++ codes " digits, not 16\n"

abbrev pub letter_note : WordKind → ℕ → Option ℕ → List ℕ
letter_note kind n None = length_note kind n
letter_note kind n (Some place) =
    codes "HEX: character " ++ decimal place ++ codes " is not a hexadecimal digit\n"

-- what is wrong with a text that is no word of this kind
abbrev pub word_note : WordKind → List ℕ → List ℕ
word_note kind text =
    if has_prefix text then codes "HEX: the digits stand without 0x\n"
    else letter_note kind (length text) (letter_from 1 text)

-- ---- commands

abbrev pub note_of_word : Task → List ℕ
note_of_word (command.Word word) = word_note word.kind word.text.now
note_of_word _ = []

abbrev pub note_of_fault : Task → ProgramFault → List ℕ
note_of_fault asked (fault.BadShape f) = shape_note f
note_of_fault asked (fault.BadRow n why) = trace_note why
note_of_fault asked fault.BadWord = note_of_word asked
note_of_fault asked _ = []

-- whether the command is to be explained
abbrev pub explains : Task → Bool
explains (command.Script shape explain file) = explain
explains (command.Load load) = load.explain
explains (command.Replay replay) = replay.explain
explains (command.Word word) = word.explain
explains (command.Show text) = false

-- what is said behind the line of a fault
abbrev pub note_of : Task → ProgramFault → List ℕ
note_of asked f = if explains asked then note_of_fault asked f else []
