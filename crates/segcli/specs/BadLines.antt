-- What the program prints of the fault of a bad line, as a function of the line's number and fault.
use Rattle.std.specs.Prelude.{ℕ, List, ◌++◌, codes, decimal}
use Rattle.segword.specs.declared.key.TheConstants.{KEY_BYTES}
use Rattle.segword.specs.declared.value.TheConstants.{VALUE_BYTES}
use Rattle.segscript.specs.declared.limits.TheConstants.{LINE_BYTES}
use Rattle.segscript.specs.declared.reason.LineFault.{LineFault}
use Rattle.segscript.specs.declared.reason.LineFault.TheVariants as fault
use Rattle.segscript.specs.declared.reason.Part.{Part}
use Rattle.segscript.specs.declared.reason.Part.TheVariants as part
use Rattle.segscript.specs.declared.reason.WordFault.{WordFault}
use Rattle.segscript.specs.declared.reason.WordFault.TheVariants as why

abbrev pub part_text : Part → List ℕ
part_text part.Pass = codes "a pass"
part_text part.Command = codes "a command"
part_text part.Segment = codes "a segment"
part_text part.Deadline = codes "a deadline"
part_text part.Cutoff = codes "a cutoff"
part_text part.Key = codes "a key"
part_text part.Value = codes "a value"
part_text part.Version = codes "a version"
part_text part.Moment = codes "a moment"

-- how many bytes a word has, and may have
abbrev pub length_text : ℕ → ℕ → List ℕ
length_text n most = decimal n ++ codes " bytes, of " ++ decimal most ++ codes " at most"

abbrev pub word_fault_text : WordFault → List ℕ
word_fault_text why.Empty = codes "no word stands between two spaces, or at an end"
word_fault_text why.NotPass = codes "a pass is p and its number, as p0"
word_fault_text why.NoPass = codes "no pass has this number (see --passes)"
word_fault_text why.NoCommand = codes "no command has this name"
word_fault_text (why.LongKey n) = codes "the key has " ++ length_text n KEY_BYTES
word_fault_text (why.LongValue n) = codes "the value has " ++ length_text n VALUE_BYTES
word_fault_text why.NotPrintable = codes "it has a byte that is not printable"
word_fault_text why.NoAt = codes "a moment is @ and a number, as @0"
word_fault_text why.NoNumber = codes "a number is written in decimal digits alone"
word_fault_text why.LeadingZero = codes "a number does not begin with 0, but for 0 itself"
word_fault_text why.LargeNumber = codes "the number is over 4294967295"
word_fault_text why.LargeCutoff = codes "the cutoff is over 255"

abbrev pub place_text : ℕ → List ℕ
place_text place = codes ", word " ++ decimal place ++ codes ": "

-- what stands behind the number of the line
abbrev pub fault_text : LineFault → List ℕ
fault_text fault.TooLong = codes ": it has more than " ++ decimal LINE_BYTES ++ codes " bytes"
fault_text (fault.Word place f) = place_text place ++ word_fault_text f
fault_text (fault.Missing place p) = place_text place ++ part_text p ++ codes " is missing"
fault_text (fault.Extra place) = place_text place ++ codes "no word stands here"

abbrev pub bad_line_text : ℕ → LineFault → List ℕ
bad_line_text number f = codes "line " ++ decimal number ++ fault_text f ++ codes "\n"
