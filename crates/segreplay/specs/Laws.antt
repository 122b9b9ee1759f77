-- Laws of traces: what a caller needs of how a trace is read, in place of the words of its lines.
-- What else a line can state, and which line is bad, stands only in `EndsTrace`.
-- Here its `Ends` is always true, so the laws cover every reader.
-- Each is proved as the contract of a function in src/laws.rt.
use Rattle.std.specs.Prelude.{◌≡◌, ◌≢◌, ℕ, ◌<◌, ◌≤◌, ◌-◌, ◌^◌, List, [], ◌∷◌, ◌++◌, false, length, slice_index, slice_index_or, Option, Some, None, Ok, Err, codes, decimal}
use Rattle.std.specs.Char.{is_ascii_whitespace}
use Rattle.std.specs.List.{flat_map, AllByRecursion}
use Rattle.segword.specs.declared.key.TheConstants.{KEY_BYTES}
use Rattle.segscript.specs.Script.{ended, IsLine}
use Rattle.segreplay.specs.declared.fault.TraceFault.{TraceFault}
use Rattle.segtraces.specs.declared.line.Columns.{Columns}
use Rattle.segtraces.specs.declared.line.Form.{Form}
use Rattle.segtraces.specs.declared.line.Form.TheVariants as form
use Rattle.segtraces.specs.declared.line.Operation.{Operation}
use Rattle.segtraces.specs.declared.line.Operation.TheVariants as verb
use Rattle.segtraces.specs.declared.line.TraceCommand.{TraceCommand}
use Rattle.segreplay.specs.declared.player.Assignment.{Assignment}
use Rattle.segreplay.specs.declared.reading.Rules.{Rules}
use Rattle.segtraces.specs.Lines.{columns_of, fields_of, separator}
use Rattle.segreplay.specs.Traces.{EndsTrace, turns_from}

-- ---- what a line writes

abbrev pub word_of : Operation → List ℕ
word_of verb.Get = codes "get"
word_of verb.Set = codes "set"
word_of verb.Delete = codes "delete"

-- The field at this place is this text. A line without the column stands for something of its own.
abbrev pub IsAt : Option ℕ → List (List ℕ) → List ℕ → Type 0 → Type 0
IsAt None fields text IsOwn = IsOwn
IsAt (Some place) fields text IsOwn = slice_index_or fields place [] ≡ text

-- The field at this place is this number. A line without the column has none.
abbrev pub IsSizeAt : Option ℕ → List (List ℕ) → Option ℕ → Type 0
IsSizeAt None fields size = size ≡ None
IsSizeAt (Some place) fields size =
    (bytes : ℕ) × (bytes < 2 ^ 32) × (size ≡ Some bytes)
    × (slice_index_or fields place [] ≡ decimal bytes)

-- no byte of the text is white space
abbrev pub IsPlain : List ℕ → Type 0
IsPlain text = AllByRecursion (λ byte. is_ascii_whitespace byte ≡ false) text

-- The fields of a line write this command, each in its column, numbers in decimal digits.
-- Without its column, a moment is 0, an operation a get, and a time to live the longest.
pub record WritesFields (columns : Columns) (fields : List (List ℕ)) (r : TraceCommand) : Type 0 where
  pub count : length fields ≡ columns.fields
  pub plain : AllByRecursion IsPlain fields
  pub key : slice_index_or fields columns.key [] ≡ r.key
  pub some : 0 < length r.key
  pub short : length r.key ≤ KEY_BYTES
  pub moment : IsAt columns.time fields (decimal r.moment) (r.moment ≡ 0)
  pub shows : r.moment < 2 ^ 32
  pub verb : IsAt columns.verb fields (word_of r.verb) (r.verb ≡ verb.Get)
  pub life : IsAt columns.life fields (decimal r.time_to_live) (r.time_to_live ≡ 2 ^ 32 - 1)
  pub lasts : 0 < r.time_to_live
  pub ends : r.time_to_live < 2 ^ 32
  pub size : IsSizeAt columns.size fields r.value_bytes

-- The line writes this command, by its fields. It doesn't end with a carriage return.
abbrev pub WritesLine : Form → List ℕ → TraceCommand → Type 0
WritesLine form line r =
    let fields = fields_of (separator form) line in
    IsLine line
    × (slice_index line (length line - 1) ≢ 13)
    × WritesFields (columns_of form (length fields)) fields r

-- the lines write these commands, each of them one
abbrev pub WriteLines : Form → List (List ℕ) → List TraceCommand → Type 0
WriteLines form [] [] = Unit {0}
WriteLines form (line ∷ lines) (r ∷ requests) =
    WritesLine form line r × WriteLines form lines requests
WriteLines form _ _ = ⊥

-- ---- how it is read

-- A trace whose lines write commands, and that is read to its end, has just these commands.
abbrev pub WrittenIsRead : Type 0
WrittenIsRead = (rules : Rules) (lines : List (List ℕ)) (requests : List TraceCommand)
    (turns : List Assignment)
    → WriteLines rules.form lines requests
    → EndsTrace rules (Unit {0}) (flat_map ended lines) turns (Ok tt)
    → turns ≡ turns_from rules 0 requests

abbrev pub header : List ℕ
header = codes "timestamp,key,op,ttl,value_size"

abbrev pub header_columns : Columns
header_columns = record {
  fields = 5;
  time = Some 0;
  key = 1;
  verb = Some 2;
  life = Some 3;
  size = Some 4;
}

-- So has one of lines with commas whose first line is this header.
abbrev pub HeadedIsRead : Type 0
HeadedIsRead = (rules : Rules) (lines : List (List ℕ)) (requests : List TraceCommand)
    (turns : List Assignment)
    → rules.form ≡ form.Csv
    → WriteLines (form.Named header_columns) lines requests
    → EndsTrace rules (Unit {0}) (flat_map ended (header ∷ lines)) turns (Ok tt)
    → turns ≡ turns_from rules 0 requests

-- Whatever bytes a trace has, they and the rules determine the commands of one that is read
-- to its end.
abbrev pub BytesSayTheTurns : Type 0
BytesSayTheTurns = (rules : Rules) (seen : List ℕ) (turns others : List Assignment)
    → EndsTrace rules (Unit {0}) seen turns (Ok tt)
    → EndsTrace rules (Unit {0}) seen others (Ok tt)
    → turns ≡ others

-- The commands of a trace that ends with a fault are the first of those that it has with whatever
-- follows, if that is read to its end.
abbrev pub FaultedIsABeginning : Type 0
FaultedIsABeginning = (rules : Rules) (seen after : List ℕ) (turns all : List Assignment)
    (why : TraceFault)
    → EndsTrace rules (Unit {0}) seen turns (Err why)
    → EndsTrace rules (Unit {0}) (seen ++ after) all (Ok tt)
    → (rest : List Assignment) × (all ≡ turns ++ rest)
