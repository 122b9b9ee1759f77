-- What a line of a trace states: a command, the columns of the lines behind it, or nothing.
use Rattle.std.specs.Prelude.{ℕ, ◌+◌, ◌-◌, ◌^◌, ◌%◌, ◌/◌, ◌==◌, ◌||◌, Bool, max, min, List, [], ◌∷◌, length, slice_index_or, Option, Some, None, Result, Ok, Err, if◌then◌else◌, codes}
use Rattle.std.specs.List.{slice_split}
use Rattle.std.specs.Option.{option_map}
use Rattle.segword.specs.Fnv.{hash_of}
use Rattle.segtraces.specs.declared.line.Column.{Column}
use Rattle.segtraces.specs.declared.line.Column.TheVariants as column
use Rattle.segtraces.specs.declared.line.Columns.{Columns}
use Rattle.segtraces.specs.declared.line.Form.{Form}
use Rattle.segtraces.specs.declared.line.Form.TheVariants as form
use Rattle.segtraces.specs.declared.line.Operation.{Operation}
use Rattle.segtraces.specs.declared.line.Operation.TheVariants as verb
use Rattle.segtraces.specs.declared.line.Stated.{Stated}
use Rattle.segtraces.specs.declared.line.Stated.TheVariants as states
use Rattle.segtraces.specs.declared.line.TraceCommand.{TraceCommand}
use Rattle.segtraces.specs.declared.line.TraceLineFault.{TraceLineFault}
use Rattle.segtraces.specs.declared.line.TraceLineFault.TheVariants as fault
use Rattle.segtraces.specs.Words.{is_name, key_named, lasting, moment_named, number_named, trimmed, verb_named, without_return}

-- ---- columns

-- a key and nothing more
abbrev pub bare_columns : Columns
bare_columns = record { fields = 1; time = None; key = 0; verb = None; life = None; size = None }

-- an operation and a key
abbrev pub pair_columns : Columns
pair_columns = record { fields = 2; time = None; key = 1; verb = Some 0; life = None; size = None }

-- time,key,op,ttl
abbrev pub csv_columns : Columns
csv_columns = record {
  fields = 4;
  time = Some 0;
  key = 1;
  verb = Some 2;
  life = Some 3;
  size = None;
}

-- timestamp, key, key size, value size, client, operation, time to live
abbrev pub twitter_columns : Columns
twitter_columns = record {
  fields = 7;
  time = Some 0;
  key = 1;
  verb = Some 5;
  life = Some 6;
  size = Some 3;
}

-- the columns of a line with so many fields
abbrev pub columns_of : Form → ℕ → Columns
columns_of form.Plain fields = if fields == 1 then bare_columns else pair_columns
columns_of form.Csv fields = if fields == 7 then twitter_columns else csv_columns
columns_of (form.Named columns) fields = columns

-- what stands between two fields: a space, or a comma
abbrev pub separator : Form → ℕ
separator form.Plain = 32
separator form.Csv = 44
separator (form.Named columns) = 44

abbrev pub fields_of : ℕ → List ℕ → List (List ℕ)
fields_of at line = slice_split (λ byte. byte == at) line

-- ---- commands

-- the field at this place, without the white space around it
abbrev pub field_at : ℕ → List (List ℕ) → List ℕ
field_at place fields = trimmed (slice_index_or fields place [])

-- a line without a column of moments has moment 0
abbrev pub moment_at : Option ℕ → List (List ℕ) → Option ℕ
moment_at None fields = Some 0
moment_at (Some place) fields = moment_named (field_at place fields)

-- a line without a column of operations is a get
abbrev pub verb_at : Option ℕ → List (List ℕ) → Option Operation
verb_at None fields = Some verb.Get
verb_at (Some place) fields = verb_named (field_at place fields)

-- what a line without a column of times to live puts lasts
abbrev pub life_at : Option ℕ → List (List ℕ) → Option ℕ
life_at None fields = Some (2 ^ 32 - 1)
life_at (Some place) fields = lasting (number_named (field_at place fields))

-- a line without a column of sizes doesn't say how many bytes its value has
abbrev pub size_at : Option ℕ → List (List ℕ) → Option (Option ℕ)
size_at None fields = Some None
size_at (Some place) fields = option_map Some (number_named (field_at place fields))

-- a command, if each of its parts is one; else the first part that is none
abbrev pub request_of : Option ℕ → Option (List ℕ) → Option Operation → Option ℕ
    → Option (Option ℕ) → Result TraceCommand Column
request_of None _ _ _ _ = Err column.Time
request_of (Some moment) None _ _ _ = Err column.Key
request_of (Some moment) (Some key) None _ _ = Err column.Verb
request_of (Some moment) (Some key) (Some verb) None _ = Err column.Life
request_of (Some moment) (Some key) (Some verb) (Some time) None = Err column.Size
request_of (Some moment) (Some key) (Some verb) (Some time) (Some size) =
    Ok (record {
      verb = verb;
      key = key;
      moment = moment;
      time_to_live = time;
      value_bytes = size;
    })

-- the place of a column, if the line has it, or 0
abbrev pub place_or_0 : Option ℕ → ℕ
place_or_0 None = 0
place_or_0 (Some place) = place

-- which place a column has
abbrev pub place_in : Columns → Column → ℕ
place_in columns column.Time = place_or_0 columns.time
place_in columns column.Key = columns.key
place_in columns column.Verb = place_or_0 columns.verb
place_in columns column.Life = place_or_0 columns.life
place_in columns column.Size = place_or_0 columns.size

-- the number of the word at a place; words are counted from 1
abbrev pub number_at : ℕ → ℕ
number_at place = min (place + 1) (2 ^ 64 - 1)

-- the word of this column is none
abbrev pub faulted : Columns → Result TraceCommand Column → Result TraceCommand TraceLineFault
faulted columns (Ok r) = Ok r
faulted columns (Err part) = Err (fault.Word part (number_at (place_in columns part)))

abbrev pub request_at : Columns → List (List ℕ) → Result TraceCommand TraceLineFault
request_at columns fields =
    if length fields == columns.fields
    then faulted columns (request_of (moment_at columns.time fields)
    (key_named (field_at columns.key fields))
    (verb_at columns.verb fields)
    (life_at columns.life fields)
    (size_at columns.size fields))
    else Err (fault.Count (length fields) columns.fields)

-- ---- headers

-- the text is a name of this column, in any case
abbrev pub is_named : Column → List ℕ → Bool
is_named column.Time text = is_name text (codes "timestamp") || is_name text (codes "time")
is_named column.Key text = is_name text (codes "key")
is_named column.Verb text = is_name text (codes "op") || is_name text (codes "operation")
is_named column.Life text = is_name text (codes "ttl")
is_named column.Size text = is_name text (codes "value_size")

-- the place of the first field that names the column, the first of which has this place
abbrev pub place_named : Column → ℕ → List (List ℕ) → Option ℕ
place_named name place [] = None
place_named name place (field ∷ fields) =
    if is_named name (trimmed field) then Some place else place_named name (place + 1) fields

-- a header names moments and keys at least
abbrev pub header_of : ℕ → Option ℕ → Option ℕ → Option ℕ → Option ℕ → Option ℕ
    → Option Columns
header_of fields (Some time) (Some key) verb life size = Some (record {
  fields = fields;
  time = Some time;
  key = key;
  verb = verb;
  life = life;
  size = size;
})
header_of _ _ _ _ _ _ = None

-- the columns that a line names
abbrev pub columns_named : List (List ℕ) → Option Columns
columns_named fields = header_of (length fields)
    (place_named column.Time 0 fields) (place_named column.Key 0 fields)
    (place_named column.Verb 0 fields) (place_named column.Life 0 fields)
    (place_named column.Size 0 fields)

-- only lines with commas have headers
abbrev pub header_in : Form → List (List ℕ) → Option Columns
header_in form.Plain fields = None
header_in form.Csv fields = columns_named fields
header_in (form.Named columns) fields = columns_named fields

-- ---- lines

-- a line that states no command can still be a header
abbrev pub stated_or : Result TraceCommand TraceLineFault → Option Columns
    → Result Stated TraceLineFault
stated_or (Ok r) _ = Ok (states.Command r)
stated_or (Err f) (Some columns) = Ok (states.Header columns)
stated_or (Err f) None = Err f

-- what the fields of a line state
abbrev pub fields_stated : Form → List (List ℕ) → Result Stated TraceLineFault
fields_stated f fields =
    stated_or (request_at (columns_of f (length fields)) fields) (header_in f fields)

-- what a line states
abbrev pub stated : Form → List ℕ → Result Stated TraceLineFault
stated f line =
    if length (without_return line) == 0 then Ok states.Nothing
    else fields_stated f (fields_of (separator f) (without_return line))

-- the form of the lines behind this one
abbrev pub form_after : Form → Stated → Form
form_after was (states.Header columns) = form.Named columns
form_after was states.Nothing = was
form_after was (states.Command r) = was

-- which of so many clients makes the commands of a key
abbrev pub client_of : ℕ → List ℕ → ℕ
client_of clients key = hash_of key / 2 ^ 32 % max clients 1
