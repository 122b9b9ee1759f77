-- What `--explain` says of a bad line of a trace.
use Rattle.std.specs.Prelude.{ℕ, List, ◌++◌, codes, decimal}
use Rattle.segtraces.specs.declared.line.Column.{Column}
use Rattle.segtraces.specs.declared.line.Column.TheVariants as column
use Rattle.segtraces.specs.declared.line.TraceLineFault.{TraceLineFault}
use Rattle.segtraces.specs.declared.line.TraceLineFault.TheVariants as fault

-- what the word of a column isn't
abbrev pub column_reason : Column → List ℕ
column_reason column.Time = codes ": no time in seconds or milliseconds\n"
column_reason column.Key = codes ": no key stands here\n"
column_reason column.Verb = codes ": no operation has this name\n"
column_reason column.Life = codes ": no time to live below 2^32\n"
column_reason column.Size = codes ": no number of bytes below 2^32\n"

abbrev pub column_note : Column → ℕ → List ℕ
column_note c place = codes "word " ++ decimal place ++ column_reason c

abbrev pub count_note : ℕ → ℕ → List ℕ
count_note found wanted =
    codes "it has " ++ decimal found ++ codes " words, not " ++ decimal wanted ++ codes "\n"

abbrev pub trace_note : TraceLineFault → List ℕ
trace_note fault.TooLong = codes "it has more than 4096 bytes\n"
trace_note (fault.Count found wanted) = count_note found wanted
trace_note (fault.Word c place) = column_note c place
