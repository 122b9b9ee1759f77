-- Which commands the lines of a trace state, and how far a trace is read.
use Rattle.std.specs.Prelude.{◌≡◌, ◌⊎◌, ◌≤◌, ℕ, List, [], ◌∷◌, ◌++◌, length, Result, Ok, Err, nat_le}
use Rattle.std.specs.List.{flat_map, AllByRecursion}
use Rattle.segclient.specs.Counting.{with_more}
use Rattle.segscript.specs.Script.{ended, IsLine, Splits}
use Rattle.segreplay.specs.declared.fault.TraceFault.{TraceFault}
use Rattle.segreplay.specs.declared.fault.TraceFault.TheVariants as fault
use Rattle.segtraces.specs.declared.line.Form.{Form}
use Rattle.segtraces.specs.declared.line.Stated.{Stated}
use Rattle.segtraces.specs.declared.line.Stated.TheVariants as states
use Rattle.segtraces.specs.declared.line.TraceCommand.{TraceCommand}
use Rattle.segtraces.specs.declared.line.TraceLineFault.{TraceLineFault}
use Rattle.segtraces.specs.declared.line.TraceLineFault.TheVariants as line_fault
use Rattle.segreplay.specs.declared.player.Assignment.{Assignment}
use Rattle.segreplay.specs.declared.reading.Rules.{Rules}
use Rattle.segreplay.specs.declared.reading.TracePosition.{TracePosition}
use Rattle.segtraces.specs.Lines.{client_of, form_after, stated}

-- ---- lines

-- the commands that a line states: one, or none
abbrev pub requests_in : Stated → List TraceCommand
requests_in (states.Command r) = r ∷ []
requests_in states.Nothing = []
requests_in (states.Header columns) = []

-- These lines state these commands, of a trace that has the first form before them
-- and the last one behind them.
abbrev pub State : Form → List (List ℕ) → List TraceCommand → Form → Type 0
State form [] requests last = (requests ≡ []) × (last ≡ form)
State form (line ∷ lines) requests last =
    (said : Stated) × (rest : List TraceCommand) × (stated form line ≡ Ok said)
    × State (form_after form said) lines rest last
    × (requests ≡ requests_in said ++ rest)

-- a line that isn't too long
abbrev pub IsShort : List ℕ → Type 0
IsShort line = length line ≤ 4096

-- The bytes after a line begin with a line feed; or there are none, and `Ends` holds.
abbrev pub HasEnded : Type 0 → List ℕ → Type 0
HasEnded Ends after = ((more : List ℕ) × (after ≡ 10 ∷ more)) ⊎ ((after ≡ []) × Ends)

-- A bad line begins with 4,097 bytes without a line feed; or it has at most 4,096, has ended,
-- and can't be read, for this reason.
abbrev pub IsBad : Form → Type 0 → List ℕ → List ℕ → TraceLineFault → Type 0
IsBad form Ends line after why =
    ((length line ≡ 4097) × (why ≡ line_fault.TooLong))
    ⊎ (IsShort line × HasEnded Ends after × (stated form line ≡ Err why))

-- ---- turns

-- the command with this number, counted from 0: its client, and whether it is counted
abbrev pub turn_of : Rules → ℕ → TraceCommand → Assignment
turn_of rules number r = record {
  request = r;
  client = client_of rules.clients r.key;
  is_counted = nat_le rules.warm number;
}

-- these commands, the first of which has this number
abbrev pub turns_from : Rules → ℕ → List TraceCommand → List Assignment
turns_from rules number [] = []
turns_from rules number (r ∷ requests) =
    turn_of rules number r ∷ turns_from rules (with_more number 1) requests

-- the number of the command after these
abbrev pub number_after : ℕ → List TraceCommand → ℕ
number_after number [] = number
number_after number (r ∷ requests) = number_after (with_more number 1) requests

-- the number of the line after these, the first of which has number 1
abbrev pub line_after : ℕ → List (List ℕ) → ℕ
line_after number [] = number
line_after number (line ∷ lines) = line_after (with_more number 1) lines

-- ---- how far a trace is read

-- The bytes `seen` came. Their whole lines state commands, of which `made` were handed on.
pub record HasRead (rules : Rules) (seen : List ℕ) (made : List Assignment) (r : TracePosition)
    : Type 0 where
  pub lines : List (List ℕ)
  pub requests : List TraceCommand
  pub same : r.rules ≡ rules
  pub splits : Splits seen lines r.line
  pub fit : AllByRecursion IsShort lines
  pub short : IsShort r.line
  pub states : State rules.form lines requests r.form
  pub turns : made ++ r.turns.items ≡ turns_from rules 0 requests
  pub commands : r.commands ≡ number_after 0 requests
  pub number : r.number ≡ line_after 1 lines

-- The n-th line is the first bad one, for this reason. It has ended, or is too long already.
-- These are the turns of the lines before it.
pub record EndsBad (rules : Rules) (Ends : Type 0) (seen : List ℕ) (turns : List Assignment)
    (n : ℕ) (why : TraceLineFault) : Type 0 where
  pub form : Form
  pub lines : List (List ℕ)
  pub bad : List ℕ
  pub after : List ℕ
  pub requests : List TraceCommand
  pub whole : seen ≡ flat_map ended lines ++ (bad ++ after)
  pub each : AllByRecursion IsLine lines
  pub fit : AllByRecursion IsShort lines
  pub unbroken : IsLine bad
  pub is_bad : IsBad form Ends bad after why
  pub states : State rules.form lines requests form
  pub made : turns ≡ turns_from rules 0 requests
  pub number : n ≡ line_after 1 lines

-- Out of memory was told of a line that has ended and states a command.
-- These are the turns of the lines before it.
pub record EndsForMemory (rules : Rules) (Ends : Type 0) (seen : List ℕ)
    (turns : List Assignment) : Type 0 where
  pub form : Form
  pub lines : List (List ℕ)
  pub line : List ℕ
  pub after : List ℕ
  pub requests : List TraceCommand
  pub refused : TraceCommand
  pub whole : seen ≡ flat_map ended lines ++ (line ++ after)
  pub each : AllByRecursion IsLine lines
  pub fit : AllByRecursion IsShort lines
  pub unbroken : IsLine line
  pub short : IsShort line
  pub known : HasEnded Ends after
  pub said : stated form line ≡ Ok (states.Command refused)
  pub states : State rules.form lines requests form
  pub made : turns ≡ turns_from rules 0 requests

-- These are the turns of all whole lines of what came.
-- The line after them has no end, and isn't too long so far.
pub record EndsEarly (rules : Rules) (seen : List ℕ) (turns : List Assignment) : Type 0 where
  pub form : Form
  pub lines : List (List ℕ)
  pub rest : List ℕ
  pub requests : List TraceCommand
  pub splits : Splits seen lines rest
  pub fit : AllByRecursion IsShort lines
  pub short : IsShort rest
  pub states : State rules.form lines requests form
  pub made : turns ≡ turns_from rules 0 requests

-- These are the turns of the whole trace. A last line without an end counts too.
pub record EndsWhole (rules : Rules) (seen : List ℕ) (turns : List Assignment) : Type 0 where
  pub form : Form
  pub lines : List (List ℕ)
  pub last : List ℕ
  pub requests : List TraceCommand
  pub splits : Splits seen lines last
  pub fit : AllByRecursion IsShort (lines ++ last ∷ [])
  pub states : State rules.form (lines ++ last ∷ []) requests form
  pub made : turns ≡ turns_from rules 0 requests

-- How a trace ended of which these bytes came, and the turns that it had.
-- `Ends` says that the reader has no more bytes.
abbrev pub EndsTrace : Rules → Type 0 → List ℕ → List Assignment → Result (Unit {0}) TraceFault
    → Type 0
EndsTrace rules Ends seen turns (Ok _) = EndsWhole rules seen turns
EndsTrace rules Ends seen turns (Err (fault.Line n why)) = EndsBad rules Ends seen turns n why
EndsTrace rules Ends seen turns (Err fault.OutOfMemory) = EndsForMemory rules Ends seen turns
EndsTrace rules Ends seen turns (Err _) = EndsEarly rules seen turns

-- ---- the parts of a reading

-- what became of what a line states
abbrev pub TakesStated : Stated → TracePosition → TracePosition → Result (Unit {0}) TraceFault
    → Type 0
TakesStated said old new (Ok _) =
    (new.turns.items ≡ old.turns.items ++ turns_from old.rules old.commands (requests_in said))
    × (new.commands ≡ number_after old.commands (requests_in said))
    × (new.form ≡ form_after old.form said)
    × (new.number ≡ old.number)
    × (new.rules ≡ old.rules)
TakesStated said old new (Err fault.OutOfMemory) =
    (r : TraceCommand)
    × (said ≡ states.Command r)
    × (new.turns.items ≡ old.turns.items)
TakesStated said old new (Err _) = ⊥

-- what became of the line before its end was taken
abbrev pub TakesCommand : TracePosition → TracePosition → Result (Unit {0}) TraceFault → Type 0
TakesCommand old new (Ok _) =
    (said : Stated)
    × (stated old.form old.line ≡ Ok said)
    × (new.turns.items ≡ old.turns.items ++ turns_from old.rules old.commands (requests_in said))
    × (new.commands ≡ number_after old.commands (requests_in said))
    × (new.form ≡ form_after old.form said)
    × (new.number ≡ old.number)
    × (new.rules ≡ old.rules)
TakesCommand old new (Err (fault.Line n why)) =
    (n ≡ old.number)
    × (stated old.form old.line ≡ Err why)
    × (new.turns.items ≡ old.turns.items)
TakesCommand old new (Err fault.OutOfMemory) =
    (r : TraceCommand)
    × (stated old.form old.line ≡ Ok (states.Command r))
    × (new.turns.items ≡ old.turns.items)
TakesCommand old new (Err _) = ⊥

-- what became of the line whose end has come
abbrev pub TakesLine : TracePosition → TracePosition → Result (Unit {0}) TraceFault → Type 0
TakesLine old new (Ok _) =
    (said : Stated)
    × (stated old.form old.line ≡ Ok said)
    × (new.turns.items ≡ old.turns.items ++ turns_from old.rules old.commands (requests_in said))
    × (new.commands ≡ number_after old.commands (requests_in said))
    × (new.form ≡ form_after old.form said)
    × (new.line ≡ [])
    × (new.number ≡ with_more old.number 1)
    × (new.rules ≡ old.rules)
TakesLine old new (Err f) = TakesCommand old new (Err f)

-- What became of bytes that were fed: all that came are `seen`, these among them.
-- More may come behind them.
abbrev pub Feeds : Rules → List ℕ → List Assignment → TracePosition → Result (Unit {0}) TraceFault
    → Type 0
Feeds rules seen made new (Ok _) = HasRead rules seen made new
Feeds rules seen made new (Err (fault.Line n why)) =
    EndsBad rules ⊥ seen (made ++ new.turns.items) n why
Feeds rules seen made new (Err fault.OutOfMemory) =
    EndsForMemory rules ⊥ seen (made ++ new.turns.items)
Feeds rules seen made new (Err _) = ⊥

-- These bytes were fed, whatever came before.
abbrev pub FeedsMore : List ℕ → TracePosition → TracePosition → Result (Unit {0}) TraceFault
    → Type 0
FeedsMore bytes old new end =
    (rules : Rules) (seen : List ℕ) (made : List Assignment) → HasRead rules seen made old
    → Feeds rules (seen ++ bytes) made new end

-- These turns were handed on, whatever came before.
abbrev pub HandsOn : List Assignment → TracePosition → TracePosition → Type 0
HandsOn turns old new =
    (rules : Rules) (seen : List ℕ) (made : List Assignment) → HasRead rules seen made old
    → HasRead rules seen (made ++ turns) new
