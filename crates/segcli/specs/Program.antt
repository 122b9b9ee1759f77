-- What the program does with what is read from its words.
use Rattle.std.specs.Prelude.{◌≡◌, ℕ, List, Result, Ok, Err, string_bytes}
use Rattle.segcli.specs.Streams.{Input, output, Output}
use Rattle.segcli.specs.Commands.{CommandOutcome, Concludes}
use Rattle.segcli.specs.Faults.{fault_line, fault_status}
use Rattle.segcli.specs.Printing.{IsPrinted, IsFlushed}
use Rattle.segtasks.specs.declared.arguments.Refusal.{Refusal}
use Rattle.segtasks.specs.declared.arguments.Refusal.TheVariants as refusal
use Rattle.segtasks.specs.declared.task.Task.{Task}
use Rattle.segcli.specs.declared.fault.ProgramFault.{ProgramFault}
use Rattle.segcli.specs.declared.fault.ProgramFault.TheVariants as fault

-- the status if no command was read, and the text that says why
abbrev pub refusal_status : Refusal → ℕ
refusal_status (refusal.Usage text) = 2
refusal_status refusal.BadArguments = fault_status fault.BadArguments
refusal_status refusal.OutOfMemory = fault_status fault.OutOfMemory

abbrev pub refusal_text : Refusal → List ℕ
refusal_text (refusal.Usage text) = string_bytes text
refusal_text refusal.BadArguments = fault_line fault.BadArguments
refusal_text refusal.OutOfMemory = fault_line fault.OutOfMemory

-- A command that was read is carried out.
-- It ends with the writer at `there`, and that end is concluded.
-- If none was read, no input is read, the writer is flushed, and the text that says why is printed
-- to the error writer.
abbrev pub ProgramOutcome : {R W E : Type 0} → Input R → Output W → Output E
    → Result Task Refusal → ℕ → Type 0
ProgramOutcome {W = W} i o errors (Ok command) status =
    (there : W) × (end : Result (Unit {0}) ProgramFault)
    × CommandOutcome i (output o.sink o.old there) command end
    × Concludes (output o.sink there o.new) errors command end status
ProgramOutcome i o errors (Err why) status =
    (status ≡ refusal_status why) × (i.new ≡ i.old) × IsFlushed o
    × IsPrinted (refusal_text why) errors
