-- The faults of the program: their lines and statuses.
use Rattle.std.specs.Prelude.{ℕ, List, ◌++◌, codes, decimal, Result, Ok, Err, Bool, true, false}
use Rattle.segword.specs.Words.{fault_number}
use Rattle.segbase.specs.declared.fault.MakeFault.TheVariants as made
use Rattle.segscript.specs.Words.{RunFault}
use Rattle.segscript.specs.declared.fault.RunFault.TheVariants as run
use Rattle.segload.specs.declared.fault.LoadFault.{LoadFault}
use Rattle.segload.specs.declared.fault.LoadFault.TheVariants as load
use Rattle.segreplay.specs.declared.fault.ReplayFault.{ReplayFault}
use Rattle.segreplay.specs.declared.fault.ReplayFault.TheVariants as replay
use Rattle.segreplay.specs.declared.fault.TraceFault.{TraceFault}
use Rattle.segreplay.specs.declared.fault.TraceFault.TheVariants as trace
use Rattle.segcli.specs.declared.fault.ProgramFault.{ProgramFault}
use Rattle.segcli.specs.declared.fault.ProgramFault.TheVariants as fault

-- the program's fault if the run of a script had this fault
abbrev pub fault_of_run : RunFault → ProgramFault
fault_of_run run.Read = fault.Read
fault_of_run run.Write = fault.Write
fault_of_run (run.Line n) = fault.BadLine n
fault_of_run (run.Make (made.Shape f)) = fault.BadShape f
fault_of_run (run.Make made.OutOfMemory) = fault.OutOfMemory
fault_of_run run.TooLong = fault.TooLong

-- the program's fault if a load had this fault
abbrev pub fault_of_load : LoadFault → ProgramFault
fault_of_load (load.Make (made.Shape f)) = fault.BadShape f
fault_of_load (load.Make made.OutOfMemory) = fault.OutOfMemory
fault_of_load (load.Stopped pass) = fault.Stopped pass
fault_of_load load.OutOfMemory = fault.OutOfMemory

-- the program's fault if a replay had this fault
abbrev pub fault_of_replay : ReplayFault → ProgramFault
fault_of_replay (replay.Make (made.Shape f)) = fault.BadShape f
fault_of_replay (replay.Make made.OutOfMemory) = fault.OutOfMemory
fault_of_replay replay.OutOfMemory = fault.OutOfMemory

-- the program's fault if a trace ended with this fault
abbrev pub fault_of_trace : TraceFault → ProgramFault
fault_of_trace trace.Read = fault.Read
fault_of_trace (trace.Line n why) = fault.BadRow n why
fault_of_trace trace.OutOfMemory = fault.OutOfMemory
fault_of_trace trace.TooLong = fault.TooLong

-- how the command `script` ends if its run ended so
abbrev pub end_of_run : Result (Unit {0}) RunFault → Result (Unit {0}) ProgramFault
end_of_run (Ok _) = Ok tt
end_of_run (Err f) = Err (fault_of_run f)

-- the line that the program prints
abbrev pub fault_line : ProgramFault → List ℕ
fault_line (fault.BadLine n) = codes "bad line " ++ decimal n ++ codes "\n"
fault_line (fault.BadRow n why) = codes "bad line " ++ decimal n ++ codes "\n"
fault_line fault.BadWord = codes "bad word\n"
fault_line fault.BadArguments = codes "bad arguments: not UTF-8\n"
fault_line (fault.BadShape f) = codes "bad shape " ++ decimal (fault_number f) ++ codes "\n"
fault_line fault.OutOfMemory = codes "out of memory\n"
fault_line fault.Read = codes "read failed\n"
fault_line fault.Write = codes "write failed\n"
fault_line fault.TooLong = codes "script too long\n"
fault_line (fault.Stopped pass) = codes "stopped pass " ++ decimal pass ++ codes "\n"

-- the status that the program ends with: 2 for a bad line, a bad word or bad arguments, else 3
abbrev pub fault_status : ProgramFault → ℕ
fault_status (fault.BadLine n) = 2
fault_status (fault.BadRow n why) = 2
fault_status fault.BadWord = 2
fault_status fault.BadArguments = 2
fault_status (fault.BadShape f) = 3
fault_status fault.OutOfMemory = 3
fault_status fault.Read = 3
fault_status fault.Write = 3
fault_status fault.TooLong = 3
fault_status (fault.Stopped pass) = 3

abbrev pub is_write_end : Result (Unit {0}) ProgramFault → Bool
is_write_end (Err fault.Write) = true
is_write_end _ = false
