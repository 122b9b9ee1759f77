-- The statuses of the program.
use Rattle.std.specs.Prelude.{ℕ}
use Rattle.segcli.specs.declared.status.ExitStatus.{ExitStatus}
use Rattle.segcli.specs.declared.status.ExitStatus.TheVariants as ended

-- the exit status of a program that ended so
abbrev pub status_code : ExitStatus → ℕ
status_code ended.Done = 0
status_code ended.BadInput = 2
status_code ended.Failed = 3
