use Rattle.std.proofs.Common.{◌∙◌}
use Rattle.segcli.proofs.program.refuse.Goals as goal

pub returns-in-Usage-clause-errors : goal.returns-in-Usage-clause-errors
returns-in-Usage-clause-errors g c = rw c.in-Usage.is (rw (c.as_bytes.ensures.value ∙ c.as_str.ensures.value) at c.print_after.ensures)

pub returns-in-OutOfMemory-clause-errors : goal.returns-in-OutOfMemory-clause-errors
returns-in-OutOfMemory-clause-errors g c = rw c.in-OutOfMemory.is c.report-in-OutOfMemory.ensures.errors

pub returns-in-BadArguments-clause-errors : goal.returns-in-BadArguments-clause-errors
returns-in-BadArguments-clause-errors g c = rw c.in-BadArguments.is c.report.ensures.errors
