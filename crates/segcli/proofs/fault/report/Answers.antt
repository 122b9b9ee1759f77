use Rattle.std.proofs.Common.{◌∙◌}
use Rattle.segcli.proofs.fault.report.Goals as goal

pub returns-clause-errors : goal.returns-clause-errors
returns-clause-errors g c = rw (c.as_slice.ensures.value ∙ c.line.ensures) at c.print_after.ensures
