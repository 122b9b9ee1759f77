use Rattle.segcli.proofs.fault.print_after.Goals as goal

pub returns : goal.returns
returns g c = (c.print.result, c.print.ensures.outcome, c.print.ensures.failed)
