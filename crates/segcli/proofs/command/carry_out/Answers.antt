use Rattle.segcli.proofs.command.carry_out.Goals as goal

pub returns : goal.returns
returns g c = record { outcome = (c.perform-end.new.writer, c.perform-end.result, c.perform-end.ensures, c.conclude.ensures) }
