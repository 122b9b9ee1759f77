use Rattle.segcli.proofs.Printed.{both_printed, first_cut}
use Rattle.segcli.proofs.note.print_both.Goals as goal

pub returns-in_err-write_all-clause-outcome : goal.returns-in_err-write_all-clause-outcome
returns-in_err-write_all-clause-outcome g c =
    first_cut g.W.Sink g.met.W.Sink.takes_more _ _ c.args.first.now c.args.second.now c.from_residual.result c.from_residual.ensures.0 c.in_err-write_all.ensures.err c.in_err-write_all.ensures.flushes

pub returns-clause-outcome : goal.returns-clause-outcome
returns-clause-outcome g c =
    both_printed g.W.Sink g.met.W.Sink.takes_more _ _ _ c.args.first.now c.args.second.now c.print.result c.in_ok-write_all.ensures.ok c.in_ok-write_all.ensures.flushes c.print.ensures.outcome
