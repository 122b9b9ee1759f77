use Rattle.segcli.proofs.Printed.{flushed}
use Rattle.segcli.proofs.fault.print.Goals as goal

pub returns-clause-outcome : goal.returns-clause-outcome
returns-clause-outcome g c = flushed g.W.Sink g.met.W.Sink.takes_more _ _ _ _ c.flush.result
    c.in_ok-write_all.ensures.ok c.in_ok-write_all.ensures.flushes c.flush.ensures.bytes c.flush.ensures.flushes
