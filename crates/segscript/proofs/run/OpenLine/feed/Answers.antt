use Rattle.std.proofs.Common.{[], append-nil}
use Rattle.segscript.proofs.LineLemmas.{at_byte, at_end, too_long, feed-fault}
use Rattle.segscript.proofs.run.OpenLine.feed.Goals as goal

pub returns-in-NoRoom-clause-outcome : goal.returns-in-NoRoom-clause-outcome
returns-in-NoRoom-clause-outcome g c = λ start seen told here.
    ([], g.met.W.Sink.takes_none c.args.writer.now, too_long _ _ _ _ _ _ _ _ _ here c.in-NoRoom.ensures.0 c.in-NoRoom.ensures.1)

pub returns-in-Kept-clause-outcome : goal.returns-in-Kept-clause-outcome
returns-in-Kept-clause-outcome g c = λ start seen told here.
    ([], g.met.W.Sink.takes_none c.args.writer.now, rw (append-nil, c.in-Kept.ensures.2) (at_byte _ _ _ _ _ _ _ _ _ here c.in-Kept.ensures.0 c.in-Kept.ensures.1))

pub returns-in-Ok-clause-outcome : goal.returns-in-Ok-clause-outcome
returns-in-Ok-clause-outcome g c = λ start seen told here.
    let out = rw c.in-End.ensures.1 at c.in-Ok.ensures.outcome in
    (out.0, out.1, rw (c.in-End.ensures.0, c.clear.ensures) (at_end _ _ start _ _ seen told out.0 _ _ here out.2))

pub returns-in-Err-clause-outcome : goal.returns-in-Err-clause-outcome
returns-in-Err-clause-outcome g c = λ start seen told here.
    feed-fault _ _ start _ c.serve.new.engine _ seen told _ c.take.new.self _ c.args.self.now.number _ c.in-Err.fault
    c.in-End.ensures.0 (rw c.in-End.ensures.1 here) c.in-Err.ensures.outcome
