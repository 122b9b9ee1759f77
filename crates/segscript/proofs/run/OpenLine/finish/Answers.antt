use Rattle.std.proofs.Common.{[], ◌++◌, append-nil, ap, inr, ◌∙◌}
use Rattle.segscript.specs.Device.{one_more}
use Rattle.segscript.proofs.LineLemmas.{finish_text, finish-fault}
use Rattle.segscript.proofs.run.OpenLine.finish.Goals as goal

pub returns-in-Err-clause-outcome : goal.returns-in-Err-clause-outcome
returns-in-Err-clause-outcome g c = λ start seen told here.
    finish-fault _ _ start _ c.serve.new.engine _ _ _ seen told c.args.self.now.bytes c.args.self.now.number c.in-Err.fault c.in-Err.ensures.flushes here c.in-Err.ensures.outcome

pub returns-in-Ok-clause-outcome : goal.returns-in-Ok-clause-outcome
returns-in-Ok-clause-outcome g c = λ start seen told here.
    let out = c.in_default.ensures.outcome in (
      out.0 ++ [],
      g.met.W.Sink.takes_more _ _ _ _ _ out.1 c.in-Ok.ensures.bytes,
      c.in-Ok.ensures.flushes ∙ ap one_more c.in_default.ensures.flushes,
      rw append-nil (finish_text _ _ start _ seen told out.0 _ _ _ here out.2),
    )

pub returns-in-Err-flush-clause-outcome : goal.returns-in-Err-flush-clause-outcome
returns-in-Err-flush-clause-outcome g c = λ start seen told here.
    let out = c.in_default.ensures.outcome in (
      out.0 ++ [],
      g.met.W.Sink.takes_more _ _ _ _ _ out.1 c.in-Err-flush.ensures.bytes,
      inr (c.in-Err-flush.ensures.flushes ∙ ap one_more c.in_default.ensures.flushes, rw append-nil (finish_text _ _ start _ seen told out.0 _ _ _ here out.2)),
    )
