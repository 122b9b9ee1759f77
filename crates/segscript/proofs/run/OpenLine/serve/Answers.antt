use Rattle.std.proofs.Common.{inr, [], refl, ◌∙◌}
use Rattle.segscript.proofs.Devices.{nonempty}
use Rattle.segscript.proofs.LineLemmas.{ServesLines-one, ServesLines-empty}
use Rattle.segscript.proofs.LineReadings.{may_say, not_read}
use Rattle.segscript.proofs.run.OpenLine.serve.Goals as goal

pub returns-then-is_empty-clause-outcome : goal.returns-then-is_empty-clause-outcome
returns-then-is_empty-clause-outcome g c =
    ([], g.met.W.Sink.takes_none c.args.writer.now, ServesLines-empty _ _ _ _ _ c.is_empty.ensures c.if-is_empty.true)

pub returns-in_default-clause-outcome : goal.returns-in_default-clause-outcome
returns-in_default-clause-outcome g c = (
  g.met.W.Sink.takes_none c.args.writer.now,
  refl,
  refl,
  inr (nonempty _ _ c.is_empty.ensures c.if-is_empty.false, not_read _ _ _ _ c.as_slice.ensures.value c.passes.ensures c.in_default.ensures),
)

pub returns-in-Ok-clause-outcome : goal.returns-in-Ok-clause-outcome
returns-in-Ok-clause-outcome g c = (
  c.as_slice-2.result.now,
  c.in-Ok.ensures.ok,
  ServesLines-one _ _ _ _ _ _ (c.in-Some.pass, c.in-Some.turn) c.turn-outcome.result (nonempty _ _ c.is_empty.ensures c.if-is_empty.false)
      (may_say _ _ _ _ _ c.as_slice.ensures.value c.passes.ensures c.in-Some.ensures) c.turn-outcome.ensures.turns (c.as_slice-2.ensures.value ∙ c.reply_of.ensures),
)

pub returns-in-Err-clause-outcome : goal.returns-in-Err-clause-outcome
returns-in-Err-clause-outcome g c = (
  c.in-Err.ensures.err.0,
  c.as_slice-2.result.now,
  c.in-Err.ensures.err.2,
  c.in-Err.ensures.err.1,
  ServesLines-one _ _ _ _ _ _ (c.in-Some.pass, c.in-Some.turn) c.turn-outcome.result (nonempty _ _ c.is_empty.ensures c.if-is_empty.false)
      (may_say _ _ _ _ _ c.as_slice.ensures.value c.passes.ensures c.in-Some.ensures) c.turn-outcome.ensures.turns (c.as_slice-2.ensures.value ∙ c.reply_of.ensures),
)
