use Rattle.std.proofs.Common.{ℕ, arith, length-drop, ◌∙◌}
use Rattle.std.proofs.lemmas.List.{take_all}
use Rattle.segscript.proofs.Devices.{stops, goes_on, not_zero, none_taken, nonempty}
use Rattle.segscript.proofs.device.write_all.Goals as goal

pub loop-rest-preserved : goal.loop-rest-preserved
loop-rest-preserved g c = (
  c.in-Ok.ensures.failed ∙ not_zero c.in-Ok.taken c.if-taken-gt0.true,
  c.write.ensures.flushes ∙ c.loop-rest.invariant.1,
  goes_on g.W.Sink.takes g.met.W.Sink.takes_more _ _ _ _ _ _ _ c.loop-rest.invariant.2 c.in-Ok.ensures.bytes (take_all _ _ (omega (arith, length-drop {A = ℕ}))),
)

pub returns-in_default-clause-err : goal.returns-in_default-clause-err
returns-in_default-clause-err g c =
    stops g.W.Sink.takes g.met.W.Sink.takes_more _ _ _ _ _ c.loop-rest.invariant.2
    (nonempty _ _ c.is_empty.ensures c.loop-rest-test.true)
    (none_taken g.W.Sink.takes g.met.W.Sink.takes_more _ _ _ _ c.if-taken-gt0.false c.in-Ok.ensures.bytes)

pub returns-in_default-2-clause-err : goal.returns-in_default-2-clause-err
returns-in_default-2-clause-err g c = stops g.W.Sink.takes g.met.W.Sink.takes_more _ _ _ _ _ c.loop-rest.invariant.2 (nonempty _ _ c.is_empty.ensures c.loop-rest-test.true) c.in_default.ensures.err
