use Rattle.std.proofs.Common.{◌≡◌, ◌≤◌, ◌+◌, ◌-◌, ◌^◌, false, length}
use Rattle.segscript.proofs.Going.{Going}
use Rattle.segscript.proofs.run.run.Given as goal

abbrev pub invariant-loop-total : goal.invariant-loop-total
invariant-loop-total g l = record {
  reads : g.R.Source.has_failed l.reader ≡ false;
  writes : g.W.Sink.has_failed l.writer ≡ false;
  unended : g.R.Source.ends l.reader ≡ g.R.Source.ends l.fn.reader;
  unflushed : g.W.Sink.flushes l.writer ≡ g.W.Sink.flushes l.fn.writer;
  shape : g.E.Engine.shape l.engine ≡ g.E.Engine.shape l.fn.engine;
  ready : g.E.Engine.is_ready l.engine;
  few : l.line.number ≤ l.total + 1;
  most : l.total ≤ 2 ^ 63;
  buffer : length l.piece ≡ 4096;
  going : Going (g.E.Engine.shape l.fn.engine).passes g.E.Engine.turns l.fn.engine l.engine g.R.Source.hands
      g.W.Sink.takes l.fn.reader l.reader l.fn.writer l.writer l.total l.line.bytes l.line.number;
}

abbrev pub decreases-loop-total : goal.decreases-loop-total
decreases-loop-total g l = 2 ^ 63 - l.total
