use Rattle.std.proofs.Common.{◌≡◌, ◌≤◌, ◌+◌, List, ℕ, take, false}
use Rattle.segscript.specs.Running.{HasServed}
use Rattle.segscript.proofs.Feeding.{Fed}
use Rattle.segscript.proofs.run.OpenLine.feed_all.Given as goal

abbrev pub invariant-loop-byte : goal.invariant-loop-byte
invariant-loop-byte g l = record {
  works : g.W.Sink.has_failed l.writer ≡ false;
  unflushed : g.W.Sink.flushes l.writer ≡ g.W.Sink.flushes l.fn.writer;
  shape : g.E.Engine.shape l.engine ≡ g.E.Engine.shape l.fn.engine;
  ready : g.E.Engine.is_ready l.engine;
  few : l.self.number ≤ l.fn.self.number + l.byte-index;
  fed : (start : g.row.E.Denot) (seen told : List ℕ) → HasServed (g.E.Engine.shape l.fn.engine).passes g.E.Engine.turns start l.fn.engine seen told l.fn.self.bytes l.fn.self.number →
      Fed (g.E.Engine.shape l.fn.engine).passes g.E.Engine.turns start g.W.Sink.takes l.fn.writer seen told (take l.byte-index l.bytes) l.writer l.engine l.self.bytes l.self.number;
}
