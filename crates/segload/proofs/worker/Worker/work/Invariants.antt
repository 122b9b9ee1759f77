use Rattle.std.proofs.Common.{◌≡◌, false}
use Rattle.segbase.specs.Words.{number}
use Rattle.segindex.specs.Words.{board_of}
use Rattle.segload.specs.Gates.{IsToldOf, LetsThrough}
use Rattle.segload.specs.Working.{IsAtWork}
use Rattle.segload.proofs.worker.Worker.work.Given as goal

abbrev pub invariant-loop-call : goal.invariant-loop-call
invariant-loop-call g l = record {
  at_work : IsAtWork (board_of l.index) l.fn.self.workload l.fn.self.client.pass l.call l.self;
  same : number l.self.client.pass ≡ number l.fn.self.client.pass;
  let_through : LetsThrough (g.G.Gate.may_answer l.gate) l.call l.pass;
  told_of : IsToldOf (g.G.Gate.told l.gate) l.call l.pass;
  runs : l.self.is_stopped ≡ false;
}
