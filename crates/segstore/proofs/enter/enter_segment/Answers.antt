use Rattle.std.proofs.Common.{arith}
use Rattle.segstore.proofs.Looks.{one_step}
use Rattle.segstore.proofs.enter.enter_segment.Goals as goal

pub returns-clause-enters : goal.returns-clause-enters
returns-clause-enters c = let e = c.enter.ensures in record {
  did = e.did;
  plain = e.step.1.plain;
  memo = e.step.1.memo;
  steps = (let one = one_step c.args.board.now c.args.pass.now c.enter.new.pass _ _ e.step.1 in omega (arith, one));
}
