use Rattle.std.proofs.Common.{◌≡◌}
use Rattle.segindex.specs.Words.{board_of}
use Rattle.segstore.specs.Words.{GoesOn}
use Rattle.segclient.specs.PutCalls.{Makes}
use Rattle.segclient.specs.PutParts.{busy_sets, plan_of}
use Rattle.segclient.proofs.put.set_while_busy.Given as goal

abbrev pub invariant-loop-tries : goal.invariant-loop-tries
invariant-loop-tries l = record {
  on : GoesOn (board_of l.index) l.fn.pass l.pass;
  busy : Makes (board_of l.index) (plan_of l.order) (busy_sets l.tries) l.fn.pass l.pass;
  plain : l.pass.plain ≡ l.fn.pass.plain;
}
