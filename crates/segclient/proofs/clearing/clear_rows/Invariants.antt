use Rattle.std.proofs.Common.{◌*◌, ◌≤◌, Some}
use Rattle.segindex.specs.Words.{board_of, shape_of}
use Rattle.segstore.specs.Words.{GoesOn}
use Rattle.segclient.specs.Clearing.{ClearsAtMost, IsCleared, most_steps_of_turn}
use Rattle.segclient.proofs.clearing.clear_rows.Given as goal

abbrev pub invariant-loop-tried : goal.invariant-loop-tried
invariant-loop-tried l = record {
  on : GoesOn (board_of l.index) l.fn.pass l.pass;
  cleared : IsCleared (shape_of l.index) l.source l.pass;
  refilled : l.effort.refilled ≤ l.tried;
  kept : l.effort.kept ≤ l.tried;
  keys : l.effort.keys ≤ 4294967295 * l.tried;
  clears : ClearsAtMost (board_of l.index) (Some l.terms.least) (most_steps_of_turn * l.tried) l.effort l.fn.pass l.pass;
}
