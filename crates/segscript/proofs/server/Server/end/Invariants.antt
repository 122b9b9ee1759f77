use Rattle.std.proofs.Common.{◌≡◌, ◌≤◌, length}
use Rattle.segindex.specs.Words.{board_of, shape_of}
use Rattle.segscript.specs.Passes.{AreInOrder}
use Rattle.segscript.proofs.Leaving.{LeftFrom}
use Rattle.segscript.proofs.Servers.{NoneKeepsFrom}
use Rattle.segscript.proofs.server.Server.end.Given as goal

abbrev pub invariant-loop-hold : goal.invariant-loop-hold
invariant-loop-hold l = record {
  all : length l.passes.items ≡ (shape_of l.fn.self.index.now).passes;
  few : length l.holds.items ≤ length l.passes.items;
  in_order : AreInOrder (board_of l.fn.self.index.now) l.passes.items l.holds.items;
  left : NoneKeepsFrom (length l.holds.items) l.passes.items;
  leave : LeftFrom (board_of l.fn.self.index.now) (length l.holds.items) l.fn.self.passes.items l.passes.items;
}

abbrev pub decreases-loop-hold : goal.decreases-loop-hold
decreases-loop-hold l = goal.left-loop-hold l
