use Rattle.std.proofs.Common.{◌≡◌, ℕ, false, ◌++◌, map, Some, slice_get}
use Rattle.std.specs.Vec.{vec_len}
use Rattle.segbase.specs.Words.{Pass}
use Rattle.segbase.specs.Passes.{IsPassOf, view}
use Rattle.segbase.proofs.board.Board.give_up.Given as goal

abbrev pub invariant-loop-pass : goal.invariant-loop-pass
invariant-loop-pass l = record {
  table : l.ended.table_id ≡ l.self.table.shared.table_id;
  off : l.ended.me.0.is_pass ≡ false;
  each : (place : ℕ) (p : Pass) → slice_get l.passes.items place ≡ Some p → IsPassOf l.self p;
  views : map view l.passes.items ++ l.ended.me.0.ended ≡ map view l.fn.passes.items;
}

abbrev pub decreases-loop-pass : goal.decreases-loop-pass
decreases-loop-pass l = vec_len l.passes
