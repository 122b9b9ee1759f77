use Rattle.std.proofs.Common.{◌≡◌, ℕ, ◌≤◌, Some}
use Rattle.segbase.specs.Words.{current_of}
use Rattle.segindex.specs.Words.{board_of}
use Rattle.segstore.specs.Words.{GoesOn}
use Rattle.segclient.specs.PutParts.{Arranges, effort_from, StoresAsBefore}
use Rattle.segclient.proofs.room.keep_rows.Given as goal

abbrev pub invariant-loop-row : goal.invariant-loop-row
invariant-loop-row l = record {
  on : GoesOn (board_of l.index) l.fn.pass l.pass;
  current : current_of l.pass ≡ current_of l.fn.pass;
  until : StoresAsBefore l.fn.pass l.pass;
  few : l.kept ≤ l.row;
  keeps : (deadline : ℕ) → Arranges (board_of l.index) (Some l.cutoff) deadline l.row (effort_from 0 l.kept 0) l.fn.pass l.pass;
}
