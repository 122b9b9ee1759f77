-- A note: what a pass had seen, on its way to another pass.
use Rattle.std.specs.Prelude.{◌≡◌, List, [], false}
use Rattle.segmodel.specs.Words.{Entry}
use Rattle.segcore.specs.Words.{Event, Mark}
use Rattle.segcore.specs.Event as event
use Rattle.segcore.specs.Mark as mark
use Rattle.segbase.specs.declared.note.Note.{Note}
use Rattle.segbase.specs.declared.board.Board.{Board}

-- all events that the pass had seen when the note was made
abbrev pub noted : Note → List Event
noted note = note.seat.me.0.view.trace

-- the history that it had seen, with marks and without
abbrev pub marked_of : Note → List Mark
marked_of note = mark.marked (noted note)

abbrev pub seen_of : Note → List Entry
seen_of note = event.seen (noted note)

-- the note was made of a pass of this board
pub record IsNoteOf (b : Board) (note : Note) : Type 0 where
  pub table : note.seat.table_id ≡ b.table.shared.table_id
  pub bare : note.seat.me.1 ≡ []
  pub is_pass : note.seat.me.0.is_pass ≡ false
  pub ended : note.seat.me.0.ended ≡ []
