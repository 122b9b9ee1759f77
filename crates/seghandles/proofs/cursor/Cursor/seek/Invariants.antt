use Rattle.std.proofs.Common.{List, length}
use Rattle.seghandles.specs.declared.cursor.Cursor.{Cursor}
use Rattle.seghandles.specs.Ending.{CloseInTurn}
use Rattle.seghandles.proofs.cursor.Cursor.seek.Given as goal

abbrev pub invariant-loop-self : goal.invariant-loop-self
invariant-loop-self l = (mids : List Cursor) × CloseInTurn mids l.fn.self l.self

abbrev pub decreases-loop-self : goal.decreases-loop-self
decreases-loop-self l = length l.self.homes.items
