use Rattle.std.proofs.Common.{ap}
use Rattle.segcore.specs.Event as event
use Rattle.segcore.specs.Mark as mark
use Rattle.segindex.proofs.index.Index.copy_note.Goals as goal

pub returns : goal.returns
returns c =
    let made = c.copy_note.ensures in
    record {
      copies = record {
        of = made.old.0;
        of_copy = made.copy.0;
        marked = (ap mark.marked made.old.1, ap mark.marked made.copy.1);
        seen = (ap event.seen made.old.1, ap event.seen made.copy.1);
      };
    }
