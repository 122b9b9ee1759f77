use Rattle.segindex.proofs.UnnamedRows.{evicted_is_unnamed, moved_is_unnamed, unnamed_stay}
use Rattle.segindex.proofs.laws.unnamed_rows_stay.Goals as goal

pub returns : goal.returns
returns c = record {
  stay = unnamed_stay;
  evicted = evicted_is_unnamed;
  moved = moved_is_unnamed;
}
