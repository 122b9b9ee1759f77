-- The words of this crate that others use, from one place.
pub use Rattle.segindex.specs.Ahead.{LooksAhead}
pub use Rattle.segindex.specs.Closing.{AreAllQuiet, IsContentOfAll, IsEnd, IsEndOfAll, pairs_of}
pub use Rattle.segindex.specs.Commands.{AnswersCommand}
pub use Rattle.segindex.specs.Currents.{MakesCurrent, storing_into}
pub use Rattle.segindex.specs.Index.{board_of, IsNew, shape_of}
pub use Rattle.segindex.specs.LaterReads.{NotedIsRead, StoodIsRead, StoredStands, Stood, StoresBetween}
pub use Rattle.segindex.specs.Meeting.{Meets, MeetsPass}
pub use Rattle.segindex.specs.Noting.{CopiesNote, LearnsNote, MakesNote}
pub use Rattle.segindex.specs.Probing.{IsReadSince}
pub use Rattle.segindex.specs.Refilling.{IsBeingRead, IsRefillAnswer, Refills, RefillsAside}
pub use Rattle.segindex.specs.Sharing.{ReadsKept, ReadsKeptInto, ReleasesKept}
pub use Rattle.segindex.specs.Stats.{ReturnsStats}
pub use Rattle.segindex.specs.UnnamedRows.{EvictedIsUnnamed, MovedIsUnnamed, UnnamedStay}
pub use Rattle.segbase.specs.Words.{IsNoteOf, IsNoteOf-prop, Note, number, Pass, seen, seen_of}
pub use Rattle.segstore.specs.Words.{IsQuiet, IsQuiet-prop}
pub use Rattle.segread.specs.Words.{IsHoldOf, IsHoldOf-prop}
use Rattle.segindex.specs.declared.index.Index as declared_index

-- The types of this crate that others name.
abbrev pub Index : Type 0
Index = declared_index.Index
