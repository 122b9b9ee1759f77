-- The words of this crate that others use, from one place.
pub use Rattle.segevict.specs.Crowded.{FindsOwn}
pub use Rattle.segevict.specs.EvictedRow.{EvictsItem, IsEvictRowAnswer, TakesKeyOut}
pub use Rattle.segevict.specs.Evicting.{AreEvictions, ended, EvictsRest, EvictsSegment}
pub use Rattle.segevict.specs.Evicting.{IsEvictAnswer, TakesOut}
pub use Rattle.segevict.specs.Frequencies.{HadFrequency, HadThen, WasOften, WasSeldom}
pub use Rattle.segevict.specs.Keeping.{AreMoves, AreSeldom, GoesInOrder, GoesOver, IsKeepAnswer}
pub use Rattle.segevict.specs.Keeping.{KeepsItems, MovesAway, MovesItems}
pub use Rattle.segevict.specs.KeptRows.{LacksBit, LacksRoom, LeavesItsItem, MovesItsItem}
pub use Rattle.segevict.specs.Naming.{AreNamed, AreUnnamed, CountsRows, IsNamed, own_at}
pub use Rattle.segevict.specs.Naming.{sum_below, SumsUp, Tallies, used_at, WasNamed}
pub use Rattle.segevict.specs.OneRow.{CarriesItem, IsKeepRowAnswer, IsKeepRowIntoAnswer}
pub use Rattle.segevict.specs.OneRow.{KeepsItem, KeepsItemInto, KeepsTo}
pub use Rattle.segevict.specs.Rows.{HasRow}
pub use Rattle.segevict.specs.Spans.{TellsSpan}
pub use Rattle.segevict.specs.Target.{has_room_in, has_rows_in, IsKeepTarget, IsMoveTarget}
pub use Rattle.segevict.specs.Target.{UsesRows}
pub use Rattle.segevict.specs.Tries.{IsInTheWay, StoodIn}
