-- The words of this crate that others use, from one place.
pub use Rattle.segread.specs.Gets.{disturbed, IsDisturbed, IsGetsAnswer, ReadsVersion}
pub use Rattle.segread.specs.Gets.{ReadsVersionBetween, PresentLocked}
pub use Rattle.segread.specs.Holds.{HoldsItem, IsHeldRow, IsHoldAnswer, IsHoldOf, ReadsHeld}
pub use Rattle.segread.specs.Holds.{ReadsRow, Releases, ReleasesHold, SetsHold}
pub use Rattle.segread.specs.Into.{CopiesGet, CopiesGets, HeldInto, Into, ReadsHeldInto}
pub use Rattle.segread.specs.Into.{ReadsInto, ReadsRowInto, ReadsVersionInto, VersionInto}
pub use Rattle.segread.specs.Props.{IsHeldRow-prop, IsHoldOf-prop}
pub use Rattle.segread.specs.Reads.{IsGetAnswer, ReadsBetween, ReadsKey}
pub use Rattle.segread.specs.Rows.{HoldsRow, IsKept, IsKept-prop, KeepsRow}
pub use Rattle.segread.specs.Scanning.{place_of}
use Rattle.segread.specs.declared.held.HeldRow as declared_held_row
use Rattle.segread.specs.declared.held.Hold as declared_hold
use Rattle.segread.specs.declared.held.HoldAnswer as declared_hold_answer
use Rattle.segread.specs.declared.held.RowAnswer as declared_row_answer
use Rattle.segread.specs.declared.into.GetsIntoAnswer as declared_gets_into_answer
use Rattle.segread.specs.declared.into.IntoAnswer as declared_into_answer

-- The types of this crate that others name.
abbrev pub Hold : Type 0
Hold = declared_hold.Hold

abbrev pub HoldAnswer : Type 0
HoldAnswer = declared_hold_answer.HoldAnswer

abbrev pub HeldRow : Type 0
HeldRow = declared_held_row.HeldRow

abbrev pub RowAnswer : Type 0
RowAnswer = declared_row_answer.RowAnswer

abbrev pub IntoAnswer : Type 0
IntoAnswer = declared_into_answer.IntoAnswer

abbrev pub GetsIntoAnswer : Type 0
GetsIntoAnswer = declared_gets_into_answer.GetsIntoAnswer
