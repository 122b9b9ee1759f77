-- The words of this crate that others use, from one place.
pub use Rattle.segcore.specs.Ahead.{WasGone}
pub use Rattle.segcore.specs.Bucket.{acts, Bucket, bucket_after, bucket_at, Content, copy}
pub use Rattle.segcore.specs.Bucket.{fresh_position, is, IsPosition, item, last, next, nothing}
pub use Rattle.segcore.specs.Bucket.{Slot, slot}
pub use Rattle.segcore.specs.Count.{bounced, count, Counted, drew, entered, glanced, is_counted}
pub use Rattle.segcore.specs.Count.{raised, taken}
pub use Rattle.segcore.specs.Event.{AllBy, by, entry_of, NoneBy, removal, seen, with_entry}
pub use Rattle.segcore.specs.Filled.{HasNoEmptyWord}
pub use Rattle.segcore.specs.ItemWord.{IsWordOf, packed}
pub use Rattle.segcore.specs.Kind.{adds, becomes, bump, cell, chain, clear, draw, enter, fill}
pub use Rattle.segcore.specs.Kind.{glance, HasBit, info_look, leave, link, look, May, MayRead}
pub use Rattle.segcore.specs.Kind.{none_reading, release, relink, row_load, row_store, Step, take}
pub use Rattle.segcore.specs.Kind.{IsRowOf, told, unless_own}
pub use Rattle.segcore.specs.Lawful.{Fits, HasItemOf, HoldsWhatStands, is_of_now, IsLawful, IsOther}
pub use Rattle.segcore.specs.Lawful.{AreOwnRows, IsOwnRow, IsRefusal, IsSegment, needs, NoneAt}
pub use Rattle.segcore.specs.Mark.{all_drawn, chained_to, drawn, drawn_for, enters, entries}
pub use Rattle.segcore.specs.Mark.{frequency_in, last_at, linked_in, Mark, marked, width}
unfoldable pub use Rattle.segcore.specs.Mark.{same_key}
pub use Rattle.segcore.specs.Overflow.{drawn_in, Home, home, home_of}
pub use Rattle.segcore.specs.Props.{AllBy-prop, AreWithin-prop, Event-set, IsLawful-prop}
pub use Rattle.segcore.specs.Props.{NoneAt-prop, NoneRefills-prop}
pub use Rattle.segcore.specs.Row.{frequency_of, Holds, is_of_row, Row, row_after, row_alone, row_at}
pub use Rattle.segcore.specs.Row.{span_in, words_on, writes_row}
pub use Rattle.segcore.specs.Run.{IsRun, IsSeenRun, IsSeenStep, IsSeenWorld, IsStepOf}
pub use Rattle.segcore.specs.Search.{KeyAhead, KeyAt, KeyGone, RowAt, RowGone}
pub use Rattle.segcore.specs.Segment.{inside, NoneRefills, readers, was_used}
pub use Rattle.segcore.specs.Standing.{cached, ChainsOn, IsOfKey, Names}
pub use Rattle.segcore.specs.Within.{AreWithin, LinksWithin}
pub use Rattle.segcore.specs.Word.{address, bit_of, content_word, IsAt, IsCell, IsItemAt}
pub use Rattle.segcore.specs.Word.{segment_size, segments_at, word}
pub use Rattle.segcore.specs.World.{IsLawfulWorld, Knows, Lawful, steps_of, Told, World}
use Rattle.segcore.specs.declared.cell.Cell as declared_cell
use Rattle.segcore.specs.declared.event.Event as declared_event
use Rattle.segcore.specs.declared.event.Leaving as declared_leaving
use Rattle.segcore.specs.declared.view.View as declared_view

-- The types of this crate that others name.
abbrev pub Cell : Type 0
Cell = declared_cell.Cell

abbrev pub Event : Type 0
Event = declared_event.Event

abbrev pub Leaving : Type 0
Leaving = declared_leaving.Leaving

abbrev pub View : Type 0
View = declared_view.View
