-- The words of this crate that others use, from one place.
pub use Rattle.segbase.specs.Closing.{AreAll, Closes, ClosesAll, HasEach, IsAtRest, shape_of}
pub use Rattle.segbase.specs.Closing.{word_of_cell}
pub use Rattle.segbase.specs.Made.{IsMade, IsMakeFault, IsNewPass, IsNewPlain, unfilled}
pub use Rattle.segbase.specs.Minding.{HasHeld, HasLocked, Minds}
pub use Rattle.segbase.specs.Notes.{IsNoteOf, marked_of, noted, seen_of}
pub use Rattle.segbase.specs.Passes.{AddsAtOnce, AddsEvents, count, HasStep, holding, IsMemo}
pub use Rattle.segbase.specs.Passes.{IsPassOf, locked, looks, marked, mine, number, Reads, ReadsIn}
pub use Rattle.segbase.specs.Passes.{seen, sight, SinceFirst, StartsAt, Stepped, TakesSteps, trace}
pub use Rattle.segbase.specs.Passes.{view}
pub use Rattle.segbase.specs.PlainPart.{current_of, deadline_in, deadline_of, is_holding_of}
pub use Rattle.segbase.specs.PlainPart.{locked_of, number_of, own_segment, rows_of, segments_of}
pub use Rattle.segbase.specs.PlainPart.{state_in, state_of, used_in, used_of, with_current}
pub use Rattle.segbase.specs.PlainPart.{with_deadline, with_holding, with_locked, with_own}
pub use Rattle.segbase.specs.PlainPart.{with_state, with_used}
pub use Rattle.segbase.specs.Props.{Held-set, IsNoteOf-prop, IsPassOf-prop, traces-prop}
pub use Rattle.segbase.specs.Spots.{cell_at, depth_of, home_bucket, home_bucket_of, home_in}
pub use Rattle.segbase.specs.Spots.{IsPlace, position}
pub use Rattle.segbase.specs.Steps.{AddsLink, AddsRelink, AddsUnlink, AsksReaders, content_for, CounterMissed}
pub use Rattle.segbase.specs.Steps.{depth_to_draw, Glances, has_bit, HasItemOf, home_at, IsFree}
pub use Rattle.segbase.specs.Steps.{IsItemPlace, IsWordOfContent, Missed, position_at, Takes, word_at}
pub use Rattle.segbase.specs.Traces.{IsReaderEvent, OnlyReads, own_of, StaysIn}
use Rattle.segbase.specs.declared.board.Board as declared_board
use Rattle.segbase.specs.declared.law.Held as declared_held
use Rattle.segbase.specs.declared.law.Locked as declared_locked
use Rattle.segbase.specs.declared.law.Memo as declared_memo
use Rattle.segbase.specs.declared.note.Note as declared_note
use Rattle.segbase.specs.declared.pass.OwnSegment as declared_own_segment
use Rattle.segbase.specs.declared.pass.Pass as declared_pass
use Rattle.segbase.specs.declared.place.Place as declared_place

-- The types of this crate that others name.
abbrev pub Board : Type 0
Board = declared_board.Board

abbrev pub Held : Type 0
Held = declared_held.Held

abbrev pub Locked : Type 0
Locked = declared_locked.Locked

abbrev pub Memo : Type 0
Memo = declared_memo.Memo

abbrev pub Note : Type 0
Note = declared_note.Note

abbrev pub OwnSegment : Type 0
OwnSegment = declared_own_segment.OwnSegment

abbrev pub Pass : Type 0
Pass = declared_pass.Pass

abbrev pub Place : Type 0
Place = declared_place.Place
