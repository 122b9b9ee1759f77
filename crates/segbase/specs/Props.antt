-- Facts of passes and notes that have at most one proof, so that a struct may keep them in a ghost field.
use Rattle.std.specs.Prelude.{ℕ, List}
use Rattle.std.proofs.Props.{props}
use Rattle.atomic_table.specs.Seated.{table_id_coded}
use Rattle.segword.specs.Words.{IsValid-prop, Shape}
use Rattle.segmodel.specs.Words.{Begins, Begins-prop, IsStanding-prop}
use Rattle.segcore.specs.Words.{AllBy-prop, AreWithin-prop, Event, Event-set, IsLawful-prop}
use Rattle.segbase.specs.declared.law.Held.{Held}
use Rattle.segbase.specs.declared.law.Locked.{Locked}
use Rattle.segbase.specs.declared.law.Memo.{Memo}
use Rattle.segbase.specs.declared.board.Board.{Board}
use Rattle.segbase.specs.declared.note.Note.{Note}
use Rattle.segbase.specs.declared.pass.Pass.{Pass}
use Rattle.segbase.specs.Minding.{HasHeld, HasLocked, Minds}
use Rattle.segbase.specs.Notes.{IsNoteOf}
use Rattle.segbase.specs.Passes.{IsPassOf}

pub Held-set : IsSet Held
Held-set = hlevel (props, Event-set)

pub traces-prop : (old new : List Event) → IsProp (Begins old new)
traces-prop = Begins-prop (hlevel (props, Event-set))

HasHeld-prop : (shape : Shape) (trace : List Event) (held : Held)
    → IsProp (HasHeld shape trace held)
HasHeld-prop shape trace held = hlevel (traces-prop, IsStanding-prop)

HasLocked-prop : (shape : Shape) (trace : List Event) (pass : ℕ) (locked : Locked)
    → IsProp (HasLocked shape trace pass locked)
HasLocked-prop shape trace pass locked = hlevel (props, traces-prop)

Minds-prop : (shape : Shape) (trace : List Event) (pass : ℕ) (memo : Memo)
    → IsProp (Minds shape trace pass memo)
Minds-prop shape trace pass memo = hlevel (HasHeld-prop, HasLocked-prop)

pub IsPassOf-prop : (b : Board) (p : Pass) → IsProp (IsPassOf b p)
IsPassOf-prop b p =
    hlevel (props, table_id_coded, IsValid-prop, IsLawful-prop, AreWithin-prop, AllBy-prop, Minds-prop)

pub IsNoteOf-prop : (b : Board) (note : Note) → IsProp (IsNoteOf b note)
IsNoteOf-prop b note = hlevel (props, table_id_coded)
