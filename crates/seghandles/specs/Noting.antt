-- What the exports of notes do.
use Rattle.std.specs.Prelude.{◌≡◌, ◌⊎◌, Bool, true, false, Option, Some, None}
use Rattle.std.specs.Global.{Vec}
use Rattle.segindex.specs.Words.{Note}
use Rattle.segclient.specs.Made.{Learns, Notes}
use Rattle.seghandles.specs.declared.client.SharedClient.{SharedClient}
use Rattle.seghandles.specs.declared.kept.Kept.{Kept}
use Rattle.seghandles.specs.declared.kept.Kept.TheVariants as kept
use Rattle.seghandles.specs.declared.status.Status.{Status}
use Rattle.seghandles.specs.declared.status.Status.TheVariants as status
use Rattle.seghandles.specs.All.{AreNotesFor, EachAnswers}
use Rattle.seghandles.specs.Exports.{ByClient, Returns}

-- the notes stand in their handle, unless the memory for it was refused
abbrev pub KeepsNotes : Vec Note → Status → Option Kept → Type 0
KeepsNotes notes returned next =
    ((returned ≡ status.Ok) × (next ≡ Some (kept.Note notes)))
    ⊎ ((returned ≡ status.OutOfMemory) × (next ≡ None))

-- memory for the list of notes was refused, and nothing was done
abbrev pub WritesNoNotes : Option Kept → Status → SharedClient → SharedClient → Type 0
WritesNoNotes next returned old new =
    (returned ≡ status.OutOfMemory) × (next ≡ None) × (new ≡ old)

-- The client made a note of each shard for an empty handle. A handle in use is as it was,
-- and nothing was done.
abbrev pub NotesInto : Option Kept → Option Kept → Status → SharedClient → SharedClient → Type 0
NotesInto None next returned old new =
    ((notes : Vec Note) × EachAnswers Notes notes.items old new × KeepsNotes notes returned next)
    ⊎ WritesNoNotes next returned old new
NotesInto (Some used) next returned old new =
    (returned ≡ status.NoHandle) × (next ≡ Some used) × (new ≡ old)

abbrev pub Noted : Option Kept → Option Kept → Option Kept → Option Kept → Status → Type 0
Noted before after note next returned =
    ByClient (λ why. Returns returned why × (next ≡ note)) (NotesInto note next returned)
    before after

-- if these are a client and notes, the notes were made by a client of the same cache
abbrev pub IsNoteFor : Option Kept → Option Kept → Type 0
IsNoteFor (Some (kept.Client client)) (Some (kept.Note notes)) = AreNotesFor client notes.items
IsNoteFor _ _ = Unit {0}

-- the client learned the notes of the handle, which is empty then; without one nothing was done
abbrev pub LearnsFrom : Option Kept → Option Kept → Status → SharedClient → SharedClient → Type 0
LearnsFrom (Some (kept.Note notes)) next returned old new =
    (returned ≡ status.Ok) × (next ≡ None) × EachAnswers Learns notes.items old new
LearnsFrom note next returned old new = (returned ≡ status.NoHandle) × (next ≡ note) × (new ≡ old)

abbrev pub Learned : Option Kept → Option Kept → Option Kept → Option Kept → Status → Type 0
Learned before after note next returned =
    ByClient (λ why. Returns returned why × (next ≡ note)) (LearnsFrom note next returned) before after

abbrev pub is_note : Kept → Bool
is_note (kept.Note note) = true
is_note _ = false

-- a handle with a note is empty then, and any other is as it was
abbrev pub FreesNote : Option Kept → Option Kept → Status → Type 0
FreesNote (Some (kept.Note note)) after returned = (returned ≡ status.Ok) × (after ≡ None)
FreesNote before after returned = (returned ≡ status.NoHandle) × (after ≡ before)
