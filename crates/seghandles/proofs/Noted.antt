-- A handle with a note, and one with anything else.
use Rattle.std.proofs.Common.{◌≡◌, is_none, true, false, Option, Some, None, refl, sym, subst, inl, inr}
use Rattle.std.proofs.lemmas.Bool.{false≢true}
use Rattle.std.specs.Global.{Vec}
use Rattle.segindex.specs.Words.{Note}
use Rattle.seghandles.specs.declared.client.SharedClient.{SharedClient}
use Rattle.seghandles.specs.declared.kept.Kept.{Kept}
use Rattle.seghandles.specs.declared.kept.Kept.TheVariants as kept
use Rattle.seghandles.specs.declared.status.Status.TheVariants as status
use Rattle.seghandles.specs.All.{EachAnswers}
use Rattle.seghandles.specs.declared.status.Status.{Status}
use Rattle.segclient.specs.Made.{Learns, Notes}
use Rattle.seghandles.specs.Noting.{FreesNote, is_note, KeepsNotes, LearnsFrom, NotesInto}

frees : (was : Kept) → is_note was ≡ true → FreesNote (Some was) None status.Ok
frees (kept.Note note) is = (refl, refl)
frees (kept.Cache cache) is = absurd (false≢true is)
frees (kept.Client client) is = absurd (false≢true is)
frees (kept.Cursor cursor) is = absurd (false≢true is)

leaves : (was : Kept) → is_note was ≡ false → FreesNote (Some was) (Some was) status.NoHandle
leaves (kept.Note note) is = absurd (false≢true (sym is))
leaves (kept.Cache cache) is = (refl, refl)
leaves (kept.Client client) is = (refl, refl)
leaves (kept.Cursor cursor) is = (refl, refl)

-- a note that was taken out, and anything else that was put back
pub freed : (before after : Option Kept) (was : Kept) → before ≡ Some was → after ≡ None → is_note was ≡ true → FreesNote before after status.Ok
freed before after was from into is =
    subst (λ (b : Option Kept). FreesNote b after status.Ok) (sym from) (subst (λ (a : Option Kept). FreesNote (Some was) a status.Ok) (sym into) (frees was is))

pub left : (before after : Option Kept) (was : Kept) → before ≡ Some was → after ≡ Some was → is_note was ≡ false → FreesNote before after status.NoHandle
left before after was from into is =
    subst (λ (b : Option Kept). FreesNote b after status.NoHandle) (sym from) (subst (λ (a : Option Kept). FreesNote (Some was) a status.NoHandle) (sym into) (leaves was is))

learns_none : (was : Kept) (guest : SharedClient) → is_note was ≡ false → LearnsFrom (Some was) (Some was) status.NoHandle guest guest
learns_none (kept.Note note) guest is = absurd (false≢true (sym is))
learns_none (kept.Cache cache) guest is = (refl, refl, refl)
learns_none (kept.Client client) guest is = (refl, refl, refl)
learns_none (kept.Cursor cursor) guest is = (refl, refl, refl)

-- the same for a client that was to learn it
pub not_learned : (before after : Option Kept) (was : Kept) (guest : SharedClient) → before ≡ Some was → after ≡ Some was → is_note was ≡ false → LearnsFrom before after status.NoHandle guest guest
not_learned before after was guest from into is =
    subst (λ (b : Option Kept). LearnsFrom b after status.NoHandle guest guest) (sym from)
    (subst (λ (a : Option Kept). LearnsFrom (Some was) a status.NoHandle guest guest) (sym into)
    (learns_none was guest is))

pub nothing_learned : (before after : Option Kept) (guest : SharedClient) → before ≡ None → after ≡ None → LearnsFrom before after status.NoHandle guest guest
nothing_learned before after guest from into =
    subst (λ (b : Option Kept). LearnsFrom b after status.NoHandle guest guest) (sym from) (refl, into, refl)

pub learned : (before after : Option Kept) (was : Kept) (notes : Vec Note) (old new : SharedClient)
    → before ≡ Some was → was ≡ kept.Note notes → after ≡ None → EachAnswers Learns notes.items old new
    → LearnsFrom before after status.Ok old new
learned before after was notes old new from is into learns =
    subst (λ (b : Option Kept). LearnsFrom b after status.Ok old new) (sym from) (subst (λ (k : Kept). LearnsFrom (Some k) after status.Ok old new) (sym is) (refl, into, learns))

-- notes that were made for an empty handle, or weren't for one in use, or for want of memory
pub noted : (before after : Option Kept) (returned : Status) (notes : Vec Note) (old new : SharedClient)
    → is_none before ≡ true → EachAnswers Notes notes.items old new → KeepsNotes notes returned after
    → NotesInto before after returned old new
noted None after returned notes old new is makes keeps = inl (notes, makes, keeps)
noted (Some used) after returned notes old new is makes keeps = absurd (false≢true is)

pub not_made : (before after : Option Kept) (guest new : SharedClient) → is_none before ≡ true → after ≡ before → new ≡ guest → NotesInto before after status.OutOfMemory guest new
not_made None after guest new is same still = inr (refl, same, still)
not_made (Some used) after guest new is same still = absurd (false≢true is)

pub not_noted : (before after : Option Kept) (guest : SharedClient) → is_none before ≡ false → after ≡ before → NotesInto before after status.NoHandle guest guest
not_noted None after guest is same = absurd (false≢true (sym is))
not_noted (Some used) after guest is same = (refl, same, refl)
