-- What stood is read later, unless another value was stored since, or the key was taken out
-- or has expired. Each law is proved as the contract of a function in src/laws.rt.
use Rattle.std.specs.Prelude.{◌≡◌, ℕ, List, ◌∷◌, Some}
use Rattle.segword.specs.Words.{Shape}
use Rattle.segmodel.specs.declared.entry.Entry.TheVariants.{Wrote}
use Rattle.segmodel.specs.declared.request.Reply.TheVariants as reply
use Rattle.segmodel.specs.declared.answer.WriteAnswer.TheVariants as write
use Rattle.segmodel.specs.Words.{after, Begins, Entry, GetAnswer, key_of, Request, value_of}
use Rattle.segmodel.specs.Words.{value_under}
use Rattle.segcore.specs.Event as event
use Rattle.segcore.specs.Words.{Event}
use Rattle.segbase.specs.Words.{Board, Note, number, Pass, seen, seen_of, SinceFirst, StartsAt}
use Rattle.segread.specs.Words.{ReadsKey}
use Rattle.segwrite.specs.Words.{IsTold, Writes}
use Rattle.segindex.specs.Noting.{LearnsNote}
use Rattle.segindex.specs.Probing.{IsReadSince}

-- the value stood under the key after this history
abbrev pub Stood : Shape → List ℕ → List ℕ → List Entry → Type 0
Stood shape key value history = value_under (after shape history) key ≡ Some value

-- The request of this pass was Stored by an entry, in between two histories.
-- Right after it the value that it stores stood under its key.
pub record StoresBetween (shape : Shape) (pass : ℕ) (request : Request) (old new : List Entry)
    : Type 0 where
  pub segment : ℕ
  pub history : List Entry
  pub told : IsTold shape pass request reply.Stored (Some segment) old new history
  pub stood : Stood shape (key_of request) (value_of request)
      (Wrote pass request reply.Stored (Some segment) ∷ history)

-- A write that is Stored came in after the first step of its call, and its value stood right after.
abbrev pub StoredStands : Type 0
StoredStands = (b : Board) (request : Request) (p q : Pass)
    → Writes b request write.Stored p q
    → SinceFirst p q
    (λ start. StoresBetween b.shape (number p) request (event.seen start) (seen q))

-- What stood at a moment that a pass had seen is what its get reads, or a later value.
-- Or the key was taken out, or has expired, or the get is Busy.
abbrev pub StoodIsRead : Type 0
StoodIsRead = (b : Board) (key value : List ℕ) (draw now : ℕ) (told : GetAnswer)
    (stood : List Entry) (p q : Pass)
    → Stood b.shape key value stood
    → Begins stood (seen p)
    → ReadsKey b key draw now told p q
    → IsReadSince b.shape key value now told stood (seen p) (seen q)

-- What stood at a moment that the get's first step saw, whoever knew of it, is what the get
-- reads, or a later value. Or the key was taken out, or has expired, or the get is Busy.
-- By `every_schedule` that step has seen all that any call had seen which ended before.
abbrev pub SeenIsRead : Type 0
SeenIsRead = (b : Board) (key value : List ℕ) (draw now : ℕ) (told : GetAnswer)
    (stood : List Entry) (start : List Event) (p q : Pass)
    → Stood b.shape key value stood
    → StartsAt p q start
    → Begins stood (event.seen start)
    → ReadsKey b key draw now told p q
    → IsReadSince b.shape key value now told stood (event.seen start) (seen q)

-- The same is so of what stood at a moment that a note has, once the pass has learned the note.
abbrev pub NotedIsRead : Type 0
NotedIsRead = (b : Board) (note : Note) (key value : List ℕ) (draw now : ℕ) (told : GetAnswer)
    (stood : List Entry) (before learned p q : Pass)
    → Stood b.shape key value stood
    → Begins stood (seen_of note)
    → LearnsNote b note before learned
    → Begins (seen learned) (seen p)
    → ReadsKey b key draw now told p q
    → IsReadSince b.shape key value now told stood (seen p) (seen q)
