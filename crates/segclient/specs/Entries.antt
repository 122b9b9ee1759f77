-- Which entries a put adds to the history, in the model's words.
use Rattle.std.specs.Prelude.{◌≡◌, ◌⊎◌, ℕ, List, ◌∷◌, ◌++◌, All, Option, Some, IsSome, count_by}
use Rattle.segword.specs.Words.{Shape}
use Rattle.segmodel.specs.declared.entry.Entry.TheVariants.{Wrote, Evicted, Moved, Refilled}
use Rattle.segmodel.specs.declared.request.Reply.TheVariants.{Stored}
use Rattle.segmodel.specs.Words.{Entry, owner, Request}
use Rattle.segtally.specs.Recycling.{is_eviction, is_move, is_refilling}
use Rattle.segclient.specs.declared.put.PutAnswer.{PutAnswer}
use Rattle.segclient.specs.declared.put.PutAnswer.TheVariants as put
use Rattle.segclient.specs.declared.effort.Effort.{Effort}

-- an eviction of a key from a segment of the pass's own,
-- or a refilling of one up to a deadline of these; or, if there is a cutoff,
-- a move of an item from one to another
abbrev pub IsOfRoom : Shape → ℕ → Option ℕ → (ℕ → Type 0) → Entry → Type 0
IsOfRoom shape pass cutoff IsDue entry =
    ((key : List ℕ) × (segment : ℕ) × (owner shape segment ≡ pass)
    × (entry ≡ Evicted pass key segment))
    ⊎ ((segment : ℕ) × (until : ℕ) × (owner shape segment ≡ pass) × IsDue until
    × (entry ≡ Refilled pass segment until))
    ⊎ (IsSome cutoff
    × ((key : List ℕ) × (from : ℕ) × (into : ℕ) × (owner shape from ≡ pass)
    × (owner shape into ≡ pass) × (entry ≡ Moved pass key from into)))

-- only this deadline, or any
abbrev pub IsOnly : ℕ → ℕ → Type 0
IsOnly deadline until = until ≡ deadline

abbrev pub IsAny : ℕ → Type 0
IsAny until = Unit {0}

-- the pass refilled so many segments of its own up to these deadlines, moved so many items from one to another,
-- and took so many keys out of them, and did nothing else that adds an entry
pub record AddsRoom (shape : Shape) (pass : ℕ) (cutoff : Option ℕ) (IsDue : ℕ → Type 0)
    (refilled kept keys : ℕ) (old new : List Entry) : Type 0 where
  pub more : List Entry
  pub of_room : All (IsOfRoom shape pass cutoff IsDue) more
  pub refillings : count_by is_refilling more ≡ refilled
  pub moves : count_by is_move more ≡ kept
  pub evictions : count_by is_eviction more ≡ keys
  pub entries : new ≡ more ++ old

-- A put adds entries that make room up to this deadline. If it is Stored, then comes the one of
-- its request, and at last those by which it clears a segment, up to any deadline. Any other put adds none of its request.
abbrev pub AddsForPut : Shape → ℕ → Option ℕ → Request → ℕ → PutAnswer → Effort → Effort
    → List Entry → List Entry → Type 0
AddsForPut shape pass cutoff request deadline put.Stored room cleared old new =
    (before : List Entry)
    × AddsRoom shape pass cutoff (IsOnly deadline) room.refilled room.kept room.keys old before
    × ((segment : ℕ)
    × AddsRoom shape pass cutoff IsAny cleared.refilled cleared.kept cleared.keys
    (Wrote pass request Stored (Some segment) ∷ before) new)
AddsForPut shape pass cutoff request deadline put.NoRoom room cleared old new =
    AddsRoom shape pass cutoff (IsOnly deadline) room.refilled room.kept room.keys old new
AddsForPut shape pass cutoff request deadline put.BucketFull room cleared old new =
    AddsRoom shape pass cutoff (IsOnly deadline) room.refilled room.kept room.keys old new
AddsForPut shape pass cutoff request deadline put.Busy room cleared old new =
    AddsRoom shape pass cutoff (IsOnly deadline) room.refilled room.kept room.keys old new
