-- What a get answers: what a cache of one thread answers at some moment of the call.
-- What a get changes and costs.
use Rattle.std.specs.Prelude.{◌≡◌, ℕ, ◌≤◌, List, Option, Some, None}
use Rattle.segword.specs.Words.{Shape}
use Rattle.segmodel.specs.declared.answer.GetAnswer.TheVariants as get
use Rattle.segmodel.specs.Words.{after, Entry, GetAnswer, IsBetween, reads, stirred}
use Rattle.segcore.specs.Event as event
use Rattle.segbase.specs.Words.{Board, Pass, seen, SinceFirst}
use Rattle.segstore.specs.Words.{ChangesNothing, GoesOn}
use Rattle.segread.specs.Costs.{CostsOfGet}

-- ---- readers

-- at some moment from one history to a longer one, a get of the key reads this value, or nothing
abbrev pub ReadsBetween : Shape → List ℕ → ℕ → List Entry → List Entry → Option (List ℕ) → Type 0
ReadsBetween shape key now old new read =
    (history : List Entry)
    × IsBetween old new history
    × (reads (after shape history) now key ≡ read)

-- A get answers as a cache of one thread does at some moment from one history to a longer one.
-- It is Busy only if 64 entries of the key's bucket came in meanwhile.
abbrev pub IsGetAnswer : Shape → List ℕ → ℕ → GetAnswer → List Entry → List Entry → Type 0
IsGetAnswer shape key now (get.Found value) old new =
    ReadsBetween shape key now old new (Some value)
IsGetAnswer shape key now get.Miss old new = ReadsBetween shape key now old new None
IsGetAnswer shape key now get.Busy old new = 64 ≤ stirred shape key old new

-- A get of a key has this answer, and changes nothing.
-- The moment of the answer, and the entries of a Busy one, came in after the call's first step.
pub record ReadsKey (b : Board) (key : List ℕ) (draw now : ℕ) (told : GetAnswer) (p q : Pass)
    : Type 0 where
  pub on : GoesOn b p q
  pub keeps : ChangesNothing p q
  pub answer : SinceFirst p q
      (λ start. IsGetAnswer b.shape key now told (event.seen start) (seen q))
  pub costs : CostsOfGet b.shape key draw told p q
