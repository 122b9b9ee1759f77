-- The passes of an index between turns, each with the hold that is kept beside it,
-- and the turns that they take.
use Rattle.std.specs.Prelude.{◌≡◌, ◌≢◌, ℕ, List, [], ◌∷◌, Option, Some, None, length, slice_get}
use Rattle.segword.specs.Words.{Shape}
use Rattle.segmodel.specs.Words.{Begins, fresh, Outcome, State, Turn}
use Rattle.segmodel.specs.declared.answer.Turn.TheVariants as turn
use Rattle.segbase.specs.Words.{Board, holding, marked, number, Pass, seen}
use Rattle.segstore.specs.Words.{GoesOn, IsQuiet}
use Rattle.segread.specs.Words.{Hold, IsHoldOf}
use Rattle.segindex.specs.Meeting.{MeetsPass, OnlyLearns}
use Rattle.segsolo.specs.Words.{IsAlone, state_at, TurnsAlone}
use Rattle.segscript.specs.Spelling.{PassTurn}
use Rattle.segscript.specs.Told.{IsOutcomeOfCall}

-- The hold that is kept is the one that the pass has.
abbrev pub IsHoldKept : Shape → Option Hold → Pass → Type 0
IsHoldKept shape None p = holding p ≡ None
IsHoldKept shape (Some hold) p = IsHoldOf shape hold p

-- Between turns a pass is quiet, and its hold is kept.
-- If the index has one pass, that pass is alone.
pub record IsIdle (b : Board) (kept : Option Hold) (p : Pass) : Type 0 where
  pub quiet : IsQuiet b p
  pub hold : IsHoldKept b.shape kept p
  pub alone : b.shape.passes ≡ 1 → IsAlone b p

-- Each pass is idle, and stands at the place of its number.
-- Its hold is at the same place of the other list.
abbrev pub AreInOrder : Board → List Pass → List (Option Hold) → Type 0
AreInOrder b passes holds = (n : ℕ) (p : Pass) (hold : Option Hold)
    → slice_get passes n ≡ Some p
    → slice_get holds n ≡ Some hold
    → IsIdle b hold p × (number p ≡ n)

-- the state of the model that the first pass is at
abbrev pub first_state : Shape → List Pass → State
first_state shape [] = fresh shape
first_state shape (p ∷ passes) = state_at shape p

-- The pass took the turn, and its outcome is the answer of one call.
-- If the pass was alone, the turn was served as the model says.
pub record TakesTurn (b : Board) (turn : Turn) (outcome : Outcome) (p q : Pass) : Type 0 where
  pub goes_on : GoesOn b p q
  pub tells : IsOutcomeOfCall b turn outcome p q
  pub alone : IsAlone b p → TurnsAlone b turn outcome p q

-- The pass took two turns, which end what it held and what it had locked:
-- a release, and then an unlock. It did nothing else.
pub record Leaves (b : Board) (p q : Pass) : Type 0 where
  pub between : Pass
  pub released : Outcome
  pub unlocked : Outcome
  pub releases : TakesTurn b turn.Release released p between
  pub unlocks : TakesTurn b turn.Unlock unlocked between q

-- The new list has the passes of the old one, each at its place and after it left.
pub record AllLeave (b : Board) (old new : List Pass) : Type 0 where
  pub long : length new ≡ length old
  pub each : (n : ℕ) (p : Pass)
      → slice_get old n ≡ Some p
      → (q : Pass) × (slice_get new n ≡ Some q) × Leaves b p q

-- All that the one pass has seen, the other has seen too.
abbrev pub IsSeenBy : Pass → Pass → Type 0
IsSeenBy p q = Begins (marked p) (marked q) × Begins (seen p) (seen q)

-- All that any of the passes has seen, this one has seen too.
abbrev pub SeesAllOf : List Pass → Pass → Type 0
SeesAllOf passes q = (n : ℕ) (p : Pass) → slice_get passes n ≡ Some p → IsSeenBy p q

-- The new list has the passes of the old one, each at its place.
-- They did nothing, but may have seen more.
abbrev pub OnlyLearn : Board → List Pass → List Pass → Type 0
OnlyLearn b old new = (n : ℕ) (p : Pass)
    → slice_get old n ≡ Some p
    → (q : Pass) × (slice_get new n ≡ Some q) × OnlyLearns b p q

-- The passes at two places met, and the others are as they were.
pub record HaveMet (b : Board) (first second : ℕ) (old new : List Pass) : Type 0 where
  pub one : Pass
  pub other : Pass
  pub one' : Pass
  pub other' : Pass
  pub long : length new ≡ length old
  pub was_first : slice_get old first ≡ Some one
  pub was_second : slice_get old second ≡ Some other
  pub is_first : slice_get new first ≡ Some one'
  pub is_second : slice_get new second ≡ Some other'
  pub meets : MeetsPass b one other one' other'
  pub others : (n : ℕ) → n ≢ first → n ≢ second → slice_get new n ≡ slice_get old n

-- The passes only learned something.
-- If the pass at `last` had seen all that any of them had,
-- the one at `place` now has seen all that any has.
pub record CatchesUp (b : Board) (last place : ℕ) (old new : List Pass) : Type 0 where
  pub long : length new ≡ length old
  pub learn : OnlyLearn b old new
  pub sees : (p q : Pass)
      → slice_get old last ≡ Some p
      → slice_get new place ≡ Some q
      → SeesAllOf old p
      → SeesAllOf new q
  pub stays : last ≡ place → new ≡ old

-- The pass of this number took the turn, and the others did nothing.
-- Before the turn the pass had seen all that any of them had seen.
pub record OneTakes (b : Board) (old : List Pass) (said : PassTurn) (outcome : Outcome)
    (new : List Pass) : Type 0 where
  pub met : List Pass
  pub before : Pass
  pub after : Pass
  pub learn : OnlyLearn b old met
  pub was : slice_get met said.0 ≡ Some before
  pub sees : SeesAllOf old before
  pub takes : TakesTurn b said.1 outcome before after
  pub is : slice_get new said.0 ≡ Some after
  pub others : (other : ℕ) → other ≢ said.0 → slice_get new other ≡ slice_get met other
