-- What a load returns.
use Rattle.std.specs.Prelude.{◌≡◌, ℕ, ◌<◌, Bool, List, length, slice_get, Some}
use Rattle.segword.specs.Words.{IsValid, Shape}
use Rattle.segmodel.specs.Words.{after, Cache, Entry, mine}
use Rattle.segbase.specs.Words.{Board, IsMakeFault, IsNewPass, Pass}
use Rattle.segindex.specs.Words.{AnswersCommand, IsEndOfAll, ReturnsStats}
use Rattle.segpolicy.specs.Words.{draws_of}
use Rattle.segload.specs.declared.fault.LoadFault.{LoadFault}
use Rattle.segload.specs.declared.fault.LoadFault.TheVariants.{Make, Stopped, OutOfMemory}
use Rattle.segload.specs.declared.totals.PassTotals.{PassTotals}
use Rattle.segload.specs.declared.totals.Totals.{Totals}
use Rattle.segload.specs.Gates.{IsToldOf, LetsThrough, RanToEnd, Stops, WentThrough}
use Rattle.segload.specs.Counting.{all_of, CountsRecycled, CountsReplies}
use Rattle.segload.specs.Making.{ClientState, Makes, start_of}
use Rattle.segload.specs.Calls.{MakesCalls}

-- The tallies of a pass count `asked` commands, each once.
-- These are the first ones of the pass's workload.
-- The workload is drawn with the seed from the stream of the pass's number, over so many keys.
-- Each command is the calls of the index that it names.
-- They lead from a new pass to the pass `done`. One look at the table leads from there to this one.
-- The commands make the tallies and the pass's own entries in the history.
-- The five tallies of replies count the pass's own writes there.
-- Evictions and refillings are as many as the pass's own entries of these kinds.
pub record CountsCommands (b : Board) (seed keys asked pass : ℕ) (history : List Entry)
    (last : Pass) (totals : PassTotals) : Type 0 where
  pub commands : totals.commands ≡ asked
  pub all : all_of totals.tallies ≡ asked
  pub replies : CountsReplies totals.tallies (mine pass history)
  pub recycled : CountsRecycled totals.recycled (mine pass history)
  pub first : Pass
  pub new : IsNewPass b pass first
  pub course : ClientState
  pub done : Pass
  pub calls : MakesCalls (AnswersCommand b) (draws_of seed pass keys) (start_of b.shape pass) first
      asked totals.tallies course done
  pub table : ReturnsStats b totals.table done last
  pub made : Makes b.shape history pass (draws_of seed pass keys) asked totals.tallies course
      (mine pass history)

-- how many keys stand
abbrev pub keys_of : Cache → ℕ
keys_of cache = length cache.items

-- What was done to a new board of this shape, by all its passes.
-- At the end they are these, in the order of their numbers.
-- The history is the longest that any of them has seen. It is legal.
-- It has the entries of all passes, and none of anyone else.
-- The calls of each pass are those of its commands,
-- which are drawn with this seed over so many keys.
-- The totals count these commands, and how many keys stand after the history.
pub record IsLoad (shape : Shape) (seed keys commands : ℕ) (totals : Totals) : Type 0 where
  pub valid : IsValid shape
  pub long : length totals.passes.items ≡ shape.passes
  pub board : Board
  pub of : board.shape ≡ shape
  pub passes : List Pass
  pub all : length passes ≡ shape.passes
  pub history : List Entry
  pub ends : IsEndOfAll shape passes history
  pub each : (pass : ℕ) (last : Pass) (counted : PassTotals)
      → slice_get passes pass ≡ Some last
      → slice_get totals.passes.items pass ≡ Some counted
      → CountsCommands board seed keys commands pass history last counted
  pub stand : totals.keys ≡ keys_of (after shape history)

-- The gate may let each command of each pass through. When it was asked isn't said.
abbrev pub IsLetThrough : Shape → ℕ → (ℕ → ℕ → Bool → Type 0) → Type 0
IsLetThrough shape commands may_answer =
    (pass : ℕ) → pass < shape.passes → LetsThrough may_answer commands pass

-- The gate was told of each command of each pass, by its number.
abbrev pub IsToldOfAll : Shape → ℕ → (ℕ → ℕ → Type 0) → Type 0
IsToldOfAll shape commands told = (pass : ℕ) → pass < shape.passes → IsToldOf told commands pass

-- The gate stopped this pass before one of its commands, as far as its answers and what it was told
-- can show that. Each pass with a lower number went through with all its commands.
-- Each other pass did so too, or was stopped before one of its commands.
pub record IsStopped (shape : Shape) (commands : ℕ) (may_answer : ℕ → ℕ → Bool → Type 0)
    (told : ℕ → ℕ → Type 0) (pass : ℕ) : Type 0 where
  pub valid : IsValid shape
  pub one_of : pass < shape.passes
  pub stops : Stops may_answer told commands pass
  pub lowest : (lower : ℕ) → lower < pass → WentThrough may_answer told commands lower
  pub each : (other : ℕ) → other < shape.passes → RanToEnd may_answer told commands other

-- The index couldn't be created; or the gate may have stopped this pass,
-- and none with a lower number; or the load is out of memory, and its shape is valid.
abbrev pub IsLoadFault : Shape → ℕ → (ℕ → ℕ → Bool → Type 0) → (ℕ → ℕ → Type 0) → LoadFault
    → Type 0
IsLoadFault shape commands may_answer told (Make fault) = IsMakeFault shape fault
IsLoadFault shape commands may_answer told (Stopped pass) =
    IsStopped shape commands may_answer told pass
IsLoadFault shape commands may_answer told OutOfMemory = IsValid shape
