-- If an index has one pass, each of its calls is served as the model says,
-- a command if the draw is 0, and but for frequencies with any draw.
-- What the call's contract says is enough for this.
use Rattle.std.specs.Prelude.{◌≡◌, ℕ, Bool, false, List, Some, slice_get}
use Rattle.segword.specs.Words.{Shape}
use Rattle.segmodel.specs.declared.answer.Command.{Command}
use Rattle.segmodel.specs.declared.answer.Turn.TheVariants as turn
use Rattle.segmodel.specs.declared.answer.Outcome.TheVariants as outcome
use Rattle.segmodel.specs.Words.{Answer, fresh}
use Rattle.segbase.specs.Words.{Board, is_holding_of, Pass}
use Rattle.segstore.specs.Words.{LockAnswer, LocksBucket, UnlocksBucket}
use Rattle.segread.specs.Words.{Hold, HoldAnswer, HoldsItem, IsHoldOf, ReadsHeld, ReleasesHold}
use Rattle.segindex.specs.Words.{AnswersCommand, board_of, Index, IsNew}
use Rattle.segsolo.specs.Alone.{state_at, IsAlone, ServesAlone, ServesButFrequencies}
use Rattle.segsolo.specs.Alone.{TurnsAlone, outcome_of_lock, outcome_of_unlock, outcome_of_hold}

-- The pass of a new index that has one pass is alone, and is at the start state.
abbrev pub StartsAlone : Type 0
StartsAlone = (shape : Shape) (index : Index) (passes : List Pass) (p : Pass)
    → IsNew shape index passes
    → shape.passes ≡ 1
    → slice_get passes 0 ≡ Some p
    → IsAlone (board_of index) p × (state_at shape p ≡ fresh shape)

-- ---- commands

-- A command is served if the draw is 0. With this draw a hit raises the frequency if it may.
abbrev pub CommandIsServed : Type 0
CommandIsServed = (b : Board) (p q : Pass) (command : Command) (told : Answer) → IsAlone b p
    → AnswersCommand b command 0 told p q → ServesAlone b command told p q

-- With any other draw the command is served so too, but for frequencies.
abbrev pub AnyDrawIsServed : Type 0
AnyDrawIsServed = (b : Board) (p q : Pass) (command : Command) (draw : ℕ) (told : Answer)
    → IsAlone b p
    → AnswersCommand b command draw told p q
    → ServesButFrequencies b command told p q

-- ---- locks

abbrev pub LockIsServed : Type 0
LockIsServed = (b : Board) (p q : Pass) (key : List ℕ) (told : LockAnswer) → IsAlone b p
    → LocksBucket b key told p q → TurnsAlone b (turn.Lock key) (outcome_of_lock told) p q

abbrev pub UnlockIsServed : Type 0
UnlockIsServed = (b : Board) (p q : Pass) (told : Bool) → IsAlone b p
    → UnlocksBucket b told p q → TurnsAlone b turn.Unlock (outcome_of_unlock told) p q

-- ---- holds

abbrev pub HoldIsServed : Type 0
HoldIsServed = (b : Board) (p q : Pass) (key : List ℕ) (now : ℕ) (told : HoldAnswer) → IsAlone b p
    → HoldsItem b key now told p q → TurnsAlone b (turn.Hold key now) (outcome_of_hold told) p q

abbrev pub HeldIsServed : Type 0
HeldIsServed = (b : Board) (p q : Pass) (hold : Hold) (value : List ℕ)
    → IsAlone b p
    → IsHoldOf b.shape hold p
    → ReadsHeld b hold value p q
    → TurnsAlone b turn.Held (outcome.Value value) p q

abbrev pub ReleaseIsServed : Type 0
ReleaseIsServed = (b : Board) (p q : Pass) (hold : Hold) → IsAlone b p → IsHoldOf b.shape hold p
    → ReleasesHold b p q → TurnsAlone b turn.Release outcome.Released p q

-- If the pass holds nothing, a held and a release are answered NotHolding, and no call is made.
abbrev pub NothingIsHeld : Type 0
NothingIsHeld = (b : Board) (p : Pass)
    → IsAlone b p
    → is_holding_of p ≡ false
    → TurnsAlone b turn.Held outcome.NotHolding p p
    × TurnsAlone b turn.Release outcome.NotHolding p p
