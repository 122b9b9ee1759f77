-- The only pass of an index: which state of the model it is at,
-- by what it has seen and what it keeps.
use Rattle.std.specs.Prelude.{◌≡◌, ℕ, Bool, true, false, List, length, Option, Some, None, option_map}
use Rattle.segword.specs.Words.{Shape}
use Rattle.segmodel.specs.declared.answer.SegState.TheVariants.{Empty}
use Rattle.segmodel.specs.declared.answer.Command.{Command}
use Rattle.segmodel.specs.declared.answer.Outcome.TheVariants as outcome
use Rattle.segmodel.specs.Words.{after, Answer, Cached, IsSound, Outcome, SegState, standing}
use Rattle.segmodel.specs.Words.{Serves, State, Turn, Turns}
use Rattle.segcore.specs.Words.{all_drawn, cached, frequency_in, last_at, slot, width}
use Rattle.segbase.specs.Words.{Board, current_of, Held, holding, locked_of, marked, Pass, seen}
use Rattle.segbase.specs.Words.{state_of, used_of}
use Rattle.segstore.specs.declared.bucket.LockAnswer.TheVariants as lock
use Rattle.segread.specs.Words.{HoldAnswer}
use Rattle.segread.specs.declared.held.HoldAnswer.TheVariants as hold
use Rattle.segstore.specs.Words.{IsQuiet, LockAnswer}
use Rattle.segsolo.specs.Stored.{came_with, frequencies_of, items_stored_in, keys_stored_in, last_row_of}

-- A pass keeps no state of a segment that isn't its own.
-- The model takes such a segment as one that was never filled.
abbrev pub or_empty : Option SegState → SegState
or_empty None = Empty
or_empty (Some state) = state

abbrev pub item_of : Held → Cached
item_of held = record { value = held.value; segment = held.segment }

-- the frequencies of the rows of a segment that were used
abbrev pub frequencies_in : Shape → Pass → ℕ → List ℕ
frequencies_in shape p segment =
    frequencies_of (came_with (marked p) segment) (frequency_in (marked p) segment) 0
    (items_stored_in shape (seen p) segment)

-- the state of the model that the pass is at
abbrev pub state_at : Shape → Pass → State
state_at shape p = record {
  cache = after shape (seen p);
  filling = λ segment. record {
    state = or_empty (state_of p segment);
    keys = keys_stored_in shape (seen p) segment;
    frequencies = frequencies_in shape p segment;
  };
  current = current_of p;
  width = λ bucket. width (marked p) bucket;
  drawn = all_drawn (marked p);
  held = option_map item_of (holding p);
  locked = locked_of p;
}

-- As many rows of a segment of the pass are used as the items take that were stored there.
abbrev pub CountsRows : Shape → Pass → Type 0
CountsRows shape p = (segment count : ℕ)
    → used_of p segment ≡ Some count
    → count ≡ length (keys_stored_in shape (seen p) segment)

-- The item of a key that stands names the first row of the last item of the key
-- that was stored in its segment.
abbrev pub NamesLastRows : Shape → Pass → Type 0
NamesLastRows shape p = (key value : List ℕ) (segment row : ℕ)
    → standing (after shape (seen p)) key ≡ Some (cached value segment)
    → last_at (marked p) key ≡ Some (slot key segment row)
    → last_row_of key 0 (items_stored_in shape (seen p) segment) ≡ Some row

-- The pass is the only one of its index, and is between two calls.
-- The rows that it counts are those of the items stored.
-- Each item that stands names the first row of the last one of its key.
-- The state of the model that the pass is at is sound.
pub record IsAlone (b : Board) (p : Pass) : Type 0 where
  pub one : b.shape.passes ≡ 1
  pub quiet : IsQuiet b p
  pub used : CountsRows b.shape p
  pub rows : NamesLastRows b.shape p
  pub kept : IsSound b.shape (state_at b.shape p)

-- The pass is still alone. The command, or the turn, was served as the model says:
-- from the state that the pass was at to the one that it is at now.
abbrev pub ServesAlone : Board → Command → Answer → Pass → Pass → Type 0
ServesAlone b command given p q =
    IsAlone b q × Serves b.shape (state_at b.shape p) command given (state_at b.shape q)

abbrev pub TurnsAlone : Board → Turn → Outcome → Pass → Pass → Type 0
TurnsAlone b turn given p q =
    IsAlone b q × Turns b.shape (state_at b.shape p) turn given (state_at b.shape q)

-- a state in which the items have these frequencies
abbrev pub with_frequencies : (ℕ → List ℕ) → State → State
with_frequencies frequencies state = record state {
  filling = λ segment. record (state.filling segment) { frequencies = frequencies segment };
}

-- The two states differ in only the frequencies of items.
abbrev pub IsSameButFrequencies : State → State → Type 0
IsSameButFrequencies old new =
    (frequencies : ℕ → List ℕ) × (new ≡ with_frequencies frequencies old)

-- The pass is still alone. The command was served as the model says, but for frequencies:
-- in the model each hit raises one if it may, and in a call only if the draw says so.
abbrev pub ServesButFrequencies : Board → Command → Answer → Pass → Pass → Type 0
ServesButFrequencies b command given p q =
    IsAlone b q
    × (state : State)
    × Serves b.shape (state_at b.shape p) command given state
    × IsSameButFrequencies state (state_at b.shape q)

-- the outcomes of the turns that lock, unlock and hold, by what the calls answer
abbrev pub outcome_of_lock : LockAnswer → Outcome
outcome_of_lock lock.Locked = outcome.Locked
outcome_of_lock lock.Busy = outcome.Busy
outcome_of_lock lock.AlreadyLocked = outcome.AlreadyLocked

abbrev pub outcome_of_unlock : Bool → Outcome
outcome_of_unlock true = outcome.Unlocked
outcome_of_unlock false = outcome.NotLocked

abbrev pub outcome_of_hold : HoldAnswer → Outcome
outcome_of_hold (hold.Holding held) = outcome.Holding
outcome_of_hold hold.Miss = outcome.Miss
outcome_of_hold hold.Busy = outcome.Busy
outcome_of_hold hold.AlreadyHolding = outcome.AlreadyHolding
