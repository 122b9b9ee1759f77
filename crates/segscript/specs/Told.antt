-- What the outcome of a turn tells, with any number of passes:
-- it is the answer of the one call of the index that the turn is.
use Rattle.std.specs.Prelude.{◌≡◌, ℕ, Bool, true, is_some, None}
use Rattle.segmodel.specs.Words.{Outcome, Turn}
use Rattle.segmodel.specs.declared.answer.Turn.TheVariants as turn
use Rattle.segmodel.specs.declared.answer.Outcome.TheVariants as outcome
use Rattle.segbase.specs.Words.{Board, holding, Pass}
use Rattle.segstore.specs.Words.{LockAnswer, LocksBucket, UnlocksBucket}
use Rattle.segread.specs.Words.{Hold, HoldAnswer, HoldsItem, IsHoldOf, ReadsHeld, ReleasesHold}
use Rattle.segindex.specs.Words.{AnswersCommand}
use Rattle.segsolo.specs.Words.{outcome_of_hold, outcome_of_lock, outcome_of_unlock}

-- the draw of a script's hits, each of which raises a frequency if it may
abbrev pub draw : ℕ
draw = 0

-- The outcome is that of the call that the turn names.
-- If the pass holds nothing, a held and a release make no call, and the pass is as it was.
abbrev pub IsOutcomeOfCall : Board → Turn → Outcome → Pass → Pass → Type 0
IsOutcomeOfCall b (turn.Serve asked) (outcome.Answered told) p q =
    AnswersCommand b asked draw told p q
IsOutcomeOfCall b (turn.Hold key now) told p q =
    (given : HoldAnswer) × (told ≡ outcome_of_hold given) × HoldsItem b key now given p q
IsOutcomeOfCall b turn.Held (outcome.Value value) p q =
    (hold : Hold) × IsHoldOf b.shape hold p × ReadsHeld b hold value p q
IsOutcomeOfCall b turn.Held outcome.NotHolding p q = (q ≡ p) × (holding p ≡ None)
IsOutcomeOfCall b turn.Release outcome.Released p q =
    ReleasesHold b p q × (is_some (holding p) ≡ true)
IsOutcomeOfCall b turn.Release outcome.NotHolding p q = (q ≡ p) × (holding p ≡ None)
IsOutcomeOfCall b (turn.Lock key) told p q =
    (given : LockAnswer) × (told ≡ outcome_of_lock given) × LocksBucket b key given p q
IsOutcomeOfCall b turn.Unlock told p q =
    (given : Bool) × (told ≡ outcome_of_unlock given) × UnlocksBucket b given p q
IsOutcomeOfCall b _ _ p q = ⊥
