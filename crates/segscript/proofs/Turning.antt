-- What the calls of the index say, as turns of a pass; and holds that are kept from call to call.
use Rattle.std.proofs.Common.{◌≡◌, ℕ, Bool, List, Option, Some, None, is_some, refl, ap, ◌∙◌}
use Rattle.segword.specs.Words.{Shape}
use Rattle.segmodel.specs.Words.{Answer}
use Rattle.segmodel.specs.declared.answer.Command.{Command}
use Rattle.segmodel.specs.declared.answer.Turn.TheVariants as turn
use Rattle.segmodel.specs.declared.answer.Outcome.TheVariants as outcome
use Rattle.segbase.specs.Words.{Board, holding, Pass}
use Rattle.segstore.specs.Words.{GoesOn, LockAnswer, LocksBucket, UnlocksBucket}
use Rattle.segread.specs.Words.{Hold, HoldAnswer, HoldsItem, IsHoldOf, ReadsHeld, ReleasesHold}
use Rattle.segread.proofs.HoldCalls.{stays}
use Rattle.segindex.specs.Words.{AnswersCommand}
use Rattle.segsolo.specs.Words.{outcome_of_hold, outcome_of_lock, outcome_of_unlock}
use Rattle.segsolo.proofs.AloneCommands.{serves_command}
use Rattle.segsolo.proofs.AloneHolds.{turns_hold, turns_held, turns_release}
use Rattle.segsolo.proofs.AloneLocks.{turns_lock, turns_unlock}
use Rattle.segscript.specs.Told.{draw}
use Rattle.segscript.specs.Passes.{IsHoldKept, TakesTurn}

-- the hold that is kept is the pass's as long as it holds the same
pub still_kept : (shape : Shape) (kept : Option Hold) (p q : Pass) → IsHoldKept shape kept p → holding q ≡ holding p → IsHoldKept shape kept q
still_kept shape None p q is same = same ∙ is
still_kept shape (Some hold) p q is same = stays shape hold.row p q is same

-- ---- each call as a turn

pub serve_turn : (b : Board) (p q : Pass) (command : Command) (told : Answer) → GoesOn b p q → AnswersCommand b command draw told p q → TakesTurn b (turn.Serve command) (outcome.Answered told) p q
serve_turn b p q command told on is = record {
  goes_on = on;
  tells = is;
  alone = λ was. let served = serves_command b p q command told was is in (served.0, (told, refl, served.1));
}

pub hold_turn : (b : Board) (p q : Pass) (key : List ℕ) (now : ℕ) (given : HoldAnswer) → HoldsItem b key now given p q → TakesTurn b (turn.Hold key now) (outcome_of_hold given) p q
hold_turn b p q key now given is = record { goes_on = is.on; tells = (given, refl, is); alone = λ was. turns_hold b p q key now given was is }

pub held_turn : (b : Board) (p q : Pass) (hold : Hold) (value : List ℕ) → IsHoldOf b.shape hold p → ReadsHeld b hold value p q → TakesTurn b turn.Held (outcome.Value value) p q
held_turn b p q hold value of is = record { goes_on = is.on; tells = (hold, of, is); alone = λ was. turns_held b p q hold value was of is }

pub release_turn : (b : Board) (p q : Pass) (hold : Hold) → IsHoldOf b.shape hold p → ReleasesHold b p q → TakesTurn b turn.Release outcome.Released p q
release_turn b p q hold of is = record { goes_on = is.on; tells = (is, ap is_some of.holds); alone = λ was. turns_release b p q hold was of is }

pub lock_turn : (b : Board) (p q : Pass) (key : List ℕ) (given : LockAnswer) → LocksBucket b key given p q → TakesTurn b (turn.Lock key) (outcome_of_lock given) p q
lock_turn b p q key given is = record { goes_on = is.on; tells = (given, refl, is); alone = λ was. turns_lock b p q key given was is }

pub unlock_turn : (b : Board) (p q : Pass) (given : Bool) → UnlocksBucket b given p q → TakesTurn b turn.Unlock (outcome_of_unlock given) p q
unlock_turn b p q given is = record { goes_on = is.on; tells = (given, refl, is); alone = λ was. turns_unlock b p q given was is }
