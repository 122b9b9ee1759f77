-- The turns of a pass: commands, and what the pass does with its one hold and its one lock.
-- Runs of turns or commands.
use Rattle.std.specs.Prelude.{◌≡◌, List, [], ◌∷◌, ℕ, Option, Some, None}
use Rattle.segword.specs.Words.{Shape}
use Rattle.segmodel.specs.declared.entry.Cached.{Cached}
use Rattle.segmodel.specs.declared.answer.Answer.{Answer}
use Rattle.segmodel.specs.declared.answer.Turn.{Turn}
use Rattle.segmodel.specs.declared.answer.Turn.TheVariants.{Serve, Hold, Held, Release, Lock, Unlock}
use Rattle.segmodel.specs.declared.answer.Outcome.{Outcome}
use Rattle.segmodel.specs.declared.answer.Outcome.TheVariants as outcome
use Rattle.segmodel.specs.Places.{bucket_of}
use Rattle.segmodel.specs.Cache.{present}
use Rattle.segmodel.specs.State.{State}
use Rattle.segmodel.specs.Serving.{IsGiven, Serves}

-- hold, by the item that is held already and by what is found under the key;
-- a hold never meets a lock
abbrev pub hold_outcome : Option Cached → Option Cached → Outcome
hold_outcome (Some item) found = outcome.AlreadyHolding
hold_outcome None None = outcome.Miss
hold_outcome None (Some item) = outcome.Holding

-- what is held after a hold
abbrev pub held_after : Option Cached → Option Cached → Option Cached
held_after (Some item) found = Some item
held_after None found = found

-- held: the value of the item that is held, whatever became of the item's key
abbrev pub held_outcome : Option Cached → Outcome
held_outcome None = outcome.NotHolding
held_outcome (Some item) = outcome.Value item.value

-- release, by the item that is held
abbrev pub release_outcome : Option Cached → Outcome
release_outcome None = outcome.NotHolding
release_outcome (Some item) = outcome.Released

-- lock, by the bucket that is locked already
abbrev pub lock_outcome : Option ℕ → Outcome
lock_outcome None = outcome.Locked
lock_outcome (Some bucket) = outcome.AlreadyLocked

-- which bucket is locked after a lock
abbrev pub locked_after : ℕ → Option ℕ → Option ℕ
locked_after bucket None = Some bucket
locked_after bucket (Some other) = Some other

-- unlock, by the bucket that is locked
abbrev pub unlock_outcome : Option ℕ → Outcome
unlock_outcome None = outcome.NotLocked
unlock_outcome (Some bucket) = outcome.Unlocked

-- from the old state the turn may have this outcome, and then the new state follows
abbrev pub Turns : Shape → State → Turn → Outcome → State → Type 0
Turns shape old (Serve command) given new =
    (told : Answer) × (given ≡ outcome.Answered told) × Serves shape old command told new
Turns shape old (Hold key now) given new =
    let found = present old.cache now key in
    IsGiven (hold_outcome old.held found)
    (record old { held = held_after old.held found }) given new
Turns shape old Held given new = IsGiven (held_outcome old.held) old given new
Turns shape old Release given new =
    IsGiven (release_outcome old.held) (record old { held = None }) given new
Turns shape old (Lock key) given new =
    IsGiven (lock_outcome old.locked)
    (record old { locked = locked_after (bucket_of shape key) old.locked }) given new
Turns shape old Unlock given new =
    IsGiven (unlock_outcome old.locked) (record old { locked = None }) given new

-- step by step, one outcome for each, from the old state to the new one
abbrev pub Runs : {S T O : Type 0} → (S → T → O → S → Type 0) → S → List T → List O → S → Type 0
Runs Step old [] [] new = new ≡ old
Runs {S = S} {O = O} Step old (turn ∷ turns) (given ∷ outcomes) new =
    (mid : S) × Step old turn given mid × Runs {O = O} Step mid turns outcomes new
Runs Step old [] (given ∷ outcomes) new = ⊥
Runs Step old (turn ∷ turns) [] new = ⊥
