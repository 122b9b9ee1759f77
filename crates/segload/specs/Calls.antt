-- Which calls are made for the commands of a load, one after the other,
-- and how each command is counted.
-- What answers a call is left open: `Answers` says of a command, a draw and an answer
-- which state may follow which. Of passes it is the contract of the call that the command names
-- (`AnswersCommand`), and of the cache of one thread it is the model.
use Rattle.std.specs.Prelude.{◌≡◌, ◌≢◌, ◌⊎◌, ℕ, zero, suc, Bool, true, false}
use Rattle.segmodel.specs.Words.{Answer, EvictAnswer, RefillAnswer}
use Rattle.segmodel.specs.declared.request.Request.TheVariants as request
use Rattle.segmodel.specs.declared.answer.Answer.TheVariants as answer
use Rattle.segmodel.specs.declared.answer.Command.{Command}
use Rattle.segmodel.specs.declared.answer.Command.TheVariants as command
use Rattle.segmodel.specs.declared.answer.GetsAnswer.TheVariants as gets
use Rattle.segmodel.specs.declared.answer.WriteAnswer.TheVariants as write
use Rattle.segmodel.specs.declared.answer.EvictAnswer.TheVariants as evict
use Rattle.segmodel.specs.declared.answer.RefillAnswer.TheVariants as refill
use Rattle.segpolicy.specs.declared.load.Kind.TheVariants as kind
use Rattle.segpolicy.specs.Words.{Draws, Kind, Load, next_load, next_of}
use Rattle.segtally.specs.declared.tally.Tally.{Tally}
use Rattle.segtally.specs.declared.tally.Tally.TheVariants as tally
use Rattle.segtally.specs.Tallies.{delete_tally, get_tally, gets_tally, write_tally}
use Rattle.segload.specs.declared.totals.Tallies.{Tallies}
use Rattle.segload.specs.Counting.{no_tallies, with_one_more}
use Rattle.segload.specs.Making.{ClientState, draws_after, load_deadline, load_moment, turned_on}

-- ---- commands

-- The command of the index for a load's command of this kind, with the moment of the load.
-- A cas expects this version.
abbrev pub asked_by : Kind → ℕ → Load → Command
asked_by kind.Get version load = command.Get load.key load_moment
asked_by kind.Gets version load = command.Gets load.key load_moment
asked_by kind.Set version load = command.Write (request.Set load.key load.value load_moment)
asked_by kind.Add version load = command.Write (request.Add load.key load.value load_moment)
asked_by kind.Replace version load = command.Write (request.Replace load.key load.value load_moment)
asked_by kind.Cas version load = command.Write (request.Cas load.key load.value version load_moment)
asked_by kind.Delete version load = command.Write (request.Delete load.key load_moment)

abbrev pub command_of : ℕ → Load → Command
command_of version load = asked_by load.kind version load

-- ---- answers

-- A command of a load is answered as a read, a write or a delete.
abbrev pub IsOfLoad : Answer → Type 0
IsOfLoad (answer.Get told) = Unit {0}
IsOfLoad (answer.Gets told) = Unit {0}
IsOfLoad (answer.Write told) = Unit {0}
IsOfLoad (answer.Delete told) = Unit {0}
IsOfLoad _ = ⊥

-- how a command of a load that was answered so is counted
abbrev pub tally_of : Answer → Tally
tally_of (answer.Get told) = get_tally told
tally_of (answer.Gets told) = gets_tally told
tally_of (answer.Write told) = write_tally told
tally_of (answer.Delete told) = delete_tally told
tally_of _ = tally.Busy

-- What the next commands of a pass depend on, after an answer:
-- a gets that is a hit changes the version.
abbrev pub course_after : Answer → ClientState → ClientState
course_after (answer.Gets (gets.Found value version)) course = record course { version = version }
course_after _ course = course

-- ---- the calls of a command

-- A segment was evicted, and then refilled up to the load's deadline. No draw is used for it.
pub record MakesRoom {S : Type 0} (Answers : Command → ℕ → Answer → S → S → Type 0) (segment : ℕ)
    (old new : S) : Type 0 where
  pub emptied : S
  pub count : ℕ
  pub evicts : Answers (command.Evict segment) 0 (answer.Evict (evict.Evicted count)) old emptied
  pub refills : Answers (command.Refill segment load_deadline) 0 (answer.Refill refill.Refilled)
      emptied new

-- The evict of a segment was refused.
pub record IsNotEvicted {S : Type 0} (Answers : Command → ℕ → Answer → S → S → Type 0)
    (segment : ℕ) (old new : S) : Type 0 where
  pub told : EvictAnswer
  pub refused : (count : ℕ) → told ≢ evict.Evicted count
  pub evicts : Answers (command.Evict segment) 0 (answer.Evict told) old new

-- A segment was evicted, and then its refill was refused.
pub record IsNotRefilled {S : Type 0} (Answers : Command → ℕ → Answer → S → S → Type 0)
    (segment : ℕ) (old new : S) : Type 0 where
  pub emptied : S
  pub count : ℕ
  pub told : RefillAnswer
  pub refused : told ≢ refill.Refilled
  pub evicts : Answers (command.Evict segment) 0 (answer.Evict (evict.Evicted count)) old emptied
  pub refills : Answers (command.Refill segment load_deadline) 0 (answer.Refill told) emptied new

-- whether the calls that were to make room in a segment made it
abbrev pub TriesForRoom : {S : Type 0} → (Command → ℕ → Answer → S → S → Type 0) → ℕ → Bool → S → S
    → Type 0
TriesForRoom Answers segment true old new = MakesRoom Answers segment old new
TriesForRoom Answers segment false old new =
    IsNotEvicted Answers segment old new ⊎ IsNotRefilled Answers segment old new

-- The command had one call, with its draw. The answer, which isn't NoRoom, is counted.
pub record ServedAtOnce {S : Type 0} (Answers : Command → ℕ → Answer → S → S → Type 0)
    (load : Load) (told : Tally) (from to : ClientState) (old new : S) : Type 0 where
  pub given : Answer
  pub answers : Answers (command_of from.version load) load.draw given old new
  pub had_room : given ≢ answer.Write write.NoRoom
  pub counted : told ≡ tally_of given
  pub course : to ≡ course_after given from

-- The command's call found no room. Room was made in the next segment of the ring.
-- Then the command had one call more, whose answer is counted.
pub record ServedInNewRoom {S : Type 0} (Answers : Command → ℕ → Answer → S → S → Type 0)
    (load : Load) (told : Tally) (from to : ClientState) (old new : S) : Type 0 where
  pub full : S
  pub filled : S
  pub given : Answer
  pub found_none : Answers (command_of from.version load) load.draw (answer.Write write.NoRoom)
      old full
  pub room : TriesForRoom Answers (next_of from.segments) true full filled
  pub again : Answers (command_of from.version load) load.draw given filled new
  pub counted : told ≡ tally_of given
  pub course : to ≡ turned_on from

-- The command's call found no room, and none could be made: NoRoom is counted.
pub record ServedNoRoom {S : Type 0} (Answers : Command → ℕ → Answer → S → S → Type 0)
    (load : Load) (told : Tally) (from to : ClientState) (old new : S) : Type 0 where
  pub full : S
  pub found_none : Answers (command_of from.version load) load.draw (answer.Write write.NoRoom)
      old full
  pub no_room : TriesForRoom Answers (next_of from.segments) false full new
  pub counted : told ≡ tally.NoRoom
  pub course : to ≡ turned_on from

-- A command of a load was served by one of these, and is counted so.
abbrev pub ServesLoad : {S : Type 0} → (Command → ℕ → Answer → S → S → Type 0) → Load → Tally
    → ClientState → ClientState → S → S → Type 0
ServesLoad Answers load told from to old new =
    ServedAtOnce Answers load told from to old new
    ⊎ (ServedInNewRoom Answers load told from to old new
    ⊎ ServedNoRoom Answers load told from to old new)

-- ---- the calls of all commands

-- The first so many commands of a workload were served, one after the other, from a start on.
-- These are their tallies, the next commands depend on this, and the state is this one.
abbrev pub MakesCalls : {S : Type 0} → (Command → ℕ → Answer → S → S → Type 0) → Draws
    → ClientState → S → ℕ → Tallies → ClientState → S → Type 0
MakesCalls Answers draws begin start zero tallies course now =
    (tallies ≡ no_tallies) × (course ≡ begin) × (now ≡ start)
MakesCalls {S} Answers draws begin start (suc made) tallies course now =
    (told : Tally) × (before : Tallies) × (from : ClientState) × (last : S)
    × MakesCalls Answers draws begin start made before from last
    × ServesLoad Answers (next_load (draws_after draws made)) told from course last now
    × (tallies ≡ with_one_more told before)
