-- Laws of reads and deletes of a client: each is one command of the index by the client's pass.
-- Each is proved as the contract of a function in src/laws.rt.
use Rattle.std.specs.Prelude.{◌≡◌, ℕ, false, is_some, List}
use Rattle.segmodel.specs.declared.answer.Answer.TheVariants as answer
use Rattle.segmodel.specs.declared.answer.Command.{Command}
use Rattle.segmodel.specs.declared.answer.Command.TheVariants as command
use Rattle.segmodel.specs.declared.request.Request.TheVariants.{Delete}
use Rattle.segmodel.specs.Words.{Answer, DeleteAnswer, GetAnswer, GetsAnswer}
use Rattle.segbase.specs.Words.{Board}
use Rattle.segindex.specs.Words.{AnswersCommand}
use Rattle.segtally.specs.declared.tally.Tally.{Tally}
use Rattle.segtally.specs.Tallies.{delete_tally, get_tally, gets_tally}
use Rattle.segclient.specs.declared.member.Member.{Member}
use Rattle.segclient.specs.Counting.{counted}
use Rattle.segclient.specs.Made.{DeletesKey, Gets, GetsVersion}
use Rattle.segclient.specs.Member.{draw_of, DrawsOnce, Keeps, KeepsDraws, KeepsSettings}

-- The client's pass made this command, and had this answer. It is counted so.
pub record MakesCommand (asked : Command) (told : Answer) (tally : Tally) (b : Board)
    (old new : Member) : Type 0 where
  pub answers : AnswersCommand b asked (draw_of old) told old.pass new.pass
  pub counts : new.stats ≡ counted tally old.stats

-- A get is a get at the moment that the clock shows. One number is drawn for it.
abbrev pub GetIsACommand : Type 0
GetIsACommand = (key : List ℕ) (told : GetAnswer) (b : Board) (old new : Member)
    → Gets key told b old new
    → MakesCommand (command.Get key old.clock) (answer.Get told) (get_tally told) b old new
    × DrawsOnce old new × Keeps old new

-- The same is so of a gets.
abbrev pub GetsIsACommand : Type 0
GetsIsACommand = (key : List ℕ) (told : GetsAnswer) (b : Board) (old new : Member)
    → GetsVersion key told b old new
    → MakesCommand (command.Gets key old.clock) (answer.Gets told) (gets_tally told) b old new
    × DrawsOnce old new × Keeps old new

-- A delete is a delete at the moment that the clock shows. Only queues are told of it.
abbrev pub DeleteIsACommand : Type 0
DeleteIsACommand = (key : List ℕ) (told : DeleteAnswer) (b : Board) (old new : Member)
    → DeletesKey key told b old new
    → MakesCommand (command.Write (Delete key old.clock)) (answer.Delete told) (delete_tally told)
    b old new
    × KeepsDraws old new × KeepsSettings old new
    × (is_some old.segments.queues ≡ false → new.segments ≡ old.segments)
