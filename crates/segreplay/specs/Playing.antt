-- How a client makes commands of a trace, and what it counts of them.
use Rattle.std.specs.Prelude.{◌≡◌, ◌≢◌, ◌-◌, ℕ, min, List, [], ◌∷◌, replicate, take, if◌then◌else◌, unwrap_or}
use Rattle.std.specs.Option.{option_map_or}
use Rattle.segword.specs.Words.{value_limit}
use Rattle.segmodel.specs.declared.answer.GetAnswer.TheVariants as get
use Rattle.segclient.specs.declared.client.Client.{Client}
use Rattle.segclient.specs.declared.put.PutAnswer.{PutAnswer}
use Rattle.segclient.specs.Client.{MakesCall}
use Rattle.segclient.specs.Made.{DeletesKey, Gets, ReturnsTable}
use Rattle.segclient.specs.Member.{SetsNow, SetsTimeToLive}
use Rattle.segclient.specs.Puts.{Puts}
use Rattle.segclient.specs.PutParts.{current_deadline}
use Rattle.segindex.specs.declared.table_stats.IndexStats.{IndexStats}
use Rattle.segreplay.specs.declared.counts.CommandResult.{CommandResult}
use Rattle.segreplay.specs.declared.counts.CommandResult.TheVariants as outcome
use Rattle.segreplay.specs.declared.counts.Counts.{Counts}
use Rattle.segtraces.specs.declared.line.Operation.TheVariants as verb
use Rattle.segtraces.specs.declared.line.TraceCommand.{TraceCommand}
use Rattle.segreplay.specs.declared.player.Assignment.{Assignment}
use Rattle.segreplay.specs.declared.player.Player.{Player}
use Rattle.segreplay.specs.Counting.{counted, effort_counted, given_counted}
use Rattle.segreplay.specs.Lives.{share_given}

-- the client's clock shows the command's moment, and its time to live is the command's
abbrev pub IsSetFor : TraceCommand → Client → Client → Type 0
IsSetFor r old new =
    (between : Client)
    × MakesCall (λ board. SetsNow r.moment) old between
    × MakesCall (λ board. SetsTimeToLive r.time_to_live) between new

-- a value of so many bytes, all 0, or of as many as a value can have
abbrev pub value_of : ℕ → List ℕ
value_of bytes = take (min bytes value_limit) (replicate value_limit 0)

-- the value that a command puts: of the size that its line has, or else this one
abbrev pub value_for : List ℕ → TraceCommand → List ℕ
value_for value r = option_map_or value_of r.value_bytes value

-- the command's key was put, with its value
abbrev pub PutsFor : List ℕ → TraceCommand → PutAnswer → Client → Client → Type 0
PutsFor value r told old new = MakesCall (Puts r.key (value_for value r) told) old new

-- the calls of a command, which came to this: a get that missed is followed by a put of its key
abbrev pub Makes : List ℕ → TraceCommand → CommandResult → Client → Client → Type 0
Makes value r outcome.Hit old new =
    (r.verb ≡ verb.Get) × (found : List ℕ) × MakesCall (Gets r.key (get.Found found)) old new
Makes value r (outcome.Miss told) old new =
    (r.verb ≡ verb.Get)
    × (between : Client)
    × MakesCall (Gets r.key get.Miss) old between
    × PutsFor value r told between new
Makes value r outcome.GetBusy old new =
    (r.verb ≡ verb.Get) × MakesCall (Gets r.key get.Busy) old new
Makes value r (outcome.Set told) old new =
    (r.verb ≡ verb.Set) × PutsFor value r told old new
Makes value r (outcome.Delete told) old new =
    (r.verb ≡ verb.Delete) × MakesCall (DeletesKey r.key told) old new

-- a command was made at its moment
abbrev pub Serves : List ℕ → TraceCommand → CommandResult → Client → Client → Type 0
Serves value r told old new =
    (ready : Client) × IsSetFor r old ready × Makes value r told ready new

-- which share of its time to live a command is given whose put was stored: by the deadline of
-- the segment that the client stores into then
abbrev pub given_to : TraceCommand → Client → ℕ
given_to r client =
    share_given r.moment r.time_to_live (unwrap_or (current_deadline client.member.pass) 0)

-- the counts after a command, with what its puts evicted and kept, and what they were given
abbrev pub counted_too : CommandResult → TraceCommand → Client → Client → Counts → Counts
counted_too told r old new counts =
    given_counted told (given_to r new)
    (effort_counted (new.member.stats.keys_evicted - old.member.stats.keys_evicted)
    (new.member.stats.items_kept - old.member.stats.items_kept) (counted told counts))

-- the command was made, and counted if it is to be
pub record Takes (turn : Assignment) (old new : Player) : Type 0 where
  pub outcome : CommandResult
  pub serves : Serves old.value turn.request outcome old.client new.client
  pub counts : new.counts ≡ (if turn.is_counted
      then counted_too outcome turn.request old.client new.client old.counts else old.counts)
  pub cache : new.cache ≡ old.cache
  pub number : new.number ≡ old.number
  pub value : new.value ≡ old.value

-- a command of another client was left out
abbrev pub TakesOwn : Assignment → Player → Player → Type 0
TakesOwn turn old new =
    (turn.client ≡ old.number → Takes turn old new) × (turn.client ≢ old.number → new ≡ old)

-- those of the commands that are the client's own, in their order
abbrev pub Plays : List Assignment → Player → Player → Type 0
Plays [] old new = new ≡ old
Plays (turn ∷ turns) old new =
    (between : Player) × TakesOwn turn old between × Plays turns between new

-- The items were counted that stand in the client's segments: those that a key names, each as
-- many times as it takes rows.
pub record CountsItems (old new : Player) : Type 0 where
  pub told : IndexStats
  pub reads : MakesCall (ReturnsTable told) old.client new.client
  pub counts : new.counts ≡ record old.counts { items = told.named_rows }
  pub cache : new.cache ≡ old.cache
  pub number : new.number ≡ old.number
  pub value : new.value ≡ old.value
