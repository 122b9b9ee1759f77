-- What each call of a client is, in one record: over the index's board and what it has
-- beside the index.
use Rattle.std.specs.Prelude.{◌≡◌, ◌≢◌, ◌⊎◌, ℕ, ◌≤◌, Bool, true, false, not, is_some, List, [], length, Option, Some, None, IsSomeAnd, Result}
use Rattle.segmodel.specs.declared.answer.WriteAnswer.TheVariants as write
use Rattle.segmodel.specs.Words.{DeleteAnswer, GetAnswer, GetsAnswer, Request, WriteAnswer}
use Rattle.segbase.specs.Words.{Board, Pass}
use Rattle.segstore.specs.Words.{memo}
use Rattle.segread.specs.declared.held.HoldAnswer.{HoldAnswer}
use Rattle.segread.specs.Words.{GetsIntoAnswer, HeldInto, HeldRow, Hold, HoldsItem, HoldsRow, Into}
use Rattle.segread.specs.Words.{IntoAnswer, ReadsKey, ReadsRow, ReadsVersion, ReleasesHold}
use Rattle.segread.specs.Words.{RowAnswer, VersionInto}
use Rattle.segwrite.specs.Words.{Deletes, Writes}
use Rattle.segindex.specs.Words.{LearnsNote, MakesNote, MeetsPass, Note, ReturnsStats}
use Rattle.segindex.specs.declared.table_stats.IndexStats.{IndexStats}
use Rattle.segtally.specs.Tallies.{delete_tally, get_tally, gets_tally, write_tally}
use Rattle.segclient.specs.declared.member.Member.{Member}
use Rattle.segclient.specs.declared.effort.Effort.{Effort}
use Rattle.segclient.specs.Clearing.{Clears, ClearsSome, most_steps_of_put, Step}
use Rattle.segclient.specs.Counting.{cleared_too, counted}
use Rattle.segclient.specs.Lives.{life_window}
use Rattle.segclient.specs.declared.segments.Window.{Window}
use Rattle.segclient.specs.declared.put.PutAnswer.{PutAnswer}
use Rattle.segclient.specs.PutCalls.{Plan}
use Rattle.segclient.specs.PutParts.{is_outside, PutsWhole, with_effort}
use Rattle.segclient.specs.Puts.{ChoosesFor, StoredFor}
use Rattle.segclient.specs.Member.{draw_of, DrawsOnce, Keeps, KeepsDraws, KeepsSettings}
use Rattle.segclient.specs.Putting.{most_calls}
use Rattle.segclient.specs.Tallies.{write_of}

-- it counts nothing, draws nothing, and keeps its settings and its segments
pub record KeepsCounts (old new : Member) : Type 0 where
  pub stats : new.stats ≡ old.stats
  pub draws : KeepsDraws old new
  pub keeps : Keeps old new

-- ---- calls that read

-- a get of the key had this answer
pub record Gets (key : List ℕ) (told : GetAnswer) (b : Board) (old new : Member) : Type 0 where
  pub reads : ReadsKey b key (draw_of old) old.clock told old.pass new.pass
  pub counts : new.stats ≡ counted (get_tally told) old.stats
  pub draws : DrawsOnce old new
  pub keeps : Keeps old new

-- a get of the key had an answer, and its value went into a buffer
abbrev pub GetsInto : List ℕ → IntoAnswer → List ℕ → List ℕ → Board → Member → Member → Type 0
GetsInto key told bytes next b old new = Into (λ answer. Gets key answer b old new) told bytes next

-- a get of the key with its version had this answer
pub record GetsVersion (key : List ℕ) (told : GetsAnswer) (b : Board) (old new : Member)
    : Type 0 where
  pub reads : ReadsVersion b key (draw_of old) old.clock told old.pass new.pass
  pub counts : new.stats ≡ counted (gets_tally told) old.stats
  pub draws : DrawsOnce old new
  pub keeps : Keeps old new

-- a get of the key with its version had an answer, and its value went into a buffer
abbrev pub GetsVersionInto : List ℕ → GetsIntoAnswer → List ℕ → List ℕ → Board → Member → Member
    → Type 0
GetsVersionInto key told bytes next b old new =
    VersionInto (λ answer. GetsVersion key answer b old new) told bytes next

-- ---- calls that write

-- no step was made, and the segments are as they were
abbrev pub ClearsNothing : List Step → Member → Member → Type 0
ClearsNothing steps old new = (steps ≡ []) × (new.segments ≡ old.segments)

-- After a write that had this answer: once it is Stored, a client with queues clears rows of
-- another segment, by steps that came to these numbers.
pub record ClearsThen (told : WriteAnswer) (b : Board) (effort : Effort) (old new : Member)
    : Type 0 where
  pub some : ClearsSome b old.cutoff effort old.pass new.pass
  pub unasked : told ≢ write.Stored → ClearsNothing some.steps old new
  pub unqueued : is_some old.segments.queues ≡ false → ClearsNothing some.steps old new
  pub stats : new.stats ≡ old.stats
  pub draws : KeepsDraws old new
  pub settings : KeepsSettings old new

-- So it is, and write and steps are counted.
pub record EndsWrite (told : WriteAnswer) (b : Board) (old new : Member) : Type 0 where
  pub steps : List Step
  pub clears : Clears b old.cutoff steps old.pass new.pass
  pub few_steps : length steps ≤ most_steps_of_put
  pub unasked : told ≢ write.Stored → ClearsNothing steps old new
  pub unqueued : is_some old.segments.queues ≡ false → ClearsNothing steps old new
  pub stats : new.stats ≡ cleared_too steps (counted (write_tally told) old.stats)
  pub draws : KeepsDraws old new
  pub settings : KeepsSettings old new

-- A put that began at this pass came to its calls, and ended as a write does. What room took
-- is counted with it.
pub record EndsPut (plan : Plan) (told : PutAnswer) (b : Board) (start : Pass) (old new : Member)
    : Type 0 where
  pub effort : Effort
  pub between : Member
  pub puts : PutsWhole b plan (most_calls b.shape) told effort start between.pass
  pub counts : between.stats ≡ with_effort effort old.stats
  pub draws : KeepsDraws old between
  pub settings : KeepsSettings old between
  pub ends : EndsWrite (write_of told) b between new

-- the deadlines that let an item live for seven eighths of the client's time to live at least,
-- and for all of it at most; only the largest moment, if that comes within this time
abbrev pub life_of : Member → Window
life_of member = life_window member.clock member.time_to_live

-- Before a write the pass chose a segment for it. The write can be made unless the deadline of the
-- segment that the pass then stores into lets no item live so.
pub record BeginsWrite (begun : Bool) (b : Board) (old new : Member) : Type 0 where
  pub chooses : ChoosesFor (life_of old) b old.pass new.pass
  pub timely : begun ≡ not (is_outside (life_of old) new.pass)
  pub counts : KeepsCounts old new

-- A write was made. Or the deadline of the segment that the pass stores into isn't one of these,
-- and then it is NoRoom, and nothing was done.
abbrev pub WritesIfTimely : Board → Window → Request → WriteAnswer → Pass → Pass → Type 0
WritesIfTimely b window request told p q =
    ((is_outside window p ≡ true) × (told ≡ write.NoRoom) × (q ≡ p))
    ⊎ ((is_outside window p ≡ false) × Writes b request told p q)

-- What is asked at this moment had this answer. Before, the pass chose a segment, without a step.
-- Where it is Stored, the deadline of the segment it is stored into comes in the client's time to
-- live, and not before seven eighths of it: it can be read so long, unless it goes before.
-- Once it is Stored, a client with queues clears rows of another segment, as after a put.
pub record MakesWrite (request : ℕ → Request) (told : WriteAnswer) (b : Board)
    (old new : Member) : Type 0 where
  pub chosen : Pass
  pub chooses : ChoosesFor (life_of old) b old.pass chosen
  pub between : Pass
  pub writes : WritesIfTimely b (life_of old) (request old.clock) told chosen between
  pub stored : told ≡ write.Stored → StoredFor (life_of old) between
  pub steps : List Step
  pub clears : Clears b old.cutoff steps between new.pass
  pub few_steps : length steps ≤ most_steps_of_put
  pub unasked : told ≢ write.Stored → ClearsNothing steps old new
  pub unqueued : is_some old.segments.queues ≡ false → ClearsNothing steps old new
  pub memo : memo new.pass ≡ memo old.pass
  pub counts : new.stats ≡ cleared_too steps (counted (write_tally told) old.stats)
  pub draws : KeepsDraws old new
  pub settings : KeepsSettings old new

-- A delete of the key had this answer. Queues are told of it.
pub record DeletesKey (key : List ℕ) (told : DeleteAnswer) (b : Board) (old new : Member)
    : Type 0 where
  pub deletes : Deletes b key old.clock told old.pass new.pass
  pub counts : new.stats ≡ counted (delete_tally told) old.stats
  pub draws : KeepsDraws old new
  pub settings : KeepsSettings old new
  pub unqueued : is_some old.segments.queues ≡ false → new.segments ≡ old.segments

-- ---- holds

-- a hold of the key had this answer
pub record HoldsKey (key : List ℕ) (told : HoldAnswer) (b : Board) (old new : Member)
    : Type 0 where
  pub holds : HoldsItem b key old.clock told old.pass new.pass
  pub counts : KeepsCounts old new

-- the value in the row that is held was read
pub record ReadsHeldRow (row : HeldRow) (told : List ℕ) (b : Board) (old new : Member)
    : Type 0 where
  pub reads : ReadsRow b row told old.pass new.pass
  pub counts : KeepsCounts old new

abbrev pub ReadsHold : Hold → List ℕ → Board → Member → Member → Type 0
ReadsHold hold told b old new = ReadsHeldRow hold.row told b old new

-- the value in the row that is held was read, and went into a buffer
abbrev pub ReadsHeldRowInto : HeldRow → Result ℕ ℕ → List ℕ → List ℕ → Board → Member → Member
    → Type 0
ReadsHeldRowInto row told bytes next b old new =
    HeldInto (λ value. ReadsHeldRow row value b old new) told bytes next

abbrev pub ReadsHoldInto : Hold → Result ℕ ℕ → List ℕ → List ℕ → Board → Member → Member → Type 0
ReadsHoldInto hold told bytes next b old new = ReadsHeldRowInto hold.row told bytes next b old new

-- the hold ended
pub record EndsHold (b : Board) (old new : Member) : Type 0 where
  pub releases : ReleasesHold b old.pass new.pass
  pub counts : KeepsCounts old new

-- ---- holds that a share keeps

-- a hold of the key had this answer, and the share keeps this from then on
pub record HoldsInto (key : List ℕ) (told : RowAnswer) (kept next : Option HeldRow) (b : Board)
    (old new : Member) : Type 0 where
  pub holds : HoldsRow b key old.clock told kept next old.pass new.pass
  pub counts : KeepsCounts old new

-- the value that is kept was read, if there is one; without one nothing was done
abbrev pub ReadsKept : Option HeldRow → Option (List ℕ) → Board → Member → Member → Type 0
ReadsKept (Some row) told b old new =
    IsSomeAnd told (λ value. ReadsHeldRow row value b old new)
ReadsKept None told b old new = (told ≡ None) × (new ≡ old)

-- the value that is kept went into a buffer, if there is one; without one nothing was done
abbrev pub ReadsKeptInto : Option HeldRow → Option (Result ℕ ℕ) → List ℕ → List ℕ → Board → Member
    → Member → Type 0
ReadsKeptInto (Some row) told bytes next b old new =
    IsSomeAnd told (λ copied. ReadsHeldRowInto row copied bytes next b old new)
ReadsKeptInto None told bytes next b old new = (told ≡ None) × (next ≡ bytes) × (new ≡ old)

-- the hold that is kept ended, if there was one; without one nothing was done
abbrev pub EndsKept : Option HeldRow → Board → Member → Member → Type 0
EndsKept (Some row) b old new = EndsHold b old new
EndsKept None b old new = new ≡ old

-- ---- the rest

-- what the client sees of the table was counted
pub record ReturnsTable (told : IndexStats) (b : Board) (old new : Member) : Type 0 where
  pub reads : ReturnsStats b told old.pass new.pass
  pub counts : KeepsCounts old new

-- a note was made of what the client had seen
pub record Notes (note : Note) (b : Board) (old new : Member) : Type 0 where
  pub notes : MakesNote b note old.pass new.pass
  pub counts : KeepsCounts old new

-- the client learned what the note has
pub record Learns (note : Note) (b : Board) (old new : Member) : Type 0 where
  pub learns : LearnsNote b note old.pass new.pass
  pub counts : KeepsCounts old new

-- two of one index met
pub record Meet (b : Board) (old other new next : Member) : Type 0 where
  pub meets : MeetsPass b old.pass other.pass new.pass next.pass
  pub counts : KeepsCounts old new
  pub other_counts : KeepsCounts other next
