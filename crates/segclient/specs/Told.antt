-- What a put that is Stored left, which others may be told of; and what puts add to the history.
use Rattle.std.specs.Prelude.{◌≢◌, ℕ, ◌≤◌, Bool, true, List, min, sum_by}
use Rattle.segword.specs.Words.{most_rows}
use Rattle.segmodel.specs.declared.answer.WriteAnswer.TheVariants as write
use Rattle.segmodel.specs.declared.request.Request.TheVariants.{Set}
use Rattle.segmodel.specs.Words.{Request, WriteAnswer}
use Rattle.segbase.specs.Words.{mine, number, seen, SinceFirst}
use Rattle.segcore.specs.Event as event
use Rattle.segwrite.specs.Words.{rows_of}
use Rattle.segindex.specs.Words.{board_of, Index, shape_of, StoresBetween}
use Rattle.segclient.specs.declared.member.Member.{Member}
use Rattle.segclient.specs.declared.put.PutAnswer.{PutAnswer}
use Rattle.segclient.specs.declared.put.PutAnswer.TheVariants as put
use Rattle.segclient.specs.Clearing.{effort_of_steps}
use Rattle.segclient.specs.Entries.{AddsForPut, AddsRoom, IsOnly}
use Rattle.segclient.specs.Made.{MakesWrite}
use Rattle.segclient.specs.Member.{IsMember}
use Rattle.segclient.specs.PutCalls.{came_to, evicted_keys, kept_items, refilled_segments}
use Rattle.segclient.specs.PutParts.{effort_of}
use Rattle.segclient.specs.Puts.{deadline_of, MakesRoomFor, PutsFor}

-- A put that is Stored came in after the first step of its call, and its value stood right after.
abbrev pub PutStands : Type 0
PutStands = (i : Index) (time : ℕ) (key value : List ℕ) (old new : Member)
    → IsMember i old
    → PutsFor time key value put.Stored (board_of i) old new
    → SinceFirst old.pass new.pass (λ start.
    StoresBetween (shape_of i) (number old.pass) (Set key value old.clock)
    (event.seen start) (seen new.pass))

-- A put adds entries that make room, as many as its calls came to. If it is Stored, then comes
-- the entry of its request, and then those by which it clears a segment, as many as its steps
-- came to. Else there is no entry of its request.
abbrev pub PutAdds : Type 0
PutAdds = (i : Index) (time : ℕ) (key value : List ℕ) (told : PutAnswer) (old new : Member)
    → IsMember i old
    → (puts : PutsFor time key value told (board_of i) old new)
    → AddsForPut (shape_of i) (number old.pass) old.cutoff (Set key value old.clock)
    puts.until told (effort_of puts.calls) (effort_of_steps puts.steps)
    (mine old.pass) (mine new.pass)

-- So it is where only room is made.
abbrev pub RoomAdds : Type 0
RoomAdds = (i : Index) (made : Bool) (old new : Member)
    → IsMember i old
    → (room : MakesRoomFor made (board_of i) old new)
    → AddsRoom (shape_of i) (number old.pass) old.cutoff (IsOnly (deadline_of old))
    (sum_by (came_to refilled_segments) room.calls) (sum_by (came_to kept_items) room.calls)
    (sum_by (came_to evicted_keys) room.calls) (mine old.pass) (mine new.pass)

-- A write right after room was made, at the same moment and for the same time to live, isn't NoRoom
-- if its item takes no more rows than the longest of the table may take, and than a segment has.
abbrev pub RoomServes : Type 0
RoomServes = (i : Index) (request : ℕ → Request) (told : WriteAnswer) (old made new : Member)
    → IsMember i old
    → rows_of (request made.clock) ≤ min (most_rows (board_of i).limits) (shape_of i).rows
    → MakesRoomFor true (board_of i) old made
    → MakesWrite request told (board_of i) made new
    → told ≢ write.NoRoom
