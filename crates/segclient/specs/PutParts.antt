-- What the parts of a put come to, for the functions that make them.
use Rattle.std.specs.Prelude.{◌≡◌, ◌≢◌, ◌⊎◌, ℕ, zero, suc, ◌+◌, ◌*◌, ◌≤◌, nat_lt, ◌||◌, Bool, true, false, List, [], ◌∷◌, ◌++◌, length, All, sum_by, Option, Some, None}
use Rattle.segword.specs.Words.{Shape}
use Rattle.segmodel.specs.declared.answer.EvictAnswer.TheVariants as evict
use Rattle.segmodel.specs.declared.answer.RefillAnswer.TheVariants as refill
use Rattle.segmodel.specs.declared.answer.WriteAnswer.TheVariants as write
use Rattle.segmodel.specs.declared.request.Request.TheVariants.{Set}
use Rattle.segmodel.specs.Words.{owner, Request}
use Rattle.segbase.specs.Words.{Board, current_of, deadline_of, number, Pass, used_of}
use Rattle.segstore.specs.Words.{has_room_for, is_below}
use Rattle.segstore.specs.declared.row.RowRef.{RowRef}
use Rattle.segevict.specs.declared.eviction.EvictRowAnswer.{EvictRowAnswer}
use Rattle.segevict.specs.Words.{EvictsItem, EvictsSegment}
use Rattle.segindex.specs.Refilling.{RefillsSegment}
use Rattle.segclient.specs.declared.segments.Order.{Order}
use Rattle.segclient.specs.declared.put.PutAnswer.{PutAnswer}
use Rattle.segclient.specs.declared.put.PutAnswer.TheVariants as put
use Rattle.segclient.specs.declared.effort.Effort.{Effort}
use Rattle.segclient.specs.declared.segments.Window.{Window}
use Rattle.segclient.specs.declared.stats.Stats.{Stats}
use Rattle.segclient.specs.Counting.{with_more}
use Rattle.segclient.specs.PutCalls.{PutCall, sets, takes_out, Plan, came_to, refilled_segments, kept_items, evicted_keys, IsRefused, Makes, room_plan, rows_asked, StoresUntil}
use Rattle.segclient.specs.Putting.{AreNotFull, CostsOneItem, IsPutAnswer, MakesNoRoom}
use Rattle.segclient.specs.Putting.{SetsAtMost16}

-- ---- what calls came to

-- in numbers
pub record IsEffort (calls : List PutCall) (effort : Effort) : Type 0 where
  pub refilled : effort.refilled ≡ sum_by (came_to refilled_segments) calls
  pub kept : effort.kept ≡ sum_by (came_to kept_items) calls
  pub keys : effort.keys ≡ sum_by (came_to evicted_keys) calls

abbrev pub effort_of : List PutCall → Effort
effort_of calls = record {
  refilled = sum_by (came_to refilled_segments) calls;
  kept = sum_by (came_to kept_items) calls;
  keys = sum_by (came_to evicted_keys) calls;
}

abbrev pub effort_from : ℕ → ℕ → ℕ → Effort
effort_from refilled kept keys = record { refilled = refilled; kept = kept; keys = keys }

-- counted
abbrev pub with_effort : Effort → Stats → Stats
with_effort effort stats = record stats {
  segments_refilled = with_more stats.segments_refilled effort.refilled;
  items_kept = with_more stats.items_kept effort.kept;
  keys_evicted = with_more stats.keys_evicted effort.keys;
}

-- ---- room

-- calls for room, at most so many, came to these numbers
pub record Arranges (b : Board) (cutoff : Option ℕ) (deadline most : ℕ) (effort : Effort)
    (p q : Pass) : Type 0 where
  pub calls : List PutCall
  pub makes : Makes b (room_plan cutoff deadline) calls p q
  pub few : length calls ≤ most
  pub comes : IsEffort calls effort

-- what the pass stores expires when it did before
abbrev pub StoresAsBefore : Pass → Pass → Type 0
StoresAsBefore p q = (until : ℕ) → StoresUntil until p → StoresUntil until q

-- each segment of the pass was refused
abbrev pub AreRefused : Shape → ℕ → List PutCall → Type 0
AreRefused shape pass calls = (segment : ℕ) → owner shape segment ≡ pass → IsRefused segment calls

-- Room was made exactly if so many rows are left in the end, and then in a segment with the
-- deadline that is asked. It wasn't only if each segment of the pass was refused,
-- or if that is more than a segment has.
pub record MakesRows (b : Board) (cutoff : Option ℕ) (deadline most rows : ℕ) (made : Bool)
    (effort : Effort) (p q : Pass) : Type 0 where
  pub arranges : Arranges b cutoff deadline most effort p q
  pub room : has_room_for b.shape rows q ≡ made
  pub until : made ≡ true → StoresUntil deadline q
  pub refused : made ≡ false
      → rows ≤ b.shape.rows
      → AreRefused b.shape (number p) arranges.calls

-- By queues no call is made where so many rows are left in a segment with the deadline.
abbrev pub SparesRows : Shape → Bool → ℕ → ℕ → List PutCall → Pass → Type 0
SparesRows shape queued deadline rows calls p =
    queued ≡ true → StoresUntil deadline p → has_room_for shape rows p ≡ true → calls ≡ []

-- room was made so, but by queues only if it wasn't there
abbrev pub MakesRowsIfNone : Board → Bool → Option ℕ → ℕ → ℕ → ℕ → Bool → Effort → Pass → Pass
    → Type 0
MakesRowsIfNone b queued cutoff deadline most rows made effort p q =
    (room : MakesRows b cutoff deadline most rows made effort p q)
    × SparesRows b.shape queued deadline rows room.arranges.calls p

-- so it is of one row
abbrev pub MakesRoom : Board → Option ℕ → ℕ → ℕ → Bool → Effort → Pass → Pass → Type 0
MakesRoom b cutoff deadline most made effort p q =
    MakesRows b cutoff deadline most 1 made effort p q

-- the segment that the pass stores into has all its rows left
abbrev pub StoresAfresh : Pass → Type 0
StoresAfresh p =
    (segment : ℕ) × (current_of p ≡ Some segment) × (used_of p segment ≡ Some 0)

-- a free segment was refilled, or nothing came about
abbrev pub TakesFree : Board → ℕ → Bool → Pass → Pass → Type 0
TakesFree b deadline true p q = MakesRoom b None deadline 1 true (effort_from 1 0 0) p q
TakesFree b deadline false p q = Arranges b None deadline 1 (effort_from 0 0 0) p q

-- so many keys were evicted from a segment, and then it was refilled;
-- or it couldn't be: the evict was Busy, or the refill Held
abbrev pub GivesUp : Board → ℕ → ℕ → Bool → ℕ → Pass → Pass → Type 0
GivesUp b segment deadline true keys p q =
    (between : Pass) × EvictsSegment b segment (evict.Evicted keys) p between
    × RefillsSegment b segment deadline refill.Refilled between q
GivesUp b segment deadline false keys p q =
    EvictsSegment b segment (evict.Busy keys) p q
    ⊎ ((between : Pass) × EvictsSegment b segment (evict.Evicted keys) p between
    × RefillsSegment b segment deadline refill.Held between q)

-- the item of one row was evicted
pub record TakesRowOut (b : Board) (row : RowRef) (effort : Effort) (p q : Pass) : Type 0 where
  pub told : EvictRowAnswer
  pub evicts : EvictsItem b row.segment row.row told p q
  pub comes : effort
      ≡ effort_from 0 0 (came_to evicted_keys (takes_out row.segment row.row told))

-- ---- deadlines

-- the deadline of the segment that the pass stores into
abbrev pub deadline_at : Pass → Option ℕ → Option ℕ
deadline_at p None = None
deadline_at p (Some segment) = deadline_of p segment

abbrev pub current_deadline : Pass → Option ℕ
current_deadline p = deadline_at p (current_of p)

-- whether it isn't one of these
abbrev pub misses : Window → Option ℕ → Bool
misses window None = false
misses window (Some deadline) = nat_lt deadline window.earliest || nat_lt window.latest deadline

abbrev pub is_outside : Window → Pass → Bool
is_outside window p = misses window (current_deadline p)

-- a row of the segment is left, and its deadline is one of these
abbrev pub IsOpen : Shape → Window → Pass → ℕ → Type 0
IsOpen shape window p segment =
    (is_below shape.rows (used_of p segment) ≡ true)
    × (misses window (deadline_of p segment) ≡ false)

-- ---- sets

abbrev pub request_of : Order → Request
request_of order = Set order.key.now order.value.now order.policy.moment

abbrev pub plan_of : Order → Plan
plan_of order = record {
  request = Some (request_of order);
  cutoff = order.policy.cutoff;
  deadline = order.policy.deadline;
  window = order.policy.window;
}

-- so many sets in a row that were Busy
unfoldable pub busy_sets : ℕ → List PutCall
busy_sets zero = []
busy_sets (suc busy) = sets write.Busy ∷ busy_sets busy

-- sets in a row, the last of which had this answer
abbrev pub AreSets : PutAnswer → List PutCall → Type 0
AreSets put.Stored calls = (busy : ℕ) × (calls ≡ sets write.Stored ∷ busy_sets busy)
AreSets put.NoRoom calls = (busy : ℕ) × (calls ≡ sets write.NoRoom ∷ busy_sets busy)
AreSets put.BucketFull calls = (busy : ℕ) × (calls ≡ sets write.BucketFull ∷ busy_sets busy)
AreSets put.Busy calls = calls ≡ busy_sets 16

-- the pass has room for what is asked, in a segment with a deadline that is asked
abbrev pub CanSet : Board → Plan → Pass → Type 0
CanSet b plan p =
    (is_outside plan.window p ≡ false)
    × (has_room_for b.shape (rows_asked plan.request) p ≡ true)

pub record Sets (b : Board) (plan : Plan) (told : PutAnswer) (p q : Pass) : Type 0 where
  pub calls : List PutCall
  pub makes : Makes b plan calls p q
  pub few : length calls ≤ 16
  pub are : AreSets told calls
  pub no_room : told ≡ put.NoRoom
      → (has_room_for b.shape (rows_asked plan.request) p ≡ false)
      × (has_room_for b.shape (rows_asked plan.request) q ≡ false)
  pub full : told ≡ put.BucketFull → CanSet b plan q

-- sets, unless what the pass stores into has another deadline than those that are asked
abbrev pub SetsIfTimely : Board → Plan → PutAnswer → Pass → Pass → Type 0
SetsIfTimely b plan told p q =
    ((is_outside plan.window p ≡ true) × (told ≡ put.NoRoom) × (q ≡ p))
    ⊎ Sets b plan told p q

-- ---- a put

-- none of the calls was a set that was Stored
abbrev pub AreOpen : List PutCall → Type 0
AreOpen calls = All (λ call. call ≢ sets write.Stored) calls

-- Stored by its last call, and only by that. NoRoom if each segment was refused, of an item that
-- takes no more rows than a segment has. BucketFull by its last set.
-- Busy if the last 16 sets in a row were.
abbrev pub EndsSo : Shape → ℕ → ℕ → PutAnswer → List PutCall → Type 0
EndsSo shape pass rows put.Stored calls =
    (earlier : List PutCall) × (calls ≡ sets write.Stored ∷ earlier) × AreOpen earlier
EndsSo shape pass rows put.NoRoom calls =
    (rows ≤ shape.rows → AreRefused shape pass calls) × AreOpen calls
EndsSo shape pass rows put.BucketFull calls =
    ((earlier : List PutCall) × (calls ≡ sets write.BucketFull ∷ earlier)) × AreOpen calls
EndsSo shape pass rows put.Busy calls =
    ((earlier : List PutCall) × (calls ≡ busy_sets 16 ++ earlier)) × AreOpen calls

-- A put with rows enough left in a segment with a deadline that is asked makes no room.
abbrev pub Spares : Shape → Window → ℕ → List PutCall → Pass → Type 0
Spares shape window rows calls p =
    is_outside window p ≡ false → has_room_for shape rows p ≡ true → MakesNoRoom calls

-- No call comes of a full bucket but the last set, if that found it so.
abbrev pub AreUntilFull : PutAnswer → List PutCall → Type 0
AreUntilFull put.BucketFull calls =
    (earlier : List PutCall) × (calls ≡ sets write.BucketFull ∷ earlier) × AreNotFull earlier
AreUntilFull _ calls = AreNotFull calls

-- a put made these calls, at most so many, up to a set that found its bucket full
pub record MakesPut (b : Board) (plan : Plan) (most : ℕ) (told : PutAnswer)
    (effort : Effort) (p q : Pass) : Type 0 where
  pub calls : List PutCall
  pub makes : Makes b plan calls p q
  pub few : length calls ≤ most
  pub comes : IsEffort calls effort
  pub ends : EndsSo b.shape (number p) (rows_asked plan.request) told calls
  pub until : AreUntilFull told calls
  pub full : told ≡ put.BucketFull → CanSet b plan q
  pub tries : SetsAtMost16 calls
  pub spares : Spares b.shape plan.window (rows_asked plan.request) calls p

-- A put as a whole, as its callers see it.
pub record PutsWhole (b : Board) (plan : Plan) (most : ℕ) (told : PutAnswer)
    (effort : Effort) (p q : Pass) : Type 0 where
  pub calls : List PutCall
  pub makes : Makes b plan calls p q
  pub few : length calls ≤ most
  pub comes : IsEffort calls effort
  pub answer : IsPutAnswer b.shape (number p) (rows_asked plan.request) told calls
  pub not_stored : told ≢ put.Stored → AreOpen calls
  pub tries : SetsAtMost16 calls
  pub full : CostsOneItem calls
  pub spares : Spares b.shape plan.window (rows_asked plan.request) calls p

-- ---- at most so many calls

-- to give up segments in turn, once round
abbrev pub most_in_turn : Shape → ℕ
most_in_turn shape = 2 * shape.segments_each + 2

-- to make room by any policy, with no free segment that can be taken, and with one that is tried
abbrev pub most_at_last : Shape → ℕ
most_at_last shape = (shape.rows + 1) + 2 * most_in_turn shape

abbrev pub most_for_room : Shape → ℕ
most_for_room shape = 1 + most_at_last shape

-- for a set that makes room
abbrev pub most_for_set : Shape → ℕ
most_for_set shape = 32 + most_for_room shape

-- for a put: beside these a look, the evict of one row, and 16 sets
abbrev pub most_for_put : Shape → ℕ
most_for_put shape = most_for_set shape + 18
