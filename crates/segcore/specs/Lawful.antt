-- Which event may come next after a trace, and which traces are lawful:
-- each event could come where it stands.
use Rattle.std.specs.Prelude.{◌≡◌, ◌≢◌, ℕ, ◌+◌, ◌*◌, ◌<◌, ◌==◌, Bool, true, false, List, [], ◌∷◌, ◌⊎◌, Option, Some, None, MatchBool, MatchOption, ◌^◌}
use Rattle.segword.specs.Words.{covers, IsKey, IsValue, row_width, Shape, span_of}
use Rattle.segmodel.specs.declared.request.Reply.TheVariants.{NotStored, Exists, NotFound}
use Rattle.segmodel.specs.Words.{after, bucket_of, Follows, key_of, owner, Reply, standing}
use Rattle.segmodel.specs.Words.{value_of}
use Rattle.segcore.specs.declared.event.Event.{Event}
use Rattle.segcore.specs.declared.event.Event.TheVariants.{Took, Bounced, Glanced, Freed, Replied, Filled, Linked, Relinked, Unlinked, Drew, Put, Chained, Bumped, Entered, Left, Refilled}
use Rattle.segcore.specs.Event.{by, entry_of, seen}
use Rattle.segcore.specs.Bucket.{Slot, slot, nothing, item, copy, last, fresh_position, IsPosition, bucket_at, is, bucket_after}
use Rattle.segcore.specs.Overflow.{drawn_in}
use Rattle.segcore.specs.Row.{Row, Holds, row_after, span_in, frequency_of}
use Rattle.segcore.specs.Segment.{inside, readers, was_used}
use Rattle.segcore.specs.ItemWord.{IsWordOf}
use Rattle.segcore.specs.declared.event.Leaving.TheVariants.{Deletes, Evicts}
use Rattle.segcore.specs.declared.event.Leaving.{Leaving}

-- who has the bit just before an event of its bucket: nobody before a take,
-- and else the pass whose event it is
abbrev pub needs : Event → Option ℕ
needs (Took pass bucket) = None
needs event = Some (by event)

abbrev pub IsGuarded : Shape → List Event → Event → Type 0
IsGuarded shape trace event =
    MatchOption (bucket_at shape event)
    (Unit {0})
    (λ bucket. (bucket < shape.buckets) × ((bucket_after shape trace bucket).holder ≡ needs event))

-- a cache of one thread allows the entry that the event adds, if it adds one
abbrev pub FollowsOn : Shape → List Event → Event → Type 0
FollowsOn shape trace event =
    MatchOption (entry_of event) (Unit {0}) (Follows shape (after shape (seen trace)))

abbrev pub IsSegment : Shape → ℕ → Type 0
IsSegment shape segment = segment < shape.passes * shape.segments_each

-- a row of the pass, not linked in this filling
abbrev pub IsOwnRow : Shape → List Event → ℕ → ℕ → ℕ → Type 0
IsOwnRow shape trace pass segment row =
    IsSegment shape segment
    × (row < shape.rows)
    × (owner shape segment ≡ pass)
    × ((row_after trace segment row).linked ≡ None)

-- so many rows from a first one on are of the pass, and not linked in this filling
abbrev pub AreOwnRows : Shape → List Event → ℕ → ℕ → ℕ → ℕ → Type 0
AreOwnRows shape trace pass segment first rows =
    MatchBool (rows == 1)
    (IsOwnRow shape trace pass segment first)
    ((row : ℕ) → covers first rows row ≡ true → IsOwnRow shape trace pass segment row)

-- a refused write leaves all as it is
abbrev pub IsRefusal : Reply → Type 0
IsRefusal NotStored = Unit {0}
IsRefusal Exists = Unit {0}
IsRefusal NotFound = Unit {0}
IsRefusal _ = ⊥

-- the word at a position of its chain has an item of the key
abbrev pub HasItemOf : Shape → List Event → List ℕ → ℕ → Type 0
HasItemOf shape trace key position =
    (named : Slot)
    × ((bucket_after shape trace (bucket_of shape key)).items position ≡ item named)
    × (named.key ≡ key)

-- a link puts its item into an empty word if the key stands nowhere,
-- or in the place of an item of the key
abbrev pub HasRoomFor : Shape → List Event → List ℕ → ℕ → Type 0
HasRoomFor shape trace key position =
    (((bucket_after shape trace (bucket_of shape key)).items position ≡ nothing)
    × (standing (after shape (seen trace)) key ≡ None))
    ⊎ HasItemOf shape trace key position

-- an evicted item is of the segment that is named, and a delete is the first write under its bit
abbrev pub MayLeave : Leaving → Bool → ℕ → Type 0
MayLeave (Deletes now) written segment = written ≡ false
MayLeave (Evicts evicted) written segment = evicted ≡ segment

-- the key stands in the segment, and the row holds it with its value
abbrev pub HoldsWhatStands : Shape → List Event → List ℕ → ℕ → Row → Type 0
HoldsWhatStands shape trace key segment row =
    (value : List ℕ)
    × (standing (after shape (seen trace)) key
    ≡ Some (record { value = value; segment = segment }))
    × Holds row key value

abbrev pub IsOther : ℕ → Option ℕ → Type 0
IsOther pass holder = (other : ℕ) × (holder ≡ Some other) × (other ≢ pass)

-- what each event asks of the words
abbrev pub Suits : Shape → List Event → Event → Type 0
Suits shape trace (Took pass bucket) = Unit {0}
Suits shape trace (Bounced pass bucket) = IsOther pass (bucket_after shape trace bucket).holder
Suits shape trace (Glanced pass bucket) = IsOther pass (bucket_after shape trace bucket).holder
Suits shape trace (Freed pass bucket counted) =
    let state = bucket_after shape trace bucket in
    (state.written ≡ counted) × (state.spare ≡ None)
Suits shape trace (Replied pass request reply) = IsRefusal reply
Suits shape trace (Filled pass segment row place word) =
    IsOwnRow shape trace pass segment row × (place < row_width)
Suits shape trace (Linked pass request segment row position) =
    let state = bucket_after shape trace (bucket_of shape (key_of request)) in
    AreOwnRows shape trace pass segment row (span_of (key_of request) (value_of request))
    × Holds (row_after trace segment row) (key_of request) (value_of request)
    × (state.written ≡ false)
    × IsPosition state position
    × HasRoomFor shape trace (key_of request) position
    × IsKey (key_of request)
    × IsValue (value_of request)
Suits shape trace (Relinked pass key from from_row segment row position) =
    let state = bucket_after shape trace (bucket_of shape key) in
    AreOwnRows shape trace pass segment row (span_in trace segment row)
    × HoldsWhatStands shape trace key from (row_after trace segment row)
    × (state.items position ≡ item (slot key from from_row))
Suits shape trace (Unlinked pass key position why) =
    let state = bucket_after shape trace (bucket_of shape key) in
    (named : Slot)
    × (state.items position ≡ item named)
    × (named.key ≡ key)
    × MayLeave why state.written named.segment
Suits shape trace (Drew pass bucket depth number) =
    let state = bucket_after shape trace bucket in
    (number ≡ drawn_in trace)
    × (number < shape.overflow)
    × (state.spare ≡ None)
    × (depth ≡ state.chained + 1)
    × (depth < 4)
Suits shape trace (Put pass bucket word) =
    let state = bucket_after shape trace bucket in
    (number : ℕ)
    × (state.spare ≡ Some number)
    × ((named : Slot) × (state.items (last state) ≡ item named) × IsWordOf named word)
Suits shape trace (Chained pass bucket number) =
    let state = bucket_after shape trace bucket in
    (state.spare ≡ Some number)
    × ((named : Slot) × (word : ℕ) × (state.items (last state) ≡ item named)
    × (state.items (fresh_position state) ≡ copy word))
Suits shape trace (Bumped pass segment row frequency) =
    (frequency_of trace segment row < frequency) × (frequency < 256)
Suits shape trace (Entered pass segment) =
    (pass < shape.passes)
    × IsSegment shape segment
    × (inside trace pass segment < 2)
    × (was_used trace segment ≡ true)
Suits shape trace (Left pass segment) =
    (pass < shape.passes) × IsSegment shape segment × (0 < inside trace pass segment)
Suits shape trace (Refilled pass segment deadline) =
    IsSegment shape segment
    × (owner shape segment ≡ pass)
    × (readers trace segment ≡ 0)
    × (deadline < 2 ^ 32)

-- the event may come next
pub record Fits (shape : Shape) (trace : List Event) (event : Event) : Type 0 where
  pub guarded : IsGuarded shape trace event
  pub follows : FollowsOn shape trace event
  pub suits : Suits shape trace event

-- each event could come where it stands
abbrev pub IsLawful : Shape → List Event → Type 0
IsLawful shape [] = Unit {0}
IsLawful shape (event ∷ trace) = IsLawful shape trace × Fits shape trace event

-- none of the events is of the bucket
abbrev pub NoneAt : Shape → ℕ → List Event → Type 0
NoneAt shape bucket [] = Unit {0}
NoneAt shape bucket (event ∷ trace) =
    (is (bucket_at shape event) bucket ≡ false) × NoneAt shape bucket trace

-- whether an event asks of the words what its pass can't know before the moment itself
abbrev pub is_of_now : Event → Bool
is_of_now (Took pass bucket) = true
is_of_now (Bounced pass bucket) = true
is_of_now (Glanced pass bucket) = true
is_of_now (Drew pass bucket depth number) = true
is_of_now (Bumped pass segment row frequency) = true
is_of_now (Refilled pass segment deadline) = true
is_of_now _ = false
