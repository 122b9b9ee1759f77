-- Marked histories: histories of entries,
-- with marks that say where items came to stand and how chains grew.
-- Where the item of a key is after a marked history, and which marked histories hold together.
use Rattle.std.specs.Prelude.{◌≡◌, ℕ, ◌+◌, ◌*◌, ◌%◌, ◌<◌, ◌==◌, ◌&&◌, ◌||◌, Bool, true, false, List, [], ◌∷◌, Option, Some, None, if◌then◌else◌}
use Rattle.std.specs.Str.{bytes_eq}
use Rattle.segword.specs.Words.{Shape}
use Rattle.segmodel.specs.declared.request.Reply.TheVariants.{Stored}
use Rattle.segmodel.specs.declared.entry.Entry.TheVariants as entry
use Rattle.segmodel.specs.Words.{after, bucket_of, Entry, key_of, Reply, standing}
use Rattle.segcore.specs.declared.event.Event.{Event}
use Rattle.segcore.specs.declared.event.Event.TheVariants.{Replied, Linked, Relinked, Unlinked, Drew, Chained, Bumped, Entered, Left, Refilled}
use Rattle.segcore.specs.Event.{removal}
use Rattle.segcore.specs.Bucket.{Slot, slot}

-- an entry, or a mark
pub data Mark : Type 0 where
  enters : Entry → Mark
  -- an overflow bucket was drawn for a bucket, and joined its chain
  drawn : ℕ → Mark
  chained : ℕ → Mark
  -- an item came to stand: key, segment, row, position along the key's chain, frequency
  at : List ℕ → ℕ → ℕ → ℕ → ℕ → Mark
  -- the item of a row got a frequency: segment, row, frequency
  bumped : ℕ → ℕ → ℕ → Mark
  -- a pass came into a segment; a pass left a segment
  entered : ℕ → ℕ → Mark
  left : ℕ → ℕ → Mark

-- the frequency that the last `at` or `bumped` of a row says
abbrev pub frequency_in : List Mark → ℕ → ℕ → ℕ
frequency_in [] segment row = 0
frequency_in (at key s r position frequency ∷ marks) segment row =
    if (s == segment) && (r == row) then frequency else frequency_in marks segment row
frequency_in (bumped s r frequency ∷ marks) segment row =
    if (s == segment) && (r == row) then frequency else frequency_in marks segment row
frequency_in (_ ∷ marks) segment row = frequency_in marks segment row

-- The marked history after an event. A link adds the mark of its item, and then its entry.
-- So does a move, whose item keeps its frequency.
abbrev pub marks_of : Event → List Mark → List Mark
marks_of (Replied pass request reply) marks = enters (entry.Wrote pass request reply None) ∷ marks
marks_of (Linked pass request segment row position) marks =
    enters (entry.Wrote pass request Stored (Some segment))
    ∷ at (key_of request) segment row position 1 ∷ marks
marks_of (Relinked pass key from from_row segment row position) marks =
    enters (entry.Moved pass key from segment)
    ∷ at key segment row position (frequency_in marks from from_row) ∷ marks
marks_of (Unlinked pass key position why) marks = enters (removal pass key why) ∷ marks
marks_of (Refilled pass segment deadline) marks =
    enters (entry.Refilled pass segment deadline) ∷ marks
marks_of (Drew pass bucket depth number) marks = drawn bucket ∷ marks
marks_of (Chained pass bucket number) marks = chained bucket ∷ marks
marks_of (Bumped pass segment row frequency) marks = bumped segment row frequency ∷ marks
marks_of (Entered pass segment) marks = entered pass segment ∷ marks
marks_of (Left pass segment) marks = left pass segment ∷ marks
marks_of _ marks = marks

-- the marked history that the events of a trace add up to
abbrev pub marked : List Event → List Mark
marked [] = []
marked (event ∷ trace) = marks_of event (marked trace)

-- the history without its marks
abbrev pub entries : List Mark → List Entry
entries [] = []
entries (enters added ∷ marks) = added ∷ entries marks
entries (_ ∷ marks) = entries marks

-- how many overflow buckets were drawn for a bucket, and how many joined its chain
abbrev pub drawn_for : List Mark → ℕ → ℕ
drawn_for [] bucket = 0
drawn_for (drawn b ∷ marks) bucket =
    if b == bucket then drawn_for marks bucket + 1 else drawn_for marks bucket
drawn_for (_ ∷ marks) bucket = drawn_for marks bucket

abbrev pub chained_to : List Mark → ℕ → ℕ
chained_to [] bucket = 0
chained_to (chained b ∷ marks) bucket =
    if b == bucket then chained_to marks bucket + 1 else chained_to marks bucket
chained_to (_ ∷ marks) bucket = chained_to marks bucket

-- how wide a bucket is: 1, and how many buckets were drawn for it
abbrev pub width : List Mark → ℕ → ℕ
width marks bucket = drawn_for marks bucket + 1

-- whether two keys are one
unfoldable pub same_key : List ℕ → List ℕ → Bool
same_key one other = bytes_eq one other

-- where an item is once a bucket has joined its chain:
-- from the chain's last word it moves to word 1 of that bucket
abbrev pub onward : ℕ → Option ℕ → Option ℕ
onward depth None = None
onward depth (Some position) = Some (if 8 * depth + 7 == position then 8 * depth + 9 else position)

-- the position where the last `at` of a key, and the chainings after it, put its item
abbrev pub place : Shape → List Mark → List ℕ → Option ℕ
place shape [] key = None
place shape (at other segment row position frequency ∷ marks) key =
    if same_key other key then Some position else place shape marks key
place shape (chained bucket ∷ marks) key =
    if bucket == bucket_of shape key
    then onward (chained_to marks bucket) (place shape marks key)
    else place shape marks key
place shape (_ ∷ marks) key = place shape marks key

-- what the last `at` of a key says: the segment and the row that its item names
abbrev pub last_at : List Mark → List ℕ → Option Slot
last_at [] key = None
last_at (at other segment row position frequency ∷ marks) key =
    if same_key other key then Some (slot key segment row) else last_at marks key
last_at (_ ∷ marks) key = last_at marks key

-- ---- which marked histories hold together along the words of chains

-- the key doesn't stand
abbrev pub IsAbsent : Shape → List Mark → List ℕ → Type 0
IsAbsent shape marks key = standing (after shape (entries marks)) key ≡ None

-- the position is that of an item word of the key's chain
abbrev pub IsIn : Shape → List Mark → List ℕ → ℕ → Type 0
IsIn shape marks key position =
    (position < 8 * chained_to marks (bucket_of shape key) + 8) × (0 < position % 8)

-- a Stored stands right after an `at` of its key
abbrev pub IsAfterAt : Reply → List ℕ → List Mark → Type 0
IsAfterAt Stored key (at other segment row position frequency ∷ marks) = other ≡ key
IsAfterAt Stored key _ = ⊥
IsAfterAt _ key marks = Unit {0}

abbrev pub MayMark : Shape → List Mark → Mark → Type 0
MayMark shape marks (at key segment row position frequency) =
    IsIn shape marks key position
    × (¬ (IsAbsent shape marks key) → place shape marks key ≡ Some position)
MayMark shape marks (enters (entry.Wrote pass request reply segment)) =
    IsAfterAt reply (key_of request) marks
MayMark shape marks (chained bucket) = drawn_for marks bucket ≡ chained_to marks bucket + 1
MayMark shape marks _ = Unit {0}

-- An `at` is in the chain that its key had then.
-- If the key stood already, the `at` is where the key's item was.
-- A value is stored only right after an `at` of its key.
-- A bucket that joins a chain was drawn for it, and is the only one that waits.
abbrev pub IsWellMarked : Shape → List Mark → Type 0
IsWellMarked shape [] = Unit {0}
IsWellMarked shape (mark ∷ marks) = IsWellMarked shape marks × MayMark shape marks mark

-- ---- and which along segments and rows

-- how many overflow buckets were drawn in all
abbrev pub all_drawn : List Mark → ℕ
all_drawn [] = 0
all_drawn (drawn bucket ∷ marks) = all_drawn marks + 1
all_drawn (_ ∷ marks) = all_drawn marks

-- how often passes came into a segment, and how often passes left it
abbrev pub all_entered : List Mark → ℕ → ℕ
all_entered [] segment = 0
all_entered (entered pass s ∷ marks) segment =
    if s == segment then all_entered marks segment + 1 else all_entered marks segment
all_entered (_ ∷ marks) segment = all_entered marks segment

abbrev pub all_left : List Mark → ℕ → ℕ
all_left [] segment = 0
all_left (left pass s ∷ marks) segment =
    if s == segment then all_left marks segment + 1 else all_left marks segment
all_left (_ ∷ marks) segment = all_left marks segment

-- how often this pass came into the segment, and how often it left the segment
abbrev pub times_entered : ℕ → List Mark → ℕ → ℕ
times_entered pass [] segment = 0
times_entered pass (entered q s ∷ marks) segment =
    if (q == pass) && (s == segment)
    then times_entered pass marks segment + 1
    else times_entered pass marks segment
times_entered pass (_ ∷ marks) segment = times_entered pass marks segment

abbrev pub times_left : ℕ → List Mark → ℕ → ℕ
times_left pass [] segment = 0
times_left pass (left q s ∷ marks) segment =
    if (q == pass) && (s == segment)
    then times_left pass marks segment + 1
    else times_left pass marks segment
times_left pass (_ ∷ marks) segment = times_left pass marks segment

-- whether an `at` names the segment
abbrev pub is_segment_named : List Mark → ℕ → Bool
is_segment_named [] segment = false
is_segment_named (at key s row position frequency ∷ marks) segment =
    (s == segment) || is_segment_named marks segment
is_segment_named (_ ∷ marks) segment = is_segment_named marks segment

-- the key of the `at` that names a row in this filling of its segment
abbrev pub linked_in : List Mark → ℕ → ℕ → Option (List ℕ)
linked_in [] segment row = None
linked_in (at key s r position frequency ∷ marks) segment row =
    if (s == segment) && (r == row) then Some key else linked_in marks segment row
linked_in (enters (entry.Refilled pass s deadline) ∷ marks) segment row =
    if s == segment then None else linked_in marks segment row
linked_in (_ ∷ marks) segment row = linked_in marks segment row

abbrev pub MayCome : List Mark → Mark → Type 0
MayCome marks (at key segment row position frequency) = linked_in marks segment row ≡ None
MayCome marks (entered pass segment) = is_segment_named marks segment ≡ true
MayCome marks (enters (entry.Refilled pass segment deadline)) =
    all_entered marks segment ≡ all_left marks segment
MayCome marks _ = Unit {0}

-- Each `at` is of a row that no other `at` names in this filling.
-- Before each `entered` an `at` names its segment.
-- At each Refilled as many had left the segment as had come in.
abbrev pub IsOrderly : List Mark → Type 0
IsOrderly [] = Unit {0}
IsOrderly (mark ∷ marks) = IsOrderly marks × MayCome marks mark
