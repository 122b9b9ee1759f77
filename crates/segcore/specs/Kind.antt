-- The kinds of step: the one word that each touches, what that word becomes,
-- the events that the step adds, and when a pass may take it.
use Rattle.std.specs.Prelude.{◌≡◌, ℕ, ◌+◌, ◌%◌, ◌^◌, ◌<◌, ◌≤◌, ◌==◌, ◌⊎◌, Bool, true, false, List, [], ◌∷◌, ◌++◌, Option, Some, None, bit_or, if◌then◌else◌, ◌*◌}
use prog.Atomic.{either}
use Rattle.segword.specs.Words.{chain_word, covers, row_width, Shape}
use Rattle.segmodel.specs.declared.entry.Entry.TheVariants as entry
use Rattle.segmodel.specs.Words.{after, bucket_of, Follows, key_of, owner, Reply, Request, tag_of}
use Rattle.segcore.specs.declared.event.Event.{Event}
use Rattle.segcore.specs.declared.event.Event.TheVariants.{Took, Bounced, Glanced, Freed, Replied, Filled, Linked, Relinked, Unlinked, Drew, Put, Chained, Bumped, Entered, Left, Refilled}
use Rattle.segcore.specs.declared.cell.Cell.{Cell}
use Rattle.segcore.specs.declared.cell.Cell.TheVariants.{OfCounter, OfBucket, OfOverflow, OfSegment, OfRow}
use Rattle.segcore.specs.Event.{AllBy, seen}
use Rattle.segcore.specs.Bucket.{Slot, item, copy, last, fresh_position, is, bucket_after}
use Rattle.segcore.specs.Overflow.{drawn_in}
use Rattle.segcore.specs.Row.{row_after, span_in}
use Rattle.segcore.specs.Segment.{inside}
use Rattle.segcore.specs.ItemWord.{packed, IsInItem}
use Rattle.segcore.specs.Lawful.{IsSegment, Fits, IsLawful}
use Rattle.segcore.specs.Word.{IsCell, same_cell, word, IsAt, IsItemAt}
use Rattle.segcore.specs.declared.event.Leaving.{Leaving}

-- what a pass can do to one word of the table, and what it needs for that
pub data Step : Type 0 where
  -- of a bucket; whether the pass has its bit
  take : ℕ → Bool → Step
  -- of a bucket: whether the version goes up, and the refused write that enters the history with it
  release : ℕ → Bool → Option (Request × Reply) → Step
  -- at the information word of a bucket, under its bit
  info_look : ℕ → Step
  -- the same without the bit, for `gets`; whether the pass has the bit
  glance : ℕ → Bool → Step
  -- at an item word, under the bit or without it, or at the counter of overflow buckets
  look : Cell → Step
  -- for a request: segment, row, position and its cell,
  -- and the word that is to be there (a link finds 0, a replace an item)
  link : Request → ℕ → ℕ → ℕ → Cell → ℕ → Step
  -- a key, the segment and the row that its item names, its frequency,
  -- the segment and the row that it names from then on, its position and cell
  relink : List ℕ → ℕ → ℕ → ℕ → ℕ → ℕ → ℕ → Cell → Step
  -- a key, its position and cell, the word that is to be there, and why the key's item leaves
  clear : List ℕ → ℕ → Cell → ℕ → Leaving → Step
  -- for a bucket, at a depth of its chain: the number of drawn buckets that is expected
  draw : ℕ → ℕ → ℕ → Step
  -- for a bucket: word 1 of the overflow bucket of this number takes this word
  fill : ℕ → ℕ → ℕ → Step
  -- the last word of a bucket's chain, of this cell and with this word,
  -- becomes the chain word of this overflow bucket
  chain : ℕ → Cell → ℕ → ℕ → Step
  -- at a bucket's position: its cell, the item's tag, segment, row and frequency,
  -- and the new frequency
  bump : ℕ → ℕ → Cell → ℕ → ℕ → ℕ → ℕ → ℕ → Step
  -- segment, row, place in the row, word
  row_store : ℕ → ℕ → ℕ → ℕ → Step
  row_load : ℕ → ℕ → ℕ → Step
  -- of a segment: one reader more; one fewer; and, if it has this deadline and no reader,
  -- another deadline
  enter : ℕ → Step
  leave : ℕ → Step
  none_reading : ℕ → ℕ → ℕ → Step

-- the one word that the step touches
abbrev pub cell : Step → Cell
cell (take bucket own) = OfBucket bucket 0
cell (release bucket counted said) = OfBucket bucket 0
cell (info_look bucket) = OfBucket bucket 0
cell (glance bucket own) = OfBucket bucket 0
cell (look of) = of
cell (link request segment row position of old) = of
cell (relink key from from_row frequency segment row position of) = of
cell (clear key position of old why) = of
cell (draw bucket depth from) = OfCounter
cell (fill bucket number w) = OfOverflow number 1
cell (chain bucket of old number) = of
cell (bump bucket position of tag segment row frequency raised) = of
cell (row_store segment row place w) = OfRow segment row place
cell (row_load segment row place) = OfRow segment row place
cell (enter segment) = OfSegment segment
cell (leave segment) = OfSegment segment
cell (none_reading segment old deadline) = OfSegment segment

-- what the found word becomes; sums are those of 64-bit words
abbrev pub becomes : Step → ℕ → ℕ
becomes (take bucket own) = λ found. bit_or found 1
becomes (release bucket true said) = λ found. (found + 4294967295) % 2 ^ 64
becomes (release bucket false said) = λ found. (found + 18446744073709551615) % 2 ^ 64
becomes (link request segment row position of old) =
    λ found. either (found == old) (packed (tag_of (key_of request)) 1 segment row) found
becomes (relink key from from_row frequency segment row position of) =
    λ found. either (found == packed (tag_of key) frequency from from_row)
    (packed (tag_of key) frequency segment row) found
becomes (clear key position of old why) = λ found. either (found == old) 0 found
becomes (draw bucket depth from) = λ found. either (found == from) (from + 1) found
becomes (fill bucket number w) = λ found. w
becomes (chain bucket of old number) = λ found. either (found == old) (chain_word number) found
becomes (bump bucket position of tag segment row frequency raised) =
    λ found.
    either (found == packed tag frequency segment row) (packed tag raised segment row) found
becomes (row_store segment row place w) = λ found. w
becomes (enter segment) = λ found. (found + 1) % 2 ^ 64
becomes (leave segment) = λ found. (found + 18446744073709551615) % 2 ^ 64
becomes (none_reading segment old deadline) =
    λ found. either (found == old * 2 ^ 32) (deadline * 2 ^ 32) found
becomes _ = λ found. found

-- the event of the refused write that enters the history with a release, if there is one
abbrev pub told : ℕ → Option (Request × Reply) → List Event
told pass None = []
told pass (Some said) = Replied pass said.0 said.1 ∷ []

-- the event for a bit that was found set; none, if the bit is the pass's own
abbrev pub unless_own : Bool → Event → List Event
unless_own true event = []
unless_own false event = event ∷ []

-- the events that a pass adds by a step that found this word, the newest first;
-- an exchange that fails adds none
abbrev pub adds : Step → ℕ → ℕ → List Event
adds (take bucket own) pass found =
    if found % 2 == 0 then Took pass bucket ∷ [] else unless_own own (Bounced pass bucket)
adds (release bucket counted said) pass found = Freed pass bucket counted ∷ told pass said
adds (glance bucket own) pass found =
    if found % 2 == 0 then [] else unless_own own (Glanced pass bucket)
adds (link request segment row position of old) pass found =
    if found == old then Linked pass request segment row position ∷ [] else []
adds (relink key from from_row frequency segment row position of) pass found =
    if found == packed (tag_of key) frequency from from_row
    then Relinked pass key from from_row segment row position ∷ []
    else []
adds (clear key position of old why) pass found =
    if found == old then Unlinked pass key position why ∷ [] else []
adds (draw bucket depth from) pass found =
    if found == from then Drew pass bucket depth from ∷ [] else []
adds (fill bucket number w) pass found = Put pass bucket w ∷ []
adds (chain bucket of old number) pass found =
    if found == old then Chained pass bucket number ∷ [] else []
adds (bump bucket position of tag segment row frequency raised) pass found =
    if found == packed tag frequency segment row then Bumped pass segment row raised ∷ [] else []
adds (row_store segment row place w) pass found = Filled pass segment row place w ∷ []
adds (enter segment) pass found = Entered pass segment ∷ []
adds (leave segment) pass found = Left pass segment ∷ []
adds (none_reading segment old deadline) pass found =
    if found == old * 2 ^ 32 then Refilled pass segment deadline ∷ [] else []
adds _ pass found = []

-- ---- when a step may be taken

-- the pass has the bit of the bucket
abbrev pub HasBit : Shape → List Event → ℕ → ℕ → Type 0
HasBit shape trace pass bucket =
    (bucket < shape.buckets) × ((bucket_after shape trace bucket).holder ≡ Some pass)

-- `own` tells whether the pass has the bit
abbrev pub KnowsBit : Shape → List Event → ℕ → ℕ → Bool → Type 0
KnowsBit shape trace pass bucket own =
    (bucket < shape.buckets) × (is (bucket_after shape trace bucket).holder pass ≡ own)

-- any pass may look at the counter of overflow buckets and at item words
abbrev pub MayLookAt : Cell → Type 0
MayLookAt OfCounter = Unit {0}
MayLookAt (OfBucket bucket w) = 0 < w
MayLookAt (OfOverflow number w) = 0 < w
MayLookAt _ = ⊥

-- the row is one of the item that begins in this first one
abbrev pub IsRowOf : List Event → ℕ → ℕ → ℕ → Type 0
IsRowOf trace segment first row = covers first (span_in trace segment first) row ≡ true

-- The row is the pass's own.
-- Or the pass is in the row's segment, and the row was linked in this filling.
-- Or a word of a bucket whose bit the pass has names the row, or an item that the row is of.
abbrev pub MayRead : Shape → List Event → ℕ → ℕ → ℕ → Type 0
MayRead shape trace pass segment row =
    (owner shape segment ≡ pass)
    ⊎ (((0 < inside trace pass segment)
    × ((key : List ℕ) × ((row_after trace segment row).linked ≡ Some key)))
    ⊎ ((bucket : ℕ) × (position : ℕ) × (named : Slot) × HasBit shape trace pass bucket
    × ((bucket_after shape trace bucket).items position ≡ item named) × (named.segment ≡ segment)
    × IsRowOf trace segment named.row row))

-- the refused write is of the bucket, and a cache of one thread refuses it
abbrev pub MayRefuse : Shape → List Event → ℕ → ℕ → Option (Request × Reply) → Type 0
MayRefuse shape trace pass bucket None = Unit {0}
MayRefuse shape trace pass bucket (Some said) =
    (bucket_of shape (key_of said.0) ≡ bucket) × Fits shape trace (Replied pass said.0 said.1)

-- a pass that has seen this trace may take the step
abbrev pub May : Shape → List Event → ℕ → Step → Type 0
May shape trace pass (take bucket own) = KnowsBit shape trace pass bucket own
May shape trace pass (release bucket counted said) =
    HasBit shape trace pass bucket
    × ((bucket_after shape trace bucket).written ≡ counted)
    × ((bucket_after shape trace bucket).spare ≡ None)
    × MayRefuse shape trace pass bucket said
May shape trace pass (info_look bucket) = HasBit shape trace pass bucket
May shape trace pass (glance bucket own) = KnowsBit shape trace pass bucket own
May shape trace pass (look of) = IsCell shape of × MayLookAt of
May shape trace pass (link request segment row position of old) =
    Fits shape trace (Linked pass request segment row position)
    × IsItemAt shape trace (bucket_of shape (key_of request)) position of
May shape trace pass (relink key from from_row frequency segment row position of) =
    Fits shape trace (Relinked pass key from from_row segment row position)
    × IsItemAt shape trace (bucket_of shape key) position of
May shape trace pass (clear key position of old why) =
    Fits shape trace (Unlinked pass key position why)
    × IsItemAt shape trace (bucket_of shape key) position of
May shape trace pass (draw bucket depth from) =
    let state = bucket_after shape trace bucket in
    HasBit shape trace pass bucket
    × (state.spare ≡ None)
    × (depth ≡ state.chained + 1)
    × (depth < 4)
    × (from < shape.overflow)
    × (from ≤ drawn_in trace)
May shape trace pass (fill bucket number w) =
    Fits shape trace (Put pass bucket w) × ((bucket_after shape trace bucket).spare ≡ Some number)
May shape trace pass (chain bucket of old number) =
    let state = bucket_after shape trace bucket in
    Fits shape trace (Chained pass bucket number)
    × IsAt trace bucket (last state) of
    × (state.items (fresh_position state) ≡ copy old)
May shape trace pass (bump bucket position of tag segment row frequency raised) =
    (bucket < shape.buckets)
    × IsItemAt shape trace bucket position of
    × IsInItem tag segment row
    × (frequency < raised)
    × (raised < 256)
May shape trace pass (row_store segment row place w) =
    Fits shape trace (Filled pass segment row place w)
May shape trace pass (row_load segment row place) =
    IsSegment shape segment
    × (row < shape.rows)
    × (place < row_width)
    × MayRead shape trace pass segment row
May shape trace pass (enter segment) = Fits shape trace (Entered pass segment)
May shape trace pass (leave segment) = Fits shape trace (Left pass segment)
May shape trace pass (none_reading segment old deadline) =
    IsSegment shape segment
    × Follows shape (after shape (seen trace)) (entry.Refilled pass segment deadline)
    × (deadline < 2 ^ 32)

-- What a step leaves if it is taken after this trace.
-- It touches a word of the table, and its events are of its pass.
-- The longer trace is lawful.
-- The touched word becomes what the step makes it, and every other word stays.
pub record KeepsLaw (shape : Shape) (step : Step) (pass : ℕ) (trace : List Event) : Type 0 where
  pub inside : IsCell shape (cell step)
  pub own : AllBy pass (adds step pass (word shape trace (cell step)))
  pub legal : IsLawful shape (adds step pass (word shape trace (cell step)) ++ trace)
  pub words : (other : Cell)
      → IsCell shape other
      → word shape (adds step pass (word shape trace (cell step)) ++ trace) other
      ≡ (if same_cell (cell step) other then becomes step (word shape trace (cell step))
      else word shape trace other)
