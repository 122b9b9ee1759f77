-- A trace in which each kind of event comes,
-- and a schedule with each kind of step by which two passes reach it.
-- They show that the conditions of the theorems can be met.
-- There are one bucket, which the keys a and b share, one overflow bucket,
-- and two passes of two segments of two rows.
-- A trace is named after what was done last.
use Rattle.std.specs.Prelude.{ℕ, true, false, List, [], ◌∷◌, ◌++◌, Some, None, replicate, slice_index_or}
use Rattle.segword.specs.Words.{Shape, word_count}
use Rattle.segmodel.specs.declared.request.Request.TheVariants.{Set, Add, Replace}
use Rattle.segmodel.specs.declared.request.Reply.TheVariants.{NotStored}
use Rattle.segcore.specs.declared.event.Event.{Event}
use Rattle.segcore.specs.declared.event.Event.TheVariants.{Took, Bounced, Glanced, Freed, Replied, Filled, Linked, Relinked, Unlinked, Drew, Put, Chained, Bumped, Entered, Left, Refilled}
use Rattle.segcore.specs.declared.view.View.{View}
use Rattle.segcore.specs.declared.cell.Cell.TheVariants.{OfBucket, OfOverflow}
use Rattle.segcore.specs.Kind.{Step, take, release, info_look, glance, look, link, relink, clear, draw, fill, chain, bump, row_store, row_load, enter, leave, none_reading}
use Rattle.segcore.specs.Mark.{Mark, marked}
use Rattle.segcore.specs.World.{World, after_step}
use Rattle.segcore.specs.declared.event.Leaving.TheVariants.{Deletes, Evicts}

abbrev pub shape : Shape
shape = record {
  buckets = 1;
  overflow = 1;
  passes = 2;
  segments_each = 2;
  rows = 2;
  first_version = 0;
}

-- the keys a and b, the values 1 and 2
abbrev pub a : List ℕ
a = 97 ∷ []

abbrev pub b : List ℕ
b = 98 ∷ []

abbrev pub one : List ℕ
one = 49 ∷ []

abbrev pub two : List ℕ
two = 50 ∷ []

-- ---- a trace

-- the passes refill segments of their own, all up to moment 9
abbrev pub opened : List Event
opened = Refilled 0 1 9 ∷ Refilled 1 2 9 ∷ Refilled 0 0 9 ∷ []

-- pass 0 writes a row of segment 0, and sets a in word 7
abbrev pub stored : List Event
stored =
    Freed 0 0 true ∷ Linked 0 (Set a one 0) 0 0 7 ∷ Filled 0 0 0 4 49 ∷ Filled 0 0 0 1 97
    ∷ Filled 0 0 0 0 257 ∷ Took 0 0 ∷ opened

-- pass 1 reads a, and raises the frequency of its item
abbrev pub bumped : List Event
bumped = Left 1 0 ∷ Bumped 1 0 0 2 ∷ Entered 1 0 ∷ stored

-- pass 0 lets the chain grow: a moves on
abbrev pub moved : List Event
moved =
    Freed 0 0 false ∷ Chained 0 0 0 ∷ Put 0 0 0xaf60_2000_0000_0000 ∷ Drew 0 0 1 0 ∷ Took 0 0
    ∷ bumped

-- pass 1 adds b in word 1, while pass 0 finds the bit of pass 1 twice
abbrev pub added : List Event
added =
    Freed 1 0 true ∷ Linked 1 (Add b two 2) 2 0 1 ∷ Filled 1 2 0 4 50 ∷ Filled 1 2 0 1 98
    ∷ Filled 1 2 0 0 257 ∷ Glanced 0 0 ∷ Bounced 0 0 ∷ Took 1 0 ∷ moved

-- an add of a by pass 1 is refused
abbrev pub refused : List Event
refused = Freed 1 0 false ∷ Replied 1 (Add a two 3) NotStored ∷ Took 1 0 ∷ added

-- pass 0 replaces a, at the position to which its item has moved, by an item in the pass's next row
abbrev pub replaced : List Event
replaced =
    Freed 0 0 true ∷ Linked 0 (Replace a two 4) 0 1 9 ∷ Filled 0 0 1 4 50 ∷ Filled 0 0 1 1 97
    ∷ Filled 0 0 1 0 257 ∷ Took 0 0 ∷ refused

-- pass 1 reads a and raises the frequency of its item,
-- and pass 0 moves the item to its other segment
abbrev pub relinked : List Event
relinked = Freed 0 0 false ∷ Relinked 0 a 0 1 1 0 9 ∷ Left 1 0 ∷ Bumped 1 0 1 2 ∷ Entered 1 0
    ∷ Filled 0 1 0 4 50 ∷ Filled 0 1 0 1 97 ∷ Filled 0 1 0 0 257 ∷ Took 0 0 ∷ replaced

-- pass 0 deletes b, and evicts a from the segment to which it was moved
abbrev pub evicted : List Event
evicted =
    Freed 0 0 false ∷ Unlinked 0 a 9 (Evicts 1) ∷ Took 0 0 ∷ Freed 0 0 true
    ∷ Unlinked 0 b 1 (Deletes 5) ∷ Took 0 0 ∷ relinked

-- pass 1 comes into segment 0, so that pass 0 can't refill it
abbrev pub read : List Event
read = Entered 1 0 ∷ evicted

-- pass 1 leaves segment 0, and comes into segment 2
abbrev pub elsewhere : List Event
elsewhere = Entered 1 2 ∷ Left 1 0 ∷ read

-- pass 0 refills segment 0, up to moment 20
abbrev pub refilled : List Event
refilled = Refilled 0 0 20 ∷ elsewhere

-- ---- a scan

-- The looks of a scan for a, but for the first. Up to word 6, a is still in word 7.
-- When word 7 is looked at, a has moved on. When the overflow bucket is looked at, a is gone.
abbrev pub looks : List (List Mark)
looks = replicate 5 (marked stored) ++ marked moved ∷ replicate 7 (marked evicted)

-- ---- a schedule

abbrev pub view_of : ℕ → List Event → View
view_of pass trace = record { number = pass; trace = trace; looks = []; turn = 0; dealt = 2 }

-- every word is 0, as the first version is
abbrev pub opening : World
opening = record { words = replicate (word_count shape) 0; views = view_of 0 [] ∷ view_of 1 [] ∷ []; trace = [] }

-- what a pass has seen in a world
abbrev pub view_in : World → ℕ → View
view_in world pass = slice_index_or world.views pass (view_of pass [])

-- a world after one step more
abbrev pub stepped : ℕ × Step → World → World
stepped taken world = after_step shape taken.0 (view_in world taken.0) taken.1 world

-- the world after these steps of passes, the last one first
abbrev pub after_steps : List (ℕ × Step) → World
after_steps [] = opening
after_steps (taken ∷ steps) = stepped taken (after_steps steps)

-- the steps that lead to each trace; an item word has the tag 0xaf6, for a and for b
abbrev pub to_opened : List (ℕ × Step)
to_opened = (0, none_reading 1 0 9) ∷ (1, none_reading 2 0 9) ∷ (0, none_reading 0 0 9) ∷ []

abbrev pub to_stored : List (ℕ × Step)
to_stored =
    (0, release 0 true None) ∷ (0, link (Set a one 0) 0 0 7 (OfBucket 0 7) 0)
    ∷ (0, row_store 0 0 4 49) ∷ (0, row_store 0 0 1 97) ∷ (0, row_store 0 0 0 257)
    ∷ (0, take 0 false) ∷ to_opened

-- a reader looks again once it is in the segment; the second bump expects a word that is gone
abbrev pub to_bumped : List (ℕ × Step)
to_bumped =
    (1, leave 0) ∷ (1, bump 0 7 (OfBucket 0 7) 0xaf6 0 0 1 2)
    ∷ (1, bump 0 7 (OfBucket 0 7) 0xaf6 0 0 1 2) ∷ (1, row_load 0 0 0) ∷ (1, look (OfBucket 0 7))
    ∷ (1, enter 0) ∷ (1, look (OfBucket 0 7)) ∷ to_stored

abbrev pub to_moved : List (ℕ × Step)
to_moved =
    (0, release 0 false None) ∷ (0, chain 0 (OfBucket 0 7) 0xaf60_2000_0000_0000 0)
    ∷ (0, fill 0 0 0xaf60_2000_0000_0000) ∷ (0, draw 0 1 0) ∷ (0, look (OfBucket 0 7))
    ∷ (0, take 0 false) ∷ to_bumped

abbrev pub to_added : List (ℕ × Step)
to_added =
    (1, release 0 true None) ∷ (1, link (Add b two 2) 2 0 1 (OfBucket 0 1) 0)
    ∷ (1, row_store 2 0 4 50) ∷ (1, row_store 2 0 1 98) ∷ (1, row_store 2 0 0 257)
    ∷ (0, glance 0 false) ∷ (0, take 0 false) ∷ (1, take 0 false) ∷ to_moved

-- one call of pass 1: an add that is refused
abbrev pub refusing : List (ℕ × Step)
refusing = (1, release 0 false (Some (Add a two 3, NotStored))) ∷ (1, take 0 false) ∷ []

abbrev pub to_refused : List (ℕ × Step)
to_refused = refusing ++ to_added

abbrev pub to_replaced : List (ℕ × Step)
to_replaced =
    (0, release 0 true None)
    ∷ (0, link (Replace a two 4) 0 1 9 (OfOverflow 0 1) 0xaf60_2000_0000_0000)
    ∷ (0, row_store 0 1 4 50) ∷ (0, row_store 0 1 1 97) ∷ (0, row_store 0 1 0 257)
    ∷ (0, info_look 0) ∷ (0, take 0 false) ∷ to_refused

-- the first exchange of the move expects the frequency that a hit has raised
abbrev pub to_relinked : List (ℕ × Step)
to_relinked =
    (0, release 0 false None) ∷ (0, relink a 0 1 2 1 0 9 (OfOverflow 0 1))
    ∷ (0, relink a 0 1 1 1 0 9 (OfOverflow 0 1)) ∷ (1, leave 0)
    ∷ (1, bump 0 9 (OfOverflow 0 1) 0xaf6 0 1 1 2) ∷ (1, enter 0) ∷ (0, row_store 1 0 4 50)
    ∷ (0, row_store 1 0 1 97) ∷ (0, row_store 1 0 0 257) ∷ (0, take 0 false) ∷ to_replaced

abbrev pub to_evicted : List (ℕ × Step)
to_evicted =
    (0, release 0 false None) ∷ (0, clear a 9 (OfOverflow 0 1) 0xaf60_2000_0010_0000 (Evicts 1))
    ∷ (0, take 0 false) ∷ (0, release 0 true None)
    ∷ (0, clear b 1 (OfBucket 0 1) 0xaf60_1000_0020_0000 (Deletes 5)) ∷ (0, take 0 false)
    ∷ to_relinked

abbrev pub to_refilled : List (ℕ × Step)
-- a first try to refill the segment finds a reader
to_refilled =
    (0, none_reading 0 9 20) ∷ (1, enter 2) ∷ (1, leave 0) ∷ (0, none_reading 0 9 20)
    ∷ (1, enter 0) ∷ to_evicted
