-- The state of a segment's rows after a trace: the words of each,
-- which key was linked to it in this filling, and the frequency of its item.
use Rattle.std.specs.Prelude.{◌≡◌, ℕ, ◌*◌, ◌<◌, ◌==◌, ◌&&◌, Bool, false, nat_lt, List, [], ◌∷◌, Option, Some, None, slice_index, if◌then◌else◌}
use Rattle.segword.specs.Words.{covers, place_behind, row_behind, row_of, row_width}
use Rattle.segword.specs.Words.{span_of, span_of_header}
use Rattle.segmodel.specs.Words.{key_of, with_at}
use Rattle.segcore.specs.declared.event.Event.{Event}
use Rattle.segcore.specs.declared.event.Event.TheVariants.{Filled, Linked, Relinked, Bumped, Refilled}

pub record Row : Type 0 where
  -- the key of the item that was linked or moved to it in this filling
  pub linked : Option (List ℕ)
  -- by place in the row
  pub words : ℕ → ℕ

-- whether an event is of the row, or of an item that begins there
abbrev pub row_at : Event → ℕ → ℕ → Bool
row_at (Filled pass s r place word) segment row = (s == segment) && (r == row)
row_at (Linked pass request s r position) segment row = (s == segment) && (r == row)
row_at (Relinked pass key from from_row s r position) segment row = (s == segment) && (r == row)
row_at (Refilled pass s deadline) segment row = s == segment
row_at _ segment row = false

-- what an event of the row leaves
abbrev pub writes_row : Event → Row → Row
writes_row (Filled pass s r place word) row = record row { words = with_at row.words place word }
writes_row (Linked pass request s r position) row = record row { linked = Some (key_of request) }
writes_row (Relinked pass key from from_row s r position) row = record row { linked = Some key }
writes_row (Refilled pass s deadline) row = record row { linked = None }
writes_row _ row = row

-- whether a link or a move, by a word 0 for each segment and row, has this row among those of its
-- item; any other event is of one row at most, or of all of a segment
abbrev pub is_of_row : (ℕ → ℕ → ℕ) → Event → ℕ → ℕ → Bool
is_of_row header (Linked pass request s r position) segment row =
    (s == segment) && covers r (span_of_header (header s r)) row
is_of_row header (Relinked pass key from from_row s r position) segment row =
    (s == segment) && covers r (span_of_header (header s r)) row
is_of_row header event segment row = row_at event segment row

-- the state of a row by itself after a trace
abbrev pub row_alone : List Event → ℕ → ℕ → Row
row_alone [] segment row = record { linked = None; words = λ place. 0 }
row_alone (event ∷ trace) segment row =
    if is_of_row (λ s r. (row_alone trace s r).words 0) event segment row
    then writes_row event (row_alone trace segment row)
    else row_alone trace segment row

-- The words from a row on, by their place, as many as an item has that begins there.
-- Behind them is 0.
abbrev pub words_on : (ℕ → Row) → ℕ → ℕ → ℕ
words_on rows first place =
    if nat_lt place (row_width * span_of_header ((rows first).words 0))
    then (rows (row_behind first place)).words (place_behind place)
    else 0

-- the state of a row after a trace; its words are those of the item that begins there
abbrev pub row_after : List Event → ℕ → ℕ → Row
row_after trace segment row =
    record (row_alone trace segment row) { words = words_on (row_alone trace segment) row }

-- the row's words, and those of the rows of the item behind it, are those of the pair
abbrev pub Holds : Row → List ℕ → List ℕ → Type 0
Holds row key value = (place : ℕ)
    → place < row_width * span_of key value
    → row.words place ≡ slice_index (row_of key value) place

-- how many rows the item takes that begins in a row, by its word 0
abbrev pub span_in : List Event → ℕ → ℕ → ℕ
span_in trace segment row = span_of_header ((row_after trace segment row).words 0)

-- The frequency of the item that names the row: 1 at its link, and what a bump raised it to.
-- After a move to the row, it is the frequency that the row which the item left had.
abbrev pub frequency_of : List Event → ℕ → ℕ → ℕ
frequency_of [] segment row = 0
frequency_of (Linked pass request s r position ∷ trace) segment row =
    if (s == segment) && (r == row) then 1 else frequency_of trace segment row
frequency_of (Relinked pass key from from_row s r position ∷ trace) segment row =
    if (s == segment) && (r == row)
    then frequency_of trace from from_row
    else frequency_of trace segment row
frequency_of (Bumped pass s r frequency ∷ trace) segment row =
    if (s == segment) && (r == row) then frequency else frequency_of trace segment row
frequency_of (_ ∷ trace) segment row = frequency_of trace segment row
