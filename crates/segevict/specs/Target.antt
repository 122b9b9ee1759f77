-- Where a keep moves items to, and what the pass keeps of the rows that it uses there.
use Rattle.std.specs.Prelude.{◌≡◌, ◌≢◌, ℕ, ◌+◌, ◌<◌, ◌==◌, Bool, Some, if◌then◌else◌}
use Rattle.segword.specs.Words.{Shape}
use Rattle.segmodel.specs.declared.answer.SegState.TheVariants.{InUse}
use Rattle.segbase.specs.Words.{Board, current_of, deadline_of, is_holding_of, locked_of, Pass}
use Rattle.segbase.specs.Words.{state_of, used_of}
use Rattle.segstore.specs.Words.{are_left, AreRows, is_below, memo}

-- Items of the segment can be moved into this one, of the pass's own: it is in use,
-- it is not the same, and it has the same deadline.
pub record IsMoveTarget (segment into : ℕ) (p : Pass) : Type 0 where
  pub in_use : state_of p into ≡ Some InUse
  pub other : segment ≢ into
  pub deadlines : deadline_of p segment ≡ deadline_of p into

-- whether not all rows of the segment are used
abbrev pub has_room_in : Shape → ℕ → Pass → Bool
has_room_in shape segment p = is_below shape.rows (used_of p segment)

-- whether so many rows of the segment are left
abbrev pub has_rows_in : Shape → ℕ → ℕ → Pass → Bool
has_rows_in shape segment rows p =
    if rows == 1
    then has_room_in shape segment p
    else are_left rows shape.rows (used_of p segment)

-- the row is the first one of the segment that isn't used
pub record IsNextIn (b : Board) (segment row : ℕ) (p : Pass) : Type 0 where
  pub used : used_of p segment ≡ Some row
  pub fits : row < b.shape.rows

-- the row is the first one that isn't used, with so many rows from there on
pub record AreNextIn (b : Board) (segment row rows : ℕ) (p : Pass) : Type 0 where
  pub used : used_of p segment ≡ Some row
  pub fits : AreRows b.shape row rows

-- items of the segment can be moved into this one: it is current, it is not the same,
-- and it has the same deadline
pub record IsKeepTarget (segment into : ℕ) (p : Pass) : Type 0 where
  pub current : current_of p ≡ Some into
  pub other : segment ≢ into
  pub deadlines : deadline_of p segment ≡ deadline_of p into

-- This number of rows more is used of the segment.
-- Nothing else is changed of what the pass keeps of its segments, its lock and its hold.
pub record UsesRows (into count : ℕ) (p q : Pass) : Type 0 where
  pub used : (used : ℕ) → used_of p into ≡ Some used → used_of q into ≡ Some (used + count)
  pub others : (other : ℕ) → other ≢ into → used_of q other ≡ used_of p other
  pub states : (segment : ℕ) → state_of q segment ≡ state_of p segment
  pub deadlines : (segment : ℕ) → deadline_of q segment ≡ deadline_of p segment
  pub current : current_of q ≡ current_of p
  pub locked : locked_of q ≡ locked_of p
  pub holds : is_holding_of q ≡ is_holding_of p
  pub memo : memo q ≡ memo p
