-- What a pass keeps of its own segments, and that this is so.
use Rattle.std.specs.Prelude.{◌≡◌, ◌≢◌, ℕ, ◌+◌, ◌<◌, ◌≤◌, ◌==◌, nat_le, nat_lt, Bool, false, is_some, MatchBool, Option, Some, None, option_and_then, if◌then◌else◌}
use Rattle.segword.specs.Words.{Shape}
use Rattle.segmodel.specs.declared.answer.SegState.TheVariants.{InUse}
use Rattle.segmodel.specs.Words.{after, NoneStandsIn, SegState}
use Rattle.segcore.specs.Words.{row_after}
use Rattle.segbase.specs.Words.{Board, current_of, deadline_of, Pass, seen, state_of, trace, used_of}

-- the pass's plain part says what is so of its own segments
pub record KeepsSegments (b : Board) (p : Pass) : Type 0 where
  -- no more rows are used than a segment has
  pub few : (segment used : ℕ) → used_of p segment ≡ Some used → used ≤ b.shape.rows
  -- the rows that an item was linked or moved to in this filling are the used ones
  pub rows : (segment used row : ℕ)
      → used_of p segment ≡ Some used
      → row < b.shape.rows
      → is_some (row_after (trace p) segment row).linked ≡ nat_lt row used
  -- the deadline of a segment is the one that the pass knows
  pub deadlines : (segment deadline : ℕ)
      → deadline_of p segment ≡ Some deadline
      → (after b.shape (seen p)).deadline segment ≡ deadline
  -- the segment that the pass stores into is in use
  pub in_use : (segment : ℕ) → current_of p ≡ Some segment → state_of p segment ≡ Some InUse
  -- no key stands in a segment that isn't in use
  pub unused : (segment : ℕ) (state : SegState)
      → state_of p segment ≡ Some state
      → state ≢ InUse
      → NoneStandsIn (after b.shape (seen p)) segment

-- how many rows of the current segment are used, if there is a current one
abbrev pub used_now : Pass → Option ℕ
used_now p = option_and_then (used_of p) (current_of p)

abbrev pub is_below : ℕ → Option ℕ → Bool
is_below rows None = false
is_below rows (Some used) = nat_lt used rows

-- whether the pass can store one more: a segment is current, and not all its rows are used
abbrev pub has_room : Shape → Pass → Bool
has_room shape p = is_below shape.rows (used_now p)

-- whether so many rows of the current segment are left
abbrev pub are_left : ℕ → ℕ → Option ℕ → Bool
are_left count rows None = false
are_left count rows (Some used) = nat_le (used + count) rows

-- whether the pass can store one more that takes so many rows
abbrev pub has_room_for : Shape → ℕ → Pass → Bool
has_room_for shape count p =
    if count == 1 then has_room shape p else are_left count shape.rows (used_now p)

-- so many rows of a segment, from this one on, are in the table
abbrev pub AreRows : Shape → ℕ → ℕ → Type 0
AreRows shape row count =
    MatchBool (count == 1) (row < shape.rows) (row + count ≤ shape.rows)
