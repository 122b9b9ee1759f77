-- The plain facts of a pass, which only its owner's calls change.
use Rattle.std.specs.Prelude.{ℕ, ◌-◌, nat_le, Bool, List, Option, Some, None, option_map, slice_get, if◌then◌else◌}
use Rattle.std.specs.Box.{boxed_slice_items, boxed_slice_with_item}
use Rattle.std.specs.Global.{Global}
use Rattle.std.specs.declared.boxed.BoxedSlice.{BoxedSlice}
use Rattle.segmodel.specs.Words.{SegState}
use Rattle.segbase.specs.declared.pass.OwnSegment.{OwnSegment}
use Rattle.segbase.specs.declared.pass.PlainPart.{PlainPart}
use Rattle.segbase.specs.declared.pass.Pass.{Pass}

abbrev pub number_of : Pass → ℕ
number_of p = p.plain.number

abbrev pub rows_of : Pass → ℕ
rows_of p = p.plain.rows

abbrev pub current_of : Pass → Option ℕ
current_of p = p.plain.current

abbrev pub locked_of : Pass → Option ℕ
locked_of p = p.plain.locked

abbrev pub is_holding_of : Pass → Bool
is_holding_of p = p.plain.is_holding

-- the list of a pass's segments
abbrev pub OwnSegments : Type 0
OwnSegments = BoxedSlice OwnSegment Global

abbrev pub segments_of : PlainPart → List OwnSegment
segments_of plain = boxed_slice_items plain.segments

-- what the pass knows of a segment, if that is its own
abbrev pub own_segment : PlainPart → ℕ → Option OwnSegment
own_segment plain segment =
    if nat_le plain.first segment
    then slice_get (segments_of plain) (segment - plain.first)
    else None

abbrev pub state_in : Option OwnSegment → Option SegState
state_in None = None
state_in (Some own) = Some own.state

abbrev pub used_in : Option OwnSegment → Option ℕ
used_in None = None
used_in (Some own) = Some own.used

abbrev pub deadline_in : Option OwnSegment → Option ℕ
deadline_in None = None
deadline_in (Some own) = Some own.deadline

abbrev pub state_of : Pass → ℕ → Option SegState
state_of p segment = state_in (own_segment p.plain segment)

abbrev pub used_of : Pass → ℕ → Option ℕ
used_of p segment = used_in (own_segment p.plain segment)

abbrev pub deadline_of : Pass → ℕ → Option ℕ
deadline_of p segment = deadline_in (own_segment p.plain segment)

-- ---- what its owner's calls make of a plain part

-- with another current segment, another lock, another hold
abbrev pub with_current : Option ℕ → PlainPart → PlainPart
with_current current plain = record plain { current = current }

abbrev pub with_locked : Option ℕ → PlainPart → PlainPart
with_locked locked plain = record plain { locked = locked }

abbrev pub with_holding : Bool → PlainPart → PlainPart
with_holding holding plain = record plain { is_holding = holding }

-- the segments, with this one at a place; unchanged if there is none
abbrev pub put_own : OwnSegments → ℕ → Option OwnSegment → OwnSegments
put_own segments place None = segments
put_own segments place (Some own) = boxed_slice_with_item segments place own

-- with a segment of the pass's own changed so
abbrev pub with_own : ℕ → (OwnSegment → OwnSegment) → PlainPart → PlainPart
with_own segment change plain = record plain {
  segments = put_own plain.segments (segment - plain.first)
      (option_map change (own_segment plain segment));
}

-- with another state of an own segment, other rows used of it, or another deadline
abbrev pub with_state : ℕ → SegState → PlainPart → PlainPart
with_state segment state = with_own segment (λ own. record own { state = state })

abbrev pub with_used : ℕ → ℕ → PlainPart → PlainPart
with_used segment used = with_own segment (λ own. record own { used = used })

abbrev pub with_deadline : ℕ → ℕ → PlainPart → PlainPart
with_deadline segment deadline = with_own segment (λ own. record own { deadline = deadline })
