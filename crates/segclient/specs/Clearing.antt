-- The calls by which a put that was stored clears a segment of its pass, row by row,
-- the newest first, and what is known of that segment between two puts.
use Rattle.std.specs.Prelude.{◌≡◌, ◌≢◌, ℕ, zero, suc, ◌+◌, ◌≤◌, ◌==◌, ◌||◌, Bool, true, List, [], ◌∷◌, length, sum_by, Option, Some, None}
use Rattle.std.specs.Option.{unwrap_or}
use Rattle.std.specs.Coded.{×_prop, Unit-prop, Π_prop}
use Rattle.std.proofs.Common.{sym, ◌∙◌}
use Rattle.std.proofs.Props.{props}
use Rattle.std.proofs.lemmas.Option.{same_Some}
use Rattle.segword.specs.Words.{Shape, triple-prop}
use Rattle.segmodel.specs.declared.answer.EvictAnswer.TheVariants as evict
use Rattle.segmodel.specs.declared.answer.RefillAnswer.TheVariants as refill
use Rattle.segmodel.specs.Words.{EvictAnswer, owner, RefillAnswer}
use Rattle.segcore.specs.Words.{Event, span_in}
use Rattle.segbase.specs.Words.{Board, current_of, deadline_of, number, Pass, trace, used_of}
use Rattle.segevict.specs.declared.eviction.EvictRowAnswer.{EvictRowAnswer}
use Rattle.segevict.specs.declared.eviction.EvictRowAnswer.TheVariants as evict_row
use Rattle.segevict.specs.declared.retention.KeepRowAnswer.{KeepRowAnswer}
use Rattle.segevict.specs.declared.retention.KeepRowAnswer.TheVariants as kept
use Rattle.segevict.specs.Words.{AreUnnamed, EvictsItem, EvictsRest, HasRow, KeepsItemInto, TellsSpan}
use Rattle.segindex.specs.Refilling.{RefillsAside}
use Rattle.segclient.specs.declared.segments.SourceSegment.{SourceSegment}
use Rattle.segclient.specs.declared.effort.Effort.{Effort}
use Rattle.segclient.specs.PutCalls.{Amount, evicted_keys, kept_items, refilled_segments}

-- ---- the segment that is being cleared

-- whether going from a row of a segment to the one behind its item, and so on, comes to another
-- row, over at most so many items
abbrev pub comes_to : List Event → ℕ → ℕ → ℕ → ℕ → Bool
comes_to trace segment to zero from = from == to
comes_to trace segment to (suc most) from =
    (from == to) || comes_to trace segment to most (from + span_in trace segment from)

-- It is one of the pass's own, and no item names its first rows, up to where the clearing is,
-- or reaches over that place.
abbrev pub IsCleared : Shape → Option SourceSegment → Pass → Type 0
IsCleared shape None p = Unit {0}
IsCleared shape (Some source) p =
    (owner shape source.segment ≡ number p)
    × AreUnnamed shape source.segment source.row p
    × (comes_to (trace p) source.segment source.row source.row 0 ≡ true)

-- if the row at which the clearing is is used, its item takes this number of rows
abbrev pub TakesRows : SourceSegment → ℕ → Pass → Type 0
TakesRows source rows p =
    HasRow source.segment source.row p
    → rows ≡ span_in (trace p) source.segment source.row

-- it isn't the segment that the pass stores into
abbrev pub IsClearing : Shape → SourceSegment → Pass → Type 0
IsClearing shape source p =
    IsCleared shape (Some source) p × (current_of p ≢ Some source.segment)

own-prop : (one other : ℕ) → IsProp (one ≡ other)
own-prop one other = hlevel props

way-prop : (one other : Bool) → IsProp (one ≡ other)
way-prop one other = hlevel props

unnamed-prop : (shape : Shape) (segment from : ℕ) (p : Pass)
    → IsProp (AreUnnamed shape segment from p)
unnamed-prop shape segment from p = Π_prop (λ row. Π_prop (λ below. ×_prop
    (triple-prop (λ used. hlevel props) (λ x y at on. same_Some x y (sym at.0 ∙ on.0)))
    (Π_prop (λ named. hlevel props))))

pub IsCleared-prop : (shape : Shape) (source : Option SourceSegment) (p : Pass)
    → IsProp (IsCleared shape source p)
IsCleared-prop shape None p = Unit-prop
IsCleared-prop shape (Some source) p = λ x y j. (
  own-prop (owner shape source.segment) (number p) x.0 y.0 j,
  unnamed-prop shape source.segment source.row p x.1 y.1 j,
  way-prop (comes_to (trace p) source.segment source.row source.row 0) true x.2 y.2 j,
)

-- ---- steps

-- A call with its answer: a keep of a segment's row by a cutoff into another segment,
-- an evict of a row, an evict of all rows from one on,
-- or a refill that leaves the segment that the pass stores into.
-- Or a look at how many rows the item of a row takes.
pub data Step : Type 0 where
  looks_at : ℕ → ℕ → ℕ → Step
  keeps_into : ℕ → ℕ → ℕ → ℕ → KeepRowAnswer → Step
  evicts_row : ℕ → ℕ → EvictRowAnswer → Step
  evicts_rest : ℕ → ℕ → EvictAnswer → Step
  refills_aside : ℕ → RefillAnswer → Step

-- the segment is one of the pass's own, and not the one that it stores into
abbrev pub IsAside : Board → ℕ → Pass → Type 0
IsAside b segment p = (owner b.shape segment ≡ number p) × (current_of p ≢ Some segment)

-- no row of the segment from this one on is used
abbrev pub AreDone : ℕ → ℕ → Pass → Type 0
AreDone segment from p = unwrap_or (used_of p segment) 0 ≤ from

-- A step had its answer. What is kept has at least the cutoff of the client.
-- The rest of a segment is evicted once each used row is done.
-- What is refilled has the deadline of a segment of the pass's own that isn't current.
abbrev pub IsStep : Board → Option ℕ → Step → Pass → Pass → Type 0
IsStep b cutoff (looks_at segment row told) p q =
    IsAside b segment p × TellsSpan b segment row told p q
IsStep b cutoff (keeps_into segment row by into told) p q =
    IsAside b segment p
    × ((least : ℕ) × (cutoff ≡ Some least) × (least ≤ by))
    × KeepsItemInto b segment row by into told p q
IsStep b cutoff (evicts_row segment row told) p q =
    IsAside b segment p × EvictsItem b segment row told p q
IsStep b cutoff (evicts_rest segment from told) p q =
    IsAside b segment p × AreDone segment from p × EvictsRest b segment from told p q
IsStep b cutoff (refills_aside segment told) p q =
    (owner b.shape segment ≡ number p)
    × ((source : ℕ) × (until : ℕ) × IsAside b source p × (deadline_of p source ≡ Some until)
    × RefillsAside b segment until told p q)

-- the steps were made, one after another
unfoldable pub Clears : Board → Option ℕ → List Step → Pass → Pass → Type 0
Clears b cutoff [] p q = q ≡ p
Clears b cutoff (step ∷ earlier) p q =
    (between : Pass) × Clears b cutoff earlier p between
    × IsStep b cutoff step between q

-- ---- what steps came to

-- how many segments a step refilled, how many items it moved, or how many keys it evicted
abbrev pub came_to_step : Amount → Step → ℕ
came_to_step refilled_segments (refills_aside segment refill.Refilled) = 1
came_to_step kept_items (keeps_into segment row by into kept.Moved) = 1
came_to_step evicted_keys (evicts_row segment row evict_row.Evicted) = 1
came_to_step evicted_keys (evicts_rest segment from (evict.Evicted keys)) = keys
came_to_step evicted_keys (evicts_rest segment from (evict.Busy keys)) = keys
came_to_step _ _ = 0

-- in numbers
pub record IsEffortOf (steps : List Step) (effort : Effort) : Type 0 where
  pub refilled : effort.refilled ≡ sum_by (came_to_step refilled_segments) steps
  pub kept : effort.kept ≡ sum_by (came_to_step kept_items) steps
  pub keys : effort.keys ≡ sum_by (came_to_step evicted_keys) steps

abbrev pub effort_of_steps : List Step → Effort
effort_of_steps steps = record {
  refilled = sum_by (came_to_step refilled_segments) steps;
  kept = sum_by (came_to_step kept_items) steps;
  keys = sum_by (came_to_step evicted_keys) steps;
}

-- at most this number of steps came to these numbers
pub record ClearsAtMost (b : Board) (cutoff : Option ℕ) (most : ℕ) (effort : Effort)
    (p q : Pass) : Type 0 where
  pub steps : List Step
  pub clears : Clears b cutoff steps p q
  pub few : length steps ≤ most
  pub comes : IsEffortOf steps effort

-- the most steps of a turn, of which one is a look at how many rows the item takes
abbrev pub most_steps_of_turn : ℕ
most_steps_of_turn = 3

-- and of a put, which has eight turns
abbrev pub most_steps_of_put : ℕ
most_steps_of_put = 24

-- so do the steps of a put
abbrev pub ClearsSome : Board → Option ℕ → Effort → Pass → Pass → Type 0
ClearsSome b cutoff effort p q = ClearsAtMost b cutoff most_steps_of_put effort p q

-- so do those of one turn, whose items have at least this frequency
abbrev pub ClearsTurn : Board → ℕ → Effort → Pass → Pass → Type 0
ClearsTurn b least effort p q = ClearsAtMost b (Some least) most_steps_of_turn effort p q

-- so do those for the item of one row
abbrev pub ClearsRow : Board → ℕ → Effort → Pass → Pass → Type 0
ClearsRow b least effort p q = ClearsAtMost b (Some least) 2 effort p q
