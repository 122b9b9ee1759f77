-- What a refill answers and leaves.
use Rattle.std.specs.Prelude.{◌≡◌, ℕ, ◌<◌, List, [], ◌∷◌, Option, Some, IsSome}
use Rattle.segmodel.specs.Words.{RefillAnswer}
use Rattle.segmodel.specs.declared.answer.RefillAnswer.TheVariants.{Refilled, NotYours, NotEvicted, Held}
use Rattle.segmodel.specs.declared.answer.SegState.TheVariants.{InUse}
use Rattle.segcore.specs.declared.event.Event.TheVariants as event
use Rattle.segcore.specs.Words.{Event, inside}
use Rattle.segbase.specs.declared.pass.PlainPart.{PlainPart}
use Rattle.segbase.specs.Words.{AddsEvents, Board, HasStep, looks, number, Pass, sight, state_of}
use Rattle.segbase.specs.Words.{trace}
use Rattle.segbase.specs.Words.{with_current, with_deadline, with_state, with_used}

-- the pass did nothing, and keeps what it kept
pub record Idles (b : Board) (p q : Pass) : Type 0 where
  pub moved : AddsEvents b [] p q
  pub plain : q.plain ≡ p.plain
  pub memo : (sight q).memo ≡ (sight p).memo

-- the call is one step
abbrev pub TakesOneStep : Pass → Pass → Type 0
TakesOneStep p q = (start : List Event) × (looks q ≡ start ∷ looks p)

-- the segment is in use, with no row used and with this deadline; the rest is as it was
abbrev pub refilled_aside : ℕ → ℕ → PlainPart → PlainPart
refilled_aside segment deadline plain =
    with_used segment 0 (with_state segment InUse (with_deadline segment deadline plain))

-- and it is current
abbrev pub refilled : ℕ → ℕ → PlainPart → PlainPart
refilled segment deadline plain =
    with_current (Some segment) (refilled_aside segment deadline plain)

-- the segment, one of the pass's own, was refilled, and then this one was current
pub record FillsWith (b : Board) (segment deadline : ℕ) (current : Option ℕ) (p q : Pass)
    : Type 0 where
  pub own : IsSome (state_of p segment)
  pub moved : AddsEvents b (event.Refilled (number p) segment deadline ∷ []) p q
  pub plain : q.plain ≡ with_current current (refilled_aside segment deadline p.plain)
  pub memo : (sight q).memo ≡ (sight p).memo
  pub once : TakesOneStep p q

-- A segment of another pass, or one in use, is left as it is, without a step.
-- If it is Held, the refilling was tried once, and some pass is in the segment at that moment.
abbrev pub IsOutcomeWith : Board → ℕ → ℕ → Option ℕ → RefillAnswer → Pass → Pass → Type 0
IsOutcomeWith b segment deadline current Refilled p q = FillsWith b segment deadline current p q
IsOutcomeWith b segment deadline current NotYours p q = q ≡ p
IsOutcomeWith b segment deadline current NotEvicted p q = q ≡ p
IsOutcomeWith b segment deadline current Held p q =
    Idles b p q × ((other : ℕ) × (0 < inside (trace q) other segment)) × HasStep p q
    × TakesOneStep p q

-- a segment that is refilled is current
abbrev pub IsOutcome : Board → ℕ → ℕ → RefillAnswer → Pass → Pass → Type 0
IsOutcome b segment deadline told p q =
    IsOutcomeWith b segment deadline (Some segment) told p q
