-- What a refill of a segment answers.
use Rattle.std.specs.Prelude.{◌≡◌, ◌≢◌, ◌↔◌, ◌⊎◌, ℕ, ◌<◌, true, Option, Some, None, IsSome}
use Rattle.segmodel.specs.declared.entry.Entry.TheVariants.{Refilled}
use Rattle.segmodel.specs.Words.{RefillAnswer}
use Rattle.segmodel.specs.declared.answer.RefillAnswer.TheVariants as refill
use Rattle.segmodel.specs.declared.answer.SegState.TheVariants.{InUse, Evicted}
use Rattle.segcore.specs.Words.{inside}
use Rattle.segbase.specs.Words.{Board, current_of, HasStep, holding, number, Pass, state_of, trace}
use Rattle.segbase.specs.Words.{with_current}
use Rattle.segstore.specs.Words.{AddsEntry, ChangesNothing, CostsNothing, GoesOn, is_held_in, memo}
use Rattle.segstore.specs.Words.{refilled_aside, TakesOneStep}

-- ---- refilling

-- The refilling was entered. The segment, one of the pass's own, is in use.
-- No row of it is used, and it has this deadline. Then the pass stores into `current`.
-- All else that the pass keeps is as it was. The call is one step.
pub record RefillsWith (segment deadline : ℕ) (current : Option ℕ) (p q : Pass) : Type 0 where
  pub entry : AddsEntry (Refilled (number p) segment deadline) p q
  pub own : IsSome (state_of p segment)
  pub plain : q.plain ≡ with_current current (refilled_aside segment deadline p.plain)
  pub memo : memo q ≡ memo p
  pub once : TakesOneStep p q

-- the segment that was refilled is current
abbrev pub Refills : ℕ → ℕ → Pass → Pass → Type 0
Refills segment deadline p q = RefillsWith segment deadline (Some segment) p q

-- Another pass is in the segment, or this one holds an item there.
abbrev pub IsBeingRead : ℕ → Pass → Type 0
IsBeingRead segment p =
    ((other : ℕ) × (other ≢ number p) × (0 < inside (trace p) other segment))
    ⊎ (is_held_in (holding p) segment ≡ true)

-- It is Held only if the pass tried, and the pass tries once.
abbrev pub IsRefillAnswerWith : ℕ → ℕ → Option ℕ → RefillAnswer → Pass → Pass → Type 0
IsRefillAnswerWith segment deadline current refill.Refilled p q =
    RefillsWith segment deadline current p q
IsRefillAnswerWith segment deadline current refill.NotYours p q = q ≡ p
IsRefillAnswerWith segment deadline current refill.NotEvicted p q = q ≡ p
IsRefillAnswerWith segment deadline current refill.Held p q =
    ChangesNothing p q × IsBeingRead segment q × HasStep p q × TakesOneStep p q

abbrev pub IsRefillAnswer : ℕ → ℕ → RefillAnswer → Pass → Pass → Type 0
IsRefillAnswer segment deadline told p q =
    IsRefillAnswerWith segment deadline (Some segment) told p q

-- A refill after which the pass stores into `current` is answered so:
-- NotYours exactly if the segment isn't one of the pass's own, and NotEvicted exactly if it is
-- in use. An evicted segment in which the pass itself holds an item is always Held.
pub record RefillsSegmentWith (b : Board) (segment deadline : ℕ) (current : Option ℕ)
    (told : RefillAnswer) (p q : Pass) : Type 0 where
  pub on : GoesOn b p q
  pub answer : IsRefillAnswerWith segment deadline current told p q
  pub not_yours : (told ≡ refill.NotYours) ↔ (state_of p segment ≡ None)
  pub in_use : (told ≡ refill.NotEvicted) ↔ (state_of p segment ≡ Some InUse)
  pub held : state_of p segment ≡ Some Evicted
      → is_held_in (holding p) segment ≡ true
      → told ≡ refill.Held
  pub costs_nothing : CostsNothing p q

-- a refill makes the segment current
abbrev pub RefillsSegment : Board → ℕ → ℕ → RefillAnswer → Pass → Pass → Type 0
RefillsSegment b segment deadline told p q =
    RefillsSegmentWith b segment deadline (Some segment) told p q

-- a refill aside leaves the one that is current
abbrev pub RefillsAside : Board → ℕ → ℕ → RefillAnswer → Pass → Pass → Type 0
RefillsAside b segment deadline told p q =
    RefillsSegmentWith b segment deadline (current_of p) told p q
