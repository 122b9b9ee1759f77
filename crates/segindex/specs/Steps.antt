-- Which answers take a step. The law is proved as the contract of a function in src/laws.rt.
use Rattle.std.specs.Prelude.{◌≡◌, ◌≢◌, ℕ, List}
use Rattle.segmodel.specs.Words.{GetAnswer, GetsAnswer}
use Rattle.segbase.specs.Words.{Board, looks, Pass}
use Rattle.segread.specs.declared.held.HoldAnswer.TheVariants.{AlreadyHolding}
use Rattle.segread.specs.Words.{HoldAnswer, HoldsItem, ReadsKey, ReadsVersion}

-- No get is answered without a step: what the pass has seen before isn't enough.
abbrev pub NoGetWithoutAStep : Type 0
NoGetWithoutAStep = (b : Board) (key : List ℕ) (draw now : ℕ) (told : GetAnswer) (p q : Pass)
    → ReadsKey b key draw now told p q
    → looks q ≡ looks p
    → ⊥

-- No gets is answered without a step.
abbrev pub NoGetsWithoutAStep : Type 0
NoGetsWithoutAStep = (b : Board) (key : List ℕ) (draw now : ℕ) (told : GetsAnswer) (p q : Pass)
    → ReadsVersion b key draw now told p q
    → looks q ≡ looks p
    → ⊥

-- No hold is answered without a step, unless it is AlreadyHolding.
abbrev pub NoHoldWithoutAStep : Type 0
NoHoldWithoutAStep = (b : Board) (key : List ℕ) (now : ℕ) (told : HoldAnswer) (p q : Pass)
    → HoldsItem b key now told p q
    → told ≢ AlreadyHolding
    → looks q ≡ looks p
    → ⊥
