-- Worked examples: what a run or a load that can't begin is told as, and what a release without a hold is.
use Rattle.std.proofs.Common.{◌≡◌, ℕ, Bool, Ok, Err}
use Rattle.segword.specs.Words.{IsValid, Shape}
use Rattle.segmodel.specs.declared.answer.Turn.TheVariants as turn
use Rattle.segmodel.specs.declared.answer.Outcome.TheVariants as outcome
use Rattle.segbase.specs.Words.{Board, IsMakeFault, Pass}
use Rattle.segbase.specs.declared.fault.MakeFault.{MakeFault}
use Rattle.segscript.specs.Told.{IsOutcomeOfCall}
use Rattle.segscript.specs.Run.{ShapeIsAnswered}
use Rattle.segscript.specs.declared.fault.RunFault.TheVariants as run_fault
use Rattle.segload.specs.Loads.{IsLoadFault}
use Rattle.segload.specs.declared.fault.LoadFault.TheVariants as load_fault

-- ---- runs

-- what a run says of its shape is so
run_has_the_fault : (shape : Shape) (f : MakeFault) → ShapeIsAnswered shape (Err (run_fault.Make f)) → IsMakeFault shape f
run_has_the_fault shape f is = is

-- a run that ends well had a valid shape
run_had_a_shape : (shape : Shape) → ShapeIsAnswered shape (Ok tt) → IsValid shape
run_had_a_shape shape is = is

-- ---- loads

load_has_the_fault : (shape : Shape) (commands : ℕ) (may : ℕ → ℕ → Bool → Type 0) (told : ℕ → ℕ
    → Type 0) (f : MakeFault) → IsLoadFault shape commands may told (load_fault.Make f) → IsMakeFault shape f
load_has_the_fault shape commands may told f is = is

-- memory is lacking for a valid shape only
load_had_a_shape : (shape : Shape) (commands : ℕ) (may : ℕ → ℕ → Bool → Type 0) (told : ℕ → ℕ → Type 0) → IsLoadFault shape commands may told load_fault.OutOfMemory → IsValid shape
load_had_a_shape shape commands may told is = is

-- ---- turns

-- a look at what is held, without a hold, changes nothing
nothing_held : (b : Board) (p q : Pass) → IsOutcomeOfCall b turn.Held outcome.NotHolding p q → q ≡ p
nothing_held b p q is = is.0

-- nor does a release
nothing_released : (b : Board) (p q : Pass) → IsOutcomeOfCall b turn.Release outcome.NotHolding p q → q ≡ p
nothing_released b p q is = is.0

-- what is held is never told as released
held_is_not_released : (b : Board) (p q : Pass) → ¬ (IsOutcomeOfCall b turn.Held outcome.Released p q)
held_is_not_released b p q is = is
