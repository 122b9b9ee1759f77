-- The place of a caller's in which the row lies that its pass holds.
use Rattle.std.specs.Prelude.{◌≡◌, ℕ, List, Option, Some, None}
use Rattle.std.proofs.Props.{props}
use Rattle.segword.specs.Words.{Shape}
use Rattle.segbase.specs.Words.{Board, Held-set, holding, Pass}
use Rattle.segread.specs.declared.held.HeldRow.{HeldRow}
use Rattle.segread.specs.declared.held.HoldAnswer.{HoldAnswer}
use Rattle.segread.specs.declared.held.HoldAnswer.TheVariants as hold_answer
use Rattle.segread.specs.declared.held.RowAnswer.{RowAnswer}
use Rattle.segread.specs.declared.held.RowAnswer.TheVariants as row_answer
use Rattle.segread.specs.Holds.{HoldsItem, IsHeldRow}
use Rattle.segread.specs.Props.{IsHeldRow-prop}

-- the row is that of what the pass holds; without a row the pass holds nothing
abbrev pub IsKept : Shape → Pass → Option HeldRow → Type 0
IsKept shape p None = holding p ≡ None
IsKept shape p (Some row) = IsHeldRow shape row p

pub IsKept-prop : (shape : Shape) (p : Pass) (kept : Option HeldRow) → IsProp (IsKept shape p kept)
IsKept-prop shape p None = hlevel (props, Held-set)
IsKept-prop shape p (Some row) = IsHeldRow-prop shape row p

-- the answer that a hold has whose row goes into this place, and the place from then on
abbrev pub KeepsRow : HoldAnswer → RowAnswer → Option HeldRow → Option HeldRow → Type 0
KeepsRow (hold_answer.Holding hold) told kept next =
    (told ≡ row_answer.Holding) × (next ≡ Some hold.row)
KeepsRow hold_answer.Miss told kept next = (told ≡ row_answer.Miss) × (next ≡ kept)
KeepsRow hold_answer.Busy told kept next = (told ≡ row_answer.Busy) × (next ≡ kept)
KeepsRow hold_answer.AlreadyHolding told kept next =
    (told ≡ row_answer.AlreadyHolding) × (next ≡ kept)

-- the item was held as `hold_item` holds it, and the place has its row
pub record HoldsRow (b : Board) (key : List ℕ) (now : ℕ) (told : RowAnswer)
    (kept next : Option HeldRow) (p q : Pass) : Type 0 where
  pub answer : HoldAnswer
  pub holds : HoldsItem b key now answer p q
  pub keeps : KeepsRow answer told kept next
