-- Worked examples: what each answer of a hold tells and leaves in the caller's place,
-- and how many steps a hold may take.
use Rattle.std.proofs.Common.{◌≡◌, ◌+◌, Option, Some, arith}
use Rattle.segbase.specs.Words.{Pass}
use Rattle.segstore.specs.Words.{step_count}
use Rattle.segread.specs.Costs.{CostsOfHold, most_steps_of_get}
use Rattle.segread.specs.declared.held.Hold.{Hold}
use Rattle.segread.specs.declared.held.HoldAnswer.TheVariants as hold_answer
use Rattle.segread.specs.declared.held.RowAnswer.TheVariants as row_answer
use Rattle.segread.specs.Rows.{KeepsRow}
use Rattle.segread.specs.Words.{HeldRow, RowAnswer}

-- a hold of an item is told as one, and its row lies in the place
held_is_told : (hold : Hold) (told : RowAnswer) (kept next : Option HeldRow)
    → KeepsRow (hold_answer.Holding hold) told kept next
    → (told ≡ row_answer.Holding) × (next ≡ Some hold.row)
held_is_told hold told kept next is = is

-- a miss is told as one, and leaves the place as it was
miss_is_told : (told : RowAnswer) (kept next : Option HeldRow)
    → KeepsRow hold_answer.Miss told kept next → (told ≡ row_answer.Miss) × (next ≡ kept)
miss_is_told told kept next is = is

-- a hold that was Busy is told so, and leaves the place as it was
busy_is_told : (told : RowAnswer) (kept next : Option HeldRow)
    → KeepsRow hold_answer.Busy told kept next → (told ≡ row_answer.Busy) × (next ≡ kept)
busy_is_told told kept next is = is

-- a second hold is told as one, and leaves in the place what was there
second_is_told : (told : RowAnswer) (kept next : Option HeldRow)
    → KeepsRow hold_answer.AlreadyHolding told kept next
    → (told ≡ row_answer.AlreadyHolding) × (next ≡ kept)
second_is_told told kept next is = is

-- a hold takes no step more than a get may
hold_in_no_more : (p q : Pass) → step_count p ≡ 5 → step_count q ≡ 6 + most_steps_of_get
    → ¬ (CostsOfHold p q)
hold_in_no_more p q before after costs =
    let took = costs.steps in absurd (omega (arith, before, after, took))
