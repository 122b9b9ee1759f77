-- What a keep did with a row, by names for the crates above.
use Rattle.std.specs.Prelude.{ℕ}
use Rattle.segbase.specs.Words.{Board, Pass}
use Rattle.segevict.specs.declared.retention.KeepRowAnswer.TheVariants as kept
use Rattle.segevict.specs.OneRow.{KeepsItem}

-- the row's item was moved
abbrev pub MovesItsItem : Board → ℕ → ℕ → ℕ → Pass → Pass → Type 0
MovesItsItem b segment row cutoff p q = KeepsItem b segment row cutoff kept.Moved p q

-- the row was left as it is
abbrev pub LeavesItsItem : Board → ℕ → ℕ → ℕ → Pass → Pass → Type 0
LeavesItsItem b segment row cutoff p q = KeepsItem b segment row cutoff kept.Left p q

-- there was no row for the row's item
abbrev pub LacksRoom : Board → ℕ → ℕ → ℕ → Pass → Pass → Type 0
LacksRoom b segment row cutoff p q = KeepsItem b segment row cutoff kept.NoRoom p q

-- the bit of the bucket of the row's item couldn't be taken
abbrev pub LacksBit : Board → ℕ → ℕ → ℕ → Pass → Pass → Type 0
LacksBit b segment row cutoff p q = KeepsItem b segment row cutoff kept.Busy p q
