-- Some numbers in a row, taken in turn and over again.
use Rattle.std.specs.Prelude.{ℕ, zero, suc, ◌+◌, ◌%◌, List, [], ◌∷◌}

-- what a contract sees of a ring: it has the `count` numbers from `first` on, and `given` of them
-- were given in this round
pub record Cycle : Type 0 where
  pub first : ℕ
  pub count : ℕ
  pub given : ℕ

-- the number that is next
abbrev pub next_of : Cycle → ℕ
next_of cycle = cycle.first + cycle.given

-- the ring after a call
abbrev pub turned : Cycle → Cycle
turned cycle = record cycle { given = (cycle.given + 1) % cycle.count }

-- what the next n calls answer, in turn
unfoldable pub answers : ℕ → Cycle → List ℕ
answers zero cycle = []
answers (suc n) cycle = next_of cycle ∷ answers n (turned cycle)
