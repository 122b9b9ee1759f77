-- What a search along a chain knows of anything that only moves forward there:
-- that was gone at some point since the search began, or it is still ahead.
use Rattle.std.specs.Prelude.{ℕ, ◌≤◌, ◌⊎◌, List}
use Rattle.segmodel.specs.Words.{Begins}

-- between two moments there was one at which the thing sought was gone
abbrev pub WasGone : {A : Type 0} → (List A → Type 0) → List A → List A → Type 0
WasGone {A} Gone old new = (at : List A) × Begins old at × Begins at new × Gone at

-- the thing sought was gone at some point between two moments,
-- or at the second it is at this position or later
abbrev pub Ahead : {A : Type 0} → (List A → ℕ → Type 0) → (List A → Type 0) → ℕ → List A → List A
    → Type 0
Ahead {A} At Gone position old new =
    WasGone {A = A} Gone old new ⊎ ((there : ℕ) × (position ≤ there) × At new there)
