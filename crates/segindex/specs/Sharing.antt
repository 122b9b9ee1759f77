-- What a share of an index does with the item that is held by it.
use Rattle.std.specs.Prelude.{◌≡◌, ℕ, List, Option, Some, None, IsSomeAnd, Result}
use Rattle.segbase.specs.Words.{Board, Pass}
use Rattle.segread.specs.Words.{HeldRow, ReadsRow, ReadsRowInto, ReleasesHold}

-- the value that is held was read, if there is one; without one nothing was done
abbrev pub ReadsKept : Board → Option HeldRow → Option (List ℕ) → Pass → Pass → Type 0
ReadsKept b (Some row) told p q = IsSomeAnd told (λ value. ReadsRow b row value p q)
ReadsKept b None told p q = (told ≡ None) × (q ≡ p)

-- the value that is held went into a buffer, if there is one; without one nothing was done
abbrev pub ReadsKeptInto : Board → Option HeldRow → Option (Result ℕ ℕ) → List ℕ → List ℕ → Pass → Pass
    → Type 0
ReadsKeptInto b (Some row) told old new p q =
    IsSomeAnd told (λ copied. ReadsRowInto b row copied old new p q)
ReadsKeptInto b None told old new p q = (told ≡ None) × (new ≡ old) × (q ≡ p)

-- the hold ended, if there was one; without one nothing was done
abbrev pub ReleasesKept : Board → Option HeldRow → Pass → Pass → Type 0
ReleasesKept b (Some row) p q = ReleasesHold b p q
ReleasesKept b None p q = q ≡ p
