-- What a reader may count on, since a table with limits stores nothing longer.
use Rattle.std.specs.Prelude.{◌≢◌, ℕ, ◌≤◌, List, length, Result, Err}
use Rattle.segbase.specs.Words.{Board, Pass}
use Rattle.segread.specs.declared.held.HeldRow.{HeldRow}
use Rattle.segread.specs.declared.into.GetsIntoAnswer.{GetsIntoAnswer}
use Rattle.segread.specs.declared.into.GetsIntoAnswer.TheVariants as gets_into
use Rattle.segread.specs.declared.into.IntoAnswer.{IntoAnswer}
use Rattle.segread.specs.declared.into.IntoAnswer.TheVariants as into
use Rattle.segread.specs.Into.{ReadsInto, ReadsRowInto, ReadsVersionInto}

-- a get is never told Short by a buffer that has room for the longest value of the table
abbrev pub GetIsNeverShort : Type 0
GetIsNeverShort = (b : Board) (key : List ℕ) (draw now : ℕ) (told : IntoAnswer) (old new : List ℕ)
    (p q : Pass)
    → ReadsInto b key draw now told old new p q
    → b.limits.value ≤ length old
    → (len : ℕ)
    → told ≢ into.Short len

-- nor is a gets
abbrev pub GetsIsNeverShort : Type 0
GetsIsNeverShort = (b : Board) (key : List ℕ) (draw now : ℕ) (told : GetsIntoAnswer)
    (old new : List ℕ) (p q : Pass)
    → ReadsVersionInto b key draw now told old new p q
    → b.limits.value ≤ length old
    → (len version : ℕ)
    → told ≢ gets_into.Short len version

-- nor is a read of what is held
abbrev pub HeldIsNeverShort : Type 0
HeldIsNeverShort = (b : Board) (row : HeldRow) (told : Result ℕ ℕ) (old new : List ℕ) (p q : Pass)
    → ReadsRowInto b row told old new p q
    → b.limits.value ≤ length old
    → (len : ℕ)
    → told ≢ Err len
