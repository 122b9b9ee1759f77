-- What a get, a gets and a read of what is held answer whose value goes into a buffer: as any of
-- them, with the value's length.
use Rattle.std.specs.Prelude.{◌≡◌, ℕ, List, length, Result, Ok, Err}
use Rattle.segmodel.specs.declared.answer.GetAnswer.TheVariants as get
use Rattle.segmodel.specs.declared.answer.GetsAnswer.TheVariants as gets
use Rattle.segmodel.specs.Words.{GetAnswer, GetsAnswer}
use Rattle.segbase.specs.Words.{Board, Pass}
use Rattle.segstore.specs.Words.{CopiesValue}
use Rattle.segread.specs.declared.held.HeldRow.{HeldRow}
use Rattle.segread.specs.declared.held.Hold.{Hold}
use Rattle.segread.specs.declared.into.GetsIntoAnswer.{GetsIntoAnswer}
use Rattle.segread.specs.declared.into.GetsIntoAnswer.TheVariants as gets_into
use Rattle.segread.specs.declared.into.IntoAnswer.{IntoAnswer}
use Rattle.segread.specs.declared.into.IntoAnswer.TheVariants as into
use Rattle.segread.specs.Gets.{ReadsVersion}
use Rattle.segread.specs.Holds.{ReadsRow}
use Rattle.segread.specs.Reads.{ReadsKey}

-- what is told of a copy of a value: its length, and whether the buffer was too short
abbrev pub told_of : Result ℕ ℕ → IntoAnswer
told_of (Ok len) = into.Found len
told_of (Err len) = into.Short len

-- What is told where a get has this answer, and the buffer then: a value that was found is at its
-- front, if it has room for that. A Miss and a Busy leave it as it was.
abbrev pub CopiesGet : GetAnswer → IntoAnswer → List ℕ → List ℕ → Type 0
CopiesGet (get.Found value) told old new =
    CopiesValue value (told ≡ into.Found (length value)) (told ≡ into.Short (length value)) old new
CopiesGet get.Miss told old new = (told ≡ into.Miss) × (new ≡ old)
CopiesGet get.Busy told old new = (told ≡ into.Busy) × (new ≡ old)

-- A get had some answer, of which this is so. It was told so, and the value went into a buffer.
pub record Into (Reads : GetAnswer → Type 0) (told : IntoAnswer) (old new : List ℕ) : Type 0 where
  pub answer : GetAnswer
  pub reads : Reads answer
  pub copies : CopiesGet answer told old new

-- a get of a key had an answer, and its value went into a buffer
abbrev pub ReadsInto : Board → List ℕ → ℕ → ℕ → IntoAnswer → List ℕ → List ℕ → Pass → Pass → Type 0
ReadsInto b key draw now told old new p q =
    Into (λ answer. ReadsKey b key draw now answer p q) told old new

-- ---- with the version

-- what is told of a copy of a value with this version
abbrev pub told_with : ℕ → Result ℕ ℕ → GetsIntoAnswer
told_with version (Ok len) = gets_into.Found len version
told_with version (Err len) = gets_into.Short len version

-- what is told where a gets has this answer, and the buffer then, as of a get
abbrev pub CopiesGets : GetsAnswer → GetsIntoAnswer → List ℕ → List ℕ → Type 0
CopiesGets (gets.Found value version) told old new =
    CopiesValue value (told ≡ gets_into.Found (length value) version)
    (told ≡ gets_into.Short (length value) version) old new
CopiesGets gets.Miss told old new = (told ≡ gets_into.Miss) × (new ≡ old)
CopiesGets gets.Busy told old new = (told ≡ gets_into.Busy) × (new ≡ old)

-- A gets had some answer, of which this is so. It was told so, and the value went into a buffer.
pub record VersionInto (Reads : GetsAnswer → Type 0) (told : GetsIntoAnswer) (old new : List ℕ)
    : Type 0 where
  pub answer : GetsAnswer
  pub reads : Reads answer
  pub copies : CopiesGets answer told old new

-- a gets of a key had an answer, and its value went into a buffer
abbrev pub ReadsVersionInto : Board → List ℕ → ℕ → ℕ → GetsIntoAnswer → List ℕ → List ℕ → Pass → Pass
    → Type 0
ReadsVersionInto b key draw now told old new p q =
    VersionInto (λ answer. ReadsVersion b key draw now answer p q) told old new

-- ---- what is held

-- A read of what is held had some value, of which this is so. The value went into a buffer.
pub record HeldInto (Reads : List ℕ → Type 0) (told : Result ℕ ℕ) (old new : List ℕ) : Type 0 where
  pub value : List ℕ
  pub reads : Reads value
  pub copies : CopiesValue value (told ≡ Ok (length value)) (told ≡ Err (length value)) old new

-- a read of the row that is held had a value, which went into a buffer
abbrev pub ReadsRowInto : Board → HeldRow → Result ℕ ℕ → List ℕ → List ℕ → Pass → Pass → Type 0
ReadsRowInto b row told old new p q = HeldInto (λ value. ReadsRow b row value p q) told old new

abbrev pub ReadsHeldInto : Board → Hold → Result ℕ ℕ → List ℕ → List ℕ → Pass → Pass → Type 0
ReadsHeldInto b hold told old new p q = ReadsRowInto b hold.row told old new p q
