-- What is told of a value that went from its row straight to the buffer of C.
use Rattle.std.specs.Prelude.{◌≡◌, ℕ, List, length, Option, Some, None, IsSomeAnd, Result, Ok, Err}
use Rattle.segstore.specs.Words.{CopiesValue}
use Rattle.segread.specs.declared.into.GetsIntoAnswer.TheVariants as gets_into
use Rattle.segread.specs.declared.into.IntoAnswer.TheVariants as into
use Rattle.segread.specs.Words.{GetsIntoAnswer, IntoAnswer}
use Rattle.seghandles.specs.declared.status.Status.{Status}
use Rattle.seghandles.specs.declared.status.Status.TheVariants as status

-- what is written of a get whose value is in the buffer already, or doesn't fit: its length
abbrev pub TellsLength : IntoAnswer → Status → ℕ → ℕ → Type 0
TellsLength (into.Found length) returned len next = (returned ≡ status.Ok) × (next ≡ length)
TellsLength (into.Short length) returned len next =
    (returned ≡ status.ShortBuffer) × (next ≡ length)
TellsLength into.Miss returned len next = (returned ≡ status.Miss) × (next ≡ len)
TellsLength into.Busy returned len next = (returned ≡ status.Busy) × (next ≡ len)

-- the same of a gets, and its version
abbrev pub TellsVersion : GetsIntoAnswer → Status → ℕ → ℕ → ℕ → ℕ → Type 0
TellsVersion (gets_into.Found length of) returned len next version next_version =
    (returned ≡ status.Ok) × (next ≡ length) × (next_version ≡ of)
TellsVersion (gets_into.Short length of) returned len next version next_version =
    (returned ≡ status.ShortBuffer) × (next ≡ length) × (next_version ≡ of)
TellsVersion gets_into.Miss returned len next version next_version =
    (returned ≡ status.Miss) × (next ≡ len) × (next_version ≡ version)
TellsVersion gets_into.Busy returned len next version next_version =
    (returned ≡ status.Busy) × (next ≡ len) × (next_version ≡ version)

-- ---- what is held

-- what is told of a copy of what is held, if something is, and the buffer then
abbrev pub CopiesHeld : Option (List ℕ) → Option (Result ℕ ℕ) → List ℕ → List ℕ → Type 0
CopiesHeld (Some value) told bytes next =
    IsSomeAnd told (λ copied.
    CopiesValue value (copied ≡ Ok (length value)) (copied ≡ Err (length value)) bytes next)
CopiesHeld None told bytes next = (told ≡ None) × (next ≡ bytes)

-- A read of what is held had some value or none, of which this is so. The value went into a buffer.
pub record HeldCopied (Reads : Option (List ℕ) → Type 0) (told : Option (Result ℕ ℕ))
    (bytes next : List ℕ) : Type 0 where
  pub value : Option (List ℕ)
  pub reads : Reads value
  pub copies : CopiesHeld value told bytes next

-- what is written of it: its length
abbrev pub TellsHeld : Option (Result ℕ ℕ) → Status → ℕ → ℕ → Type 0
TellsHeld (Some (Ok length)) returned len next = (returned ≡ status.Ok) × (next ≡ length)
TellsHeld (Some (Err length)) returned len next = (returned ≡ status.ShortBuffer) × (next ≡ length)
TellsHeld None returned len next = (returned ≡ status.NotHolding) × (next ≡ len)
