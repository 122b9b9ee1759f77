-- What a buffer has behind a value that was copied to it.
use Rattle.std.specs.Prelude.{◌≡◌, ℕ, ◌+◌, ◌*◌, ◌/◌, ◌%◌, ◌^◌, ◌<◌, ◌≤◌, List, length, get_or, ◌++◌, drop}

-- Where the buffer has room for the value, the value was copied to its front, and what is behind
-- that is as it was. A shorter buffer is as it was.
pub record CopiesValue (value : List ℕ) (Whole Short : Type 0) (old new : List ℕ) : Type 0 where
  pub fits : length value ≤ length old → Whole × (new ≡ value ++ drop (length value) old)
  pub short : ¬ (length value ≤ length old) → Short × (new ≡ old)

-- the first bytes of a buffer, so many, are those of an item's words from a place on
abbrev pub AreBytesOf : (ℕ → ℕ) → ℕ → List ℕ → ℕ → Type 0
AreBytesOf words from bytes count =
    (k i : ℕ)
    → i < 8
    → 8 * k + i < count
    → get_or bytes (8 * k + i) 0 ≡ words (from + k) / 2 ^ (8 * i) % 256
