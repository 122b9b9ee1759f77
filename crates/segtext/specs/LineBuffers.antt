-- The line that has no end yet, and its next byte.
use Rattle.std.specs.Prelude.{◌≡◌, ◌≢◌, ℕ, ◌<◌, List, [], ◌∷◌, ◌++◌, length}
use Rattle.segtext.specs.declared.line_buffer.Taken.{Taken}
use Rattle.segtext.specs.declared.line_buffer.Taken.TheVariants as taken

-- what became of the next byte of a line of which at most so many bytes are kept
abbrev pub TakesByte : ℕ → ℕ → List ℕ → List ℕ → Taken → Type 0
TakesByte most byte old new taken.End = (byte ≡ 10) × (new ≡ old)
TakesByte most byte old new taken.Kept =
    (byte ≢ 10) × (length old < most) × (new ≡ old ++ byte ∷ [])
TakesByte most byte old new taken.NoRoom = (byte ≢ 10) × (length old ≡ most) × (new ≡ old)
