-- What a line says, from what its reader answered.
use Rattle.std.proofs.Common.{◌≡◌, ℕ, List, Some, None, sym, ◌∙◌}
use Rattle.segscript.specs.Spelling.{PassTurn, IsSayable, spelling}
use Rattle.segscript.specs.Reading.{ReadsAs}

-- the line says the turn that was read
pub may_say : (line bytes : List ℕ) (passes there : ℕ) (said : PassTurn) → bytes ≡ line → there ≡ passes → ReadsAs (IsSayable there) spelling bytes (Some said)
    → IsSayable passes said × (line ≡ spelling said)
may_say line bytes passes there said same as_many read = (rw as_many at read.0, sym same ∙ read.1)

-- nothing was read
pub not_read : (line bytes : List ℕ) (passes there : ℕ) → bytes ≡ line → there ≡ passes → ReadsAs (IsSayable there) spelling bytes None
    → (said : PassTurn) → IsSayable passes said → line ≡ spelling said → ⊥
not_read line bytes passes there same as_many read said may spelled = read said (rw as_many may) (same ∙ spelled)
