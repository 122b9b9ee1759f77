-- What a handle owns: a box, if there is a value in it.
use mir.Syntax.{Ty}
use base.Fml.{Fml, ftrue, ffalse}
use denote.RattleType.{RattleType}
use denote.RawPtr.{Ptr}
use Rattle.std.specs.Prelude.{Bool, true, false, Option, Some, None}
use Rattle.std.specs.Box.Ownership.{box_owns}

abbrev pub owns_if : (Ty → Ptr → Fml) → (R : RattleType) → Ptr → Bool → Option R.Denot → Fml
owns_if token R at true (Some value) = box_owns token R at value
owns_if token R at true None = ffalse
owns_if token R at false (Some value) = ffalse
owns_if token R at false None = ftrue
