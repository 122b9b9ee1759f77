-- Whether so many rows of a segment are left.
use Rattle.std.proofs.Common.{◌≡◌, ℕ, ◌+◌, ◌<◌, ◌≤◌, Bool, true, false, eqb, Some, ap, ◌∙◌}
use Rattle.std.specs.Prelude.{MatchBool, if◌then◌else◌}
use Rattle.std.proofs.lemmas.Bool.{le-leb, lt-ltb}
use Rattle.segword.specs.Words.{Shape}
use Rattle.segbase.specs.Words.{Board, Pass}
use Rattle.segstore.specs.Words.{are_left, is_below}
use Rattle.segevict.specs.Target.{AreNextIn, has_rows_in}

-- a segment whose next rows are known has as many left
below_or_left : (one : Bool) (z : Shape) (row rows : ℕ) → MatchBool one (row < z.rows) (row + rows ≤ z.rows)
    → (if one then is_below z.rows (Some row) else are_left rows z.rows (Some row)) ≡ true
below_or_left true z row rows fits = lt-ltb row z.rows fits
below_or_left false z row rows fits = le-leb (row + rows) z.rows fits

pub rows_there : (b : Board) (segment row rows : ℕ) (p : Pass) → AreNextIn b segment row rows p → has_rows_in b.shape segment rows p ≡ true
rows_there b segment row rows p next =
    ap (λ o. if eqb rows 1 then is_below b.shape.rows o else are_left rows b.shape.rows o) next.used
    ∙ below_or_left (eqb rows 1) b.shape row rows next.fits
