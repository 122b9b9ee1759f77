-- Numbers in decimal digits.
use Rattle.std.specs.Prelude.{ℕ, ◌+◌, ◌-◌, ◌*◌, ◌==◌, ◌&&◌, List, [], ◌∷◌, length, nat_lt, Option, Some, None, if◌then◌else◌}
use Rattle.std.specs.Char.{is_ascii_digit}

-- the number below the limit that these digits write, behind digits that write the first number
abbrev pub number_from : ℕ → ℕ → List ℕ → Option ℕ
number_from limit number [] = Some number
number_from limit number (byte ∷ text) =
    if is_ascii_digit byte && nat_lt (number * 10 + (byte - 48)) limit
    then number_from limit (number * 10 + (byte - 48)) text
    else None

-- the number below the limit that these digits write
abbrev pub number_below : ℕ → List ℕ → Option ℕ
number_below limit text = if length text == 0 then None else number_from limit 0 text
