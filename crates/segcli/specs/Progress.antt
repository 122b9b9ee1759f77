-- What the program prints while a load runs.
use Rattle.std.specs.Prelude.{ℕ, ◌*◌, ◌/◌, max, List, [], ◌++◌, Option, Some, None, codes, decimal}

-- the text of how many commands are made in a second, if that is known
abbrev pub rate_text : Option ℕ → List ℕ
rate_text None = []
rate_text (Some rate) = codes ", " ++ decimal rate ++ codes " a second"

-- the line of a load that has made so many commands, of so many in all
abbrev pub progress_text : ℕ → ℕ → Option ℕ → List ℕ
progress_text made of rate =
    decimal made ++ codes " of " ++ decimal of ++ codes ", " ++ decimal (made * 100 / max 1 of) ++
    codes " %"
    ++ rate_text rate ++ codes "\n"

-- the line of a replay that has made so many commands
abbrev pub replay_line : ℕ → Option ℕ → List ℕ
replay_line made rate = decimal made ++ rate_text rate ++ codes "\n"
