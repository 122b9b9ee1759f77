-- The frequency of an item is an approximate count of its hits in 8 bits, as Segcache keeps it. It is
-- exact while it is low. Then it is raised by chance, the more seldom the higher it is.
use Rattle.std.specs.Prelude.{ℕ, ◌+◌, ◌%◌, Bool, ◌&&◌, ◌||◌, ◌==◌, nat_lt, if◌then◌else◌}

-- whether a hit with this draw counts: below 16 always, from 16 to 254 if the frequency divides
-- the draw, and at 255 never
abbrev pub draw_raises : ℕ → ℕ → Bool
draw_raises frequency draw =
    nat_lt frequency 16 || (nat_lt frequency 255 && (draw % frequency == 0))

-- the frequency after a hit with this draw
abbrev pub frequency_after_hit : ℕ → ℕ → ℕ
frequency_after_hit frequency draw = if draw_raises frequency draw then frequency + 1 else frequency
