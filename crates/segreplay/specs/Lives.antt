-- The times to live of a trace's commands, and how much of them puts are given.
use Rattle.std.specs.Prelude.{ℕ, ◌-◌, ◌*◌, ◌/◌, ◌^◌, ◌==◌, ◌||◌, min, max, List, [], ◌∷◌, ◌++◌, length, if◌then◌else◌}
use Rattle.std.specs.List.{list_any}
use Rattle.segtraces.specs.declared.line.Operation.{Operation}
use Rattle.segtraces.specs.declared.line.Operation.TheVariants as verb
use Rattle.segreplay.specs.declared.player.Assignment.{Assignment}

-- ---- which there are

-- the list with this time to live behind it, unless it is there, or 64 others are
abbrev pub with_life : ℕ → List ℕ → List ℕ
with_life life lives =
    if length lives == 64 || list_any (λ seen. seen == life) lives then lives
    else lives ++ life ∷ []

-- and with that of a command: a delete puts nothing
abbrev pub with_life_of : Operation → ℕ → List ℕ → List ℕ
with_life_of verb.Get life lives = with_life life lives
with_life_of verb.Set life lives = with_life life lives
with_life_of verb.Delete life lives = lives

-- and with those of these commands
abbrev pub lives_after : List ℕ → List Assignment → List ℕ
lives_after lives [] = lives
lives_after lives (turn ∷ turns) =
    lives_after (with_life_of turn.request.verb turn.request.time_to_live lives) turns

-- how many different ones these commands have, or 64 if they have more
abbrev pub lives_of : List Assignment → ℕ
lives_of turns = length (lives_after [] turns)

-- ---- how much a put is given

-- what is put at this moment can live for this time, and no longer than the clock
abbrev pub asked_from : ℕ → ℕ → ℕ
asked_from moment time = min time (2 ^ 32 - 1 - moment)

-- The share of it that this deadline gives, in hundredths of a hundredth.
-- More than the whole counts as the whole.
abbrev pub share_given : ℕ → ℕ → ℕ → ℕ
share_given moment time deadline =
    min (deadline - moment) (asked_from moment time) * 10000 / max (asked_from moment time) 1
