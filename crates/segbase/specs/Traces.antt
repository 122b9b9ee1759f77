-- The events of one pass among those of others, and where the pass is over them.
-- A trace has its newest event first.
use Rattle.std.specs.Prelude.{ℕ, ◌<◌, ◌==◌, List, [], ◌∷◌, ◌++◌, if◌then◌else◌}
use Rattle.segcore.specs.declared.event.Event.TheVariants.{Glanced, Bumped, Entered, Left}
use Rattle.segcore.specs.Words.{by, Event, inside}

-- the events of one pass
abbrev pub own_of : ℕ → List Event → List Event
own_of p [] = []
own_of p (e ∷ trace) = if by e == p then e ∷ own_of p trace else own_of p trace

-- Over these events of its own, which go on from the trace, the pass is in the segment all along:
-- before the first of them and after each.
abbrev pub StaysIn : List Event → List Event → ℕ → ℕ → Type 0
StaysIn [] trace p s = 0 < inside trace p s
StaysIn (e ∷ own) trace p s = (0 < inside (e ∷ (own ++ trace)) p s) × StaysIn own trace p s

-- a reader's events: it comes into segments and leaves them, finds bits set by a glance,
-- and raises frequencies
abbrev pub IsReaderEvent : Event → Type 0
IsReaderEvent (Glanced p b) = Unit {0}
IsReaderEvent (Bumped p s r f) = Unit {0}
IsReaderEvent (Entered p s) = Unit {0}
IsReaderEvent (Left p s) = Unit {0}
IsReaderEvent _ = ⊥

abbrev pub OnlyReads : List Event → Type 0
OnlyReads [] = Unit {0}
OnlyReads (e ∷ own) = IsReaderEvent e × OnlyReads own
