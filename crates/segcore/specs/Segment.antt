-- The segments after a trace: who reads in them, the deadline of each,
-- and how often each was refilled.
use Rattle.std.specs.Prelude.{◌≢◌, ℕ, ◌+◌, ◌-◌, ◌==◌, ◌&&◌, ◌||◌, Bool, false, List, [], ◌∷◌, if◌then◌else◌}
use Rattle.segcore.specs.declared.event.Event.{Event}
use Rattle.segcore.specs.declared.event.Event.TheVariants.{Linked, Relinked, Entered, Left, Refilled}

-- how often a pass is in a segment
abbrev pub inside : List Event → ℕ → ℕ → ℕ
inside [] pass segment = 0
inside (Entered q s ∷ trace) pass segment =
    if (q == pass) && (s == segment)
    then inside trace pass segment + 1
    else inside trace pass segment
inside (Left q s ∷ trace) pass segment =
    if (q == pass) && (s == segment)
    then inside trace pass segment - 1
    else inside trace pass segment
inside (_ ∷ trace) pass segment = inside trace pass segment

-- how many readers a segment has
abbrev pub readers : List Event → ℕ → ℕ
readers [] segment = 0
readers (Entered q s ∷ trace) segment =
    if s == segment then readers trace segment + 1 else readers trace segment
readers (Left q s ∷ trace) segment =
    if s == segment then readers trace segment - 1 else readers trace segment
readers (_ ∷ trace) segment = readers trace segment

-- the deadline of a segment, which its last refilling set
abbrev pub deadline_of : List Event → ℕ → ℕ
deadline_of [] segment = 0
deadline_of (Refilled pass s deadline ∷ trace) segment =
    if s == segment then deadline else deadline_of trace segment
deadline_of (_ ∷ trace) segment = deadline_of trace segment

-- whether an item was ever linked in the segment, or moved there
abbrev pub was_used : List Event → ℕ → Bool
was_used [] segment = false
was_used (Linked pass request s row position ∷ trace) segment =
    (s == segment) || was_used trace segment
was_used (Relinked pass key from from_row s row position ∷ trace) segment =
    (s == segment) || was_used trace segment
was_used (_ ∷ trace) segment = was_used trace segment

-- how often the segment was refilled
abbrev pub refills : List Event → ℕ → ℕ
refills [] segment = 0
refills (Refilled pass s deadline ∷ trace) segment =
    if s == segment then refills trace segment + 1 else refills trace segment
refills (_ ∷ trace) segment = refills trace segment

-- no event refills the segment
abbrev pub NoneRefills : ℕ → List Event → Type 0
NoneRefills segment [] = Unit {0}
NoneRefills segment (event ∷ trace) =
    ((pass deadline : ℕ) → event ≢ Refilled pass segment deadline) × NoneRefills segment trace
