-- Calls in the order of time. The law is proved as the contract of a function in src/laws.rt.
use Rattle.std.specs.Prelude.{◌≡◌, ℕ, List}
use Rattle.segword.specs.Words.{Shape}
use Rattle.segmodel.specs.Words.{Begins, Entry}
use Rattle.segcore.specs.Event as event
use Rattle.segcore.specs.Kind.{Step}
use Rattle.segcore.specs.World.{Reaches, ReachesOn, World}
use Rattle.segbase.specs.Words.{number, Pass, seen, SinceFirst, view}
use mathlib.Core.Option.{some}
use lib.ListN.{get_elem?}

-- One call left its pass as `earlier`, another leads from `p` to `q`, by any steps of any passes.
-- All steps of the one come before all steps of the other:
-- at a world between them the one has made all its steps, and the other none.
-- If the one is answered for the moment `one`, and the other for the moment `other`,
-- each at a point of its call, then `one` isn't later than `other`.
abbrev pub PointsAreInOrder : Type 0
PointsAreInOrder = (shape : Shape) (before after : List (ℕ × Step)) (between world : World)
    (earlier p q : Pass) (one other : List Entry)
    → Reaches shape before between
    → ReachesOn shape between after world
    → get_elem? between.views (number earlier) ≡ some (view earlier)
    → get_elem? between.views (number p) ≡ some (view p)
    → get_elem? world.views (number p) ≡ some (view q)
    → Begins one (seen earlier)
    → SinceFirst p q (λ start. Begins (event.seen start) other)
    → Begins one other
