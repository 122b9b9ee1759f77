-- The ring of a pass's own segments.
use Rattle.std.specs.Prelude.{◌≡◌, ℕ, ◌*◌, ◌<◌}
use Rattle.std.proofs.Props.{props}
use Rattle.segword.specs.Words.{Shape}
use Rattle.segpolicy.specs.Words.{Cycle}

-- the ring has the segments of the pass, one of which is next
abbrev pub IsOwnRing : Shape → ℕ → Cycle → Type 0
IsOwnRing shape pass ring =
    (ring.first ≡ pass * shape.segments_each) × (ring.count ≡ shape.segments_each)
    × (ring.given < ring.count)

-- the ring as it begins: the pass's first segment is the first to be given up
abbrev pub first_ring : Shape → ℕ → Cycle
first_ring shape pass = record {
  first = pass * shape.segments_each;
  count = shape.segments_each;
  given = 0;
}

pub IsOwnRing-prop : (shape : Shape) (pass : ℕ) (ring : Cycle) → IsProp (IsOwnRing shape pass ring)
IsOwnRing-prop shape pass ring = hlevel props
