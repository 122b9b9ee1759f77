-- The places of a cache for its passes.
use Rattle.std.specs.Prelude.{◌≡◌, ℕ, List, length, slice_get, Option, Some}
use native.Mathlib.Nat.{ℕ_set}
use Rattle.segbase.specs.Words.{number_of, Pass}
use Rattle.segindex.specs.Words.{board_of, Index, shape_of}
use Rattle.segstore.specs.Words.{IsQuiet, IsQuiet-prop}

-- there is one place for each pass, and a pass that is back stands in its own, between two calls
abbrev pub AreItsPlaces : Index → List (Option Pass) → Type 0
AreItsPlaces i places =
    (length places ≡ (shape_of i).passes)
    × ((n : ℕ) (p : Pass) → slice_get places n ≡ Some (Some p)
    → IsQuiet (board_of i) p × (number_of p ≡ n))

pub AreItsPlaces-prop : (i : Index) (places : List (Option Pass)) → IsProp (AreItsPlaces i places)
AreItsPlaces-prop i places = λ x y j. (
  ℕ_set (length places) (shape_of i).passes x.0 y.0 j,
  λ n p at. (
    IsQuiet-prop (board_of i) p (x.1 n p at).0 (y.1 n p at).0 j,
    ℕ_set (number_of p) n (x.1 n p at).1 (y.1 n p at).1 j,
  ),
)
