-- All passes of a shard.
use Rattle.std.specs.Prelude.{◌≡◌, ◌==◌, ◌<◌, ℕ, true, List, slice_get, Some}
use Rattle.std.specs.List.{list_any}
use Rattle.std.specs.Coded.{×_prop, Π_prop}
use Rattle.std.proofs.Props.{props}
use Rattle.segbase.specs.Words.{Board, number, Pass}
use Rattle.segindex.specs.Words.{IsQuiet, IsQuiet-prop}

-- these are passes of the board between two calls, and there is one of each number
abbrev pub HasAll : Board → List Pass → Type 0
HasAll b passes =
    ((place : ℕ) (p : Pass) → slice_get passes place ≡ Some p → IsQuiet b p)
    × ((n : ℕ) → n < b.shape.passes → list_any (λ p. number p == n) passes ≡ true)

pub HasAll-prop : (b : Board) (passes : List Pass) → IsProp (HasAll b passes)
HasAll-prop b passes = ×_prop
    (Π_prop (λ place. Π_prop (λ p. Π_prop (λ at. IsQuiet-prop b p))))
    (Π_prop (λ n. Π_prop (λ below. hlevel props)))
