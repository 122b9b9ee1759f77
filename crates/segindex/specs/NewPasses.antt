-- Laws of a new index and of its passes: what a caller needs of them, in place of how they are made.
-- Each is proved as the contract of a function in src/laws.rt.
use Rattle.std.specs.Prelude.{◌≡◌, ℕ, List, [], length, Some, None, slice_get}
use Rattle.segword.specs.Words.{IsValid, Shape}
use Rattle.segmodel.specs.declared.answer.SegState.TheVariants.{Empty}
use Rattle.segmodel.specs.Words.{owner}
use Rattle.segbase.specs.Words.{Board, current_of, holding, IsNewPass, locked, marked, mine, number}
use Rattle.segbase.specs.Words.{Pass, seen, state_of}
use Rattle.segstore.specs.Words.{IsQuiet}
use Rattle.segindex.specs.Index.{board_of, IsNew, shape_of}
use Rattle.segindex.specs.declared.index.Index.{Index}

-- `Is` holds of each new pass, with its number.
abbrev pub OfNewPass : (Board → ℕ → Pass → Type 0) → Type 0
OfNewPass Is = (b : Board) (n : ℕ) (p : Pass) → IsNewPass b n p → Is b n p

-- A new pass is quiet.
abbrev pub NewIsQuiet : Type 0
NewIsQuiet = OfNewPass (λ b n p. IsQuiet b p)

-- It has its number.
abbrev pub NewHasItsNumber : Type 0
NewHasItsNumber = OfNewPass (λ b n p. number p ≡ n)

-- It has seen nothing, with marks or without, and nothing is its own.
abbrev pub NewHasSeenNothing : Type 0
NewHasSeenNothing = OfNewPass (λ b n p. (marked p ≡ []) × (seen p ≡ []) × (mine p ≡ []))

-- Each segment of its own is empty.
abbrev pub NewHasEmptySegments : Type 0
NewHasEmptySegments = OfNewPass (λ b n p. (segment : ℕ)
    → owner b.shape segment ≡ n → state_of p segment ≡ Some Empty)

-- It stores into no segment, has no bucket locked, and holds no item.
abbrev pub NewHasNothing : Type 0
NewHasNothing =
    OfNewPass (λ b n p. (current_of p ≡ None) × (locked p ≡ None) × (holding p ≡ None))

-- `Is` holds of each new index, with its shape and its passes.
abbrev pub OfNewIndex : (Shape → Index → List Pass → Type 0) → Type 0
OfNewIndex Is = (shape : Shape) (index : Index) (passes : List Pass)
    → IsNew shape index passes → Is shape index passes

-- A new index has the shape, which is valid, and as many passes as the shape says.
abbrev pub NewHasItsShape : Type 0
NewHasItsShape = OfNewIndex (λ shape index passes.
    IsValid shape × (shape_of index ≡ shape) × (length passes ≡ shape.passes))

-- Each of its passes is new, and has its place for its number.
abbrev pub NewHasNewPasses : Type 0
NewHasNewPasses = OfNewIndex (λ shape index passes. (n : ℕ) (p : Pass)
    → slice_get passes n ≡ Some p → IsNewPass (board_of index) n p)
