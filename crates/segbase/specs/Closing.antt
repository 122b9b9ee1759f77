-- The words of a board that was closed, and what had happened by then.
use Rattle.std.specs.Prelude.{◌≡◌, ℕ, ◌-◌, ◌*◌, ◌<◌, ◌≤◌, min, nat_lt, if◌then◌else◌, List, ◌++◌, Some, slice_get, slice_index}
use Rattle.std.specs.Slots.{slots_items}
use Rattle.segword.specs.Words.{IsValid, item_width, place_behind, row_behind}
use Rattle.segword.specs.Words.{row_width, Shape, span_of_header}
use Rattle.segcore.specs.declared.cell.Cell.TheVariants.{OfRow}
use Rattle.segcore.specs.Words.{address, Cell, Event, IsCell, IsLawful, Knows, NoneBy, word}
use Rattle.segbase.specs.declared.closing.Words.{Words}
use Rattle.segbase.specs.declared.board.Board.{Board}
use Rattle.segbase.specs.declared.pass.Pass.{Pass}
use Rattle.segbase.specs.Passes.{IsPassOf, number, trace, view}

abbrev pub shape_of : Words → Shape
shape_of words = words.shape

-- the word of a cell
abbrev pub word_of_cell : Words → Cell → ℕ
word_of_cell words cell = slice_index (slots_items words.closed.words) (address words.shape cell)

-- how many rows of the item that begins in a row lie in its segment
abbrev pub rows_there : Words → ℕ → ℕ → ℕ
rows_there words segment row =
    min (span_of_header (word_of_cell words (OfRow segment row 0))) ((shape_of words).rows - row)

-- the word at a place of the item that begins in a row; behind its rows is 0
abbrev pub word_on : Words → ℕ → ℕ → ℕ → ℕ
word_on words segment row place =
    if nat_lt place (row_width * rows_there words segment row)
    then word_of_cell words (OfRow segment (row_behind row place) (place_behind place))
    else 0

-- these are the words of a row, and of the rows behind it as far as its item goes on there
abbrev pub HasWordsOf : Words → ℕ → ℕ → List ℕ → Type 0
HasWordsOf words segment row found = (place : ℕ)
    → place < item_width
    → slice_index found place ≡ word_on words segment row place

-- each word is what the trace makes it
pub record IsAtRest (words : Words) (trace : List Event) : Type 0 where
  pub valid : IsValid (shape_of words)
  pub lawful : IsLawful (shape_of words) trace
  pub each : (cell : Cell)
      → IsCell (shape_of words) cell
      → word_of_cell words cell ≡ word (shape_of words) trace cell

-- All that had happened when the board was closed.
-- It goes on from what the pass has seen, by events of only other passes.
-- With only one pass, it is what that pass has seen.
pub record Closes (b : Board) (p : Pass) (words : Words) (last : List Event) : Type 0 where
  pub of : shape_of words ≡ b.shape
  pub rest : IsAtRest words last
  pub more : List Event
  pub goes_on : last ≡ more ++ trace p
  pub others : NoneBy (number p) more
  pub alone : b.shape.passes ≡ 1 → last ≡ trace p

-- each number below this one has its pass among these
abbrev pub HasEach : ℕ → List Pass → Type 0
HasEach count passes = (n : ℕ)
    → n < count
    → (place : ℕ) × (p : Pass) × (slice_get passes place ≡ Some p) × (number p ≡ n)

-- these are passes of the board, and all of them are there
pub record AreAll (b : Board) (passes : List Pass) : Type 0 where
  pub each : (place : ℕ) (p : Pass) → slice_get passes place ≡ Some p → IsPassOf b p
  pub all : HasEach b.shape.passes passes

-- One of the passes has seen all that had happened when the board was closed with all of them.
-- That goes on from what each pass has seen, by events of only other passes,
-- and no event is of a pass that isn't there.
pub record ClosesAll (b : Board) (passes : List Pass) (words : Words) : Type 0 where
  pub of : shape_of words ≡ b.shape
  pub place : ℕ
  pub last : Pass
  pub there : slice_get passes place ≡ Some last
  pub rest : IsAtRest words (trace last)
  pub each : (at : ℕ) (p : Pass)
      → slice_get passes at ≡ Some p
      → Knows (number p) (view p) (trace last)
  pub among : (n : ℕ) → b.shape.passes ≤ n → NoneBy n (trace last)
