-- The words of a table at the start.
use Rattle.std.specs.Prelude.{◌≡◌, ℕ, List, [], length, slice_index}
use Rattle.segword.specs.Words.{Shape, word_count}
use Rattle.segcore.specs.Words.{address, Cell, IsCell, word}

-- each word is what it is before any event
pub record IsOpened (shape : Shape) (words : List ℕ) : Type 0 where
  pub long : length words ≡ word_count shape
  pub each : (c : Cell) → IsCell shape c → slice_index words (address shape c) ≡ word shape [] c
