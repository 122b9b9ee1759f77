-- An index as contracts see it.
use Rattle.std.specs.Prelude.{All, List}
use Rattle.segword.specs.Words.{longest, Shape}
use Rattle.segbase.specs.Words.{Board, IsMade, Pass}
use Rattle.segstore.specs.Words.{IsQuiet}
use Rattle.segindex.specs.declared.index.Index.{Index}

abbrev pub board_of : Index → Board
board_of index = index.board

abbrev pub shape_of : Index → Shape
shape_of index = index.board.shape

-- an index that was just created, and its passes in the order of their numbers,
-- which have seen nothing
pub record IsNew (shape : Shape) (index : Index) (passes : List Pass) : Type 0 where
  pub made : IsMade shape longest (board_of index) passes
  pub quiet : All (IsQuiet (board_of index)) passes
