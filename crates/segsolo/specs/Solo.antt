-- An index with its one pass as contracts see it: its shape,
-- and the state of the model that it is at.
use Rattle.segword.specs.Words.{Shape}
use Rattle.segmodel.specs.Words.{State}
use Rattle.segbase.specs.Words.{Board, Pass}
use Rattle.segsolo.specs.declared.solo.Solo.{Solo}
use Rattle.segsolo.specs.Alone.{state_at}

abbrev pub board_of : Solo → Board
board_of solo = solo.index.board

abbrev pub shape_of : Solo → Shape
shape_of solo = solo.index.board.shape

abbrev pub state_of : Solo → State
state_of solo = state_at solo.index.board.shape solo.pass

abbrev pub pass_of : Solo → Pass
pass_of solo = solo.pass
