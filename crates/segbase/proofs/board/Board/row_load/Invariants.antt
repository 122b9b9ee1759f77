use Rattle.segcore.specs.Words.{row_load}
use Rattle.segbase.specs.Spots.{segment_in, row_in, word_number_in}
use Rattle.segbase.proofs.board.Board.row_load.Given as goal

abbrev pub ghost-load_at : goal.ghost-load_at
ghost-load_at a = row_load (segment_in a.spot) (row_in a.spot) (word_number_in a.spot)
