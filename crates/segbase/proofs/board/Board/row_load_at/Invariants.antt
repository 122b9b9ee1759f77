use Rattle.segcore.specs.Words.{row_load}
use Rattle.segbase.specs.Spots.{segment_in, row_in, word_number_in}
use Rattle.segbase.proofs.board.Board.row_load_at.Given as goal

abbrev pub ghost-load_index : goal.ghost-load_index
ghost-load_index a = row_load (segment_in a.spot) (row_in a.spot) (word_number_in a.spot)
