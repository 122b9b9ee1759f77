use Rattle.segcore.specs.Words.{row_store}
use Rattle.segbase.specs.Spots.{segment_in, row_in, word_number_in}
use Rattle.segbase.proofs.board.Board.row_store.Given as goal

abbrev pub ghost-store_at : goal.ghost-store_at
ghost-store_at a = row_store (segment_in a.spot) (row_in a.spot) (word_number_in a.spot) a.word
