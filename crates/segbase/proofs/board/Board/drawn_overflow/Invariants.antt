use Rattle.segbase.specs.Steps.{counting}
use Rattle.segbase.proofs.board.Board.drawn_overflow.Given as goal

abbrev pub ghost-load_at : goal.ghost-load_at
ghost-load_at a = counting
