use Rattle.segbase.proofs.board.Board.load_at.Given as goal

abbrev pub ghost-load_index : goal.ghost-load_index
ghost-load_index g a = g.step
