use Rattle.segbase.proofs.board.Board.store_at.Given as goal

abbrev pub ghost-store_index : goal.ghost-store_index
ghost-store_index g a = g.step
