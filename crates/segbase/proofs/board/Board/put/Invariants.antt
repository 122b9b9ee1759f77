use Rattle.segbase.proofs.board.Board.put.Given as goal

abbrev pub ghost-exchange_at : goal.ghost-exchange_at
ghost-exchange_at g a = g.step
