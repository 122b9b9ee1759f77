use Rattle.segevict.proofs.retention.try_to_relink.Given as goal

abbrev pub ghost-move_item : goal.ghost-move_item
ghost-move_item g a = g.named
