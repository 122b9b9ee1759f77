use Rattle.segtests_surface.proofs.steps.link_moved.Given as goal

abbrev pub ghost-move_item : goal.ghost-move_item
ghost-move_item g a = g.named
