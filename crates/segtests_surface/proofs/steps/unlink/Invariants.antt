use Rattle.segtests_surface.proofs.steps.unlink.Given as goal

abbrev pub ghost-clear : goal.ghost-clear
ghost-clear g a = g.left
