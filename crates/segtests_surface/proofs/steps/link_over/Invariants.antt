use Rattle.segtests_surface.proofs.steps.link_over.Given as goal

abbrev pub ghost-replace : goal.ghost-replace
ghost-replace g a = g.request
