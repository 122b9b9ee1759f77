use Rattle.segtests_surface.proofs.steps.link_new.Given as goal

abbrev pub ghost-link : goal.ghost-link
ghost-link g a = g.request
