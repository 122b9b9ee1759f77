use Rattle.segtests_surface.proofs.steps.give_back.Given as goal

abbrev pub ghost-release : goal.ghost-release
ghost-release g a = g.said
