use Rattle.segwrite.proofs.writing.store.Given as goal

abbrev pub ghost-link : goal.ghost-link
ghost-link g a = g.request
