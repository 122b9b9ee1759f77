use Rattle.std.specs.Prelude.{None}
use Rattle.segcore.specs.declared.event.Leaving.TheVariants.{Deletes}
use Rattle.segmodel.specs.Words.{key_of, moment_of}
use Rattle.segwrite.proofs.removal.remove.Given as goal

abbrev pub ghost-present_word : goal.ghost-present_word
ghost-present_word g a = key_of g.request

abbrev pub ghost-refuse : goal.ghost-refuse
ghost-refuse g a = g.request

abbrev pub ghost-clear : goal.ghost-clear
ghost-clear g a = (key_of g.request, Deletes (moment_of g.request))

abbrev pub ghost-release : goal.ghost-release
ghost-release g a = None
