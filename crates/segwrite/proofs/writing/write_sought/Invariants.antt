use Rattle.std.specs.Prelude.{None}
use Rattle.segwrite.proofs.writing.write_sought.Given as goal

abbrev pub ghost-refusal : goal.ghost-refusal
ghost-refusal g a = g.request

abbrev pub ghost-refuse : goal.ghost-refuse
ghost-refuse g a = g.request

abbrev pub ghost-release : goal.ghost-release
ghost-release g a = None

abbrev pub ghost-store : goal.ghost-store
ghost-store g a = g.request
