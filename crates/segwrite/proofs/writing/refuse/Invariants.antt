use Rattle.std.specs.Prelude.{Some}
use Rattle.segwrite.specs.Refusing.{reply_now}
use Rattle.segwrite.proofs.writing.refuse.Given as goal

abbrev pub ghost-release : goal.ghost-release
ghost-release g a = Some (g.request, reply_now a.self.now a.pass.now g.request)
