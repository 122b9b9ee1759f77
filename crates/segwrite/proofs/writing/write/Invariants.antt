use Rattle.segwrite.specs.Refusing.{request_of}
use Rattle.segwrite.proofs.writing.write.Given as goal

abbrev pub ghost-write_sought : goal.ghost-write_sought
ghost-write_sought a = request_of a.write.now.condition a.write.now.sought.key a.write.now.value.now a.write.now.clock
