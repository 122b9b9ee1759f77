use Rattle.segmodel.specs.declared.request.Request.TheVariants.{Delete}
use Rattle.segwrite.proofs.removal.delete.Given as goal

abbrev pub ghost-remove : goal.ghost-remove
ghost-remove a = Delete a.sought.now.key a.now
