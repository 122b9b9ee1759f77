use Rattle.std.proofs.Common.{subst}
use Rattle.segmodel.specs.declared.request.Request.TheVariants.{Set}
use Rattle.segclient.specs.Made.{MakesWrite}
use Rattle.segclient.specs.Client.{MakesCall}
use Rattle.segclient.proofs.client.Client.set.Goals as goal

pub returns-clause-writes : goal.returns-clause-writes
returns-clause-writes c =
    subst (λ v. MakesCall (MakesWrite (Set c.args.key.now v) c.write.result) c.args.self.now c.write.new.self)
    c.of.ensures.value c.write.ensures.writes
