use Rattle.std.proofs.Common.{subst}
use Rattle.segmodel.specs.declared.request.Request.TheVariants.{Add}
use Rattle.segclient.specs.Made.{MakesWrite}
use Rattle.segshards.specs.Client.{MakesCall}
use Rattle.segshards.proofs.client.Client.add.Goals as goal

pub returns-clause-writes : goal.returns-clause-writes
returns-clause-writes c =
    subst (λ v. MakesCall c.args.key.now (MakesWrite (Add c.args.key.now v) c.write.result) c.args.self.now c.write.new.self)
    c.of.ensures.value c.write.ensures.writes
