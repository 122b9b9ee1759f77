use Rattle.std.proofs.Common.{subst}
use Rattle.segmodel.specs.declared.request.Request.TheVariants.{Replace}
use Rattle.segclient.specs.Made.{MakesWrite}
use Rattle.segclient.specs.Client.{MakesCall}
use Rattle.segclient.proofs.client.Client.replace.Goals as goal

pub returns : goal.returns
returns c = record {
  writes = subst (λ v. MakesCall (MakesWrite (Replace c.args.key.now v) c.write.result) c.args.self.now c.write.new.self)
      c.of.ensures.value c.write.ensures.writes;
}
