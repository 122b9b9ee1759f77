use Rattle.std.proofs.Common.{subst}
use Rattle.segmodel.specs.declared.request.Request.TheVariants.{Cas}
use Rattle.segclient.specs.Made.{MakesWrite}
use Rattle.segclient.specs.Client.{MakesCall}
use Rattle.segclient.proofs.client.Client.cas.Goals as goal

pub returns : goal.returns
returns c = record {
  writes = subst (λ v. MakesCall (MakesWrite (Cas c.args.key.now v c.args.expected) c.write.result) c.args.self.now c.write.new.self)
      c.of.ensures.value c.write.ensures.writes;
}
