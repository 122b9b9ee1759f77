use Rattle.std.proofs.Common.{subst}
use Rattle.segclient.specs.Puts.{Puts}
use Rattle.segclient.specs.Client.{MakesCall}
use Rattle.segclient.proofs.client.Client.put.Goals as goal

pub returns : goal.returns
returns c = record {
  puts = subst (λ v. MakesCall (Puts c.args.key.now v c.put_bytes.result) c.args.self.now c.put_bytes.new.self)
      c.of.ensures.value c.put_bytes.ensures.puts;
}
