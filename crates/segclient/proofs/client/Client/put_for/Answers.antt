use Rattle.std.proofs.Common.{subst}
use Rattle.segclient.specs.Puts.{PutsFor}
use Rattle.segclient.specs.Client.{MakesCall}
use Rattle.segclient.proofs.client.Client.put_for.Goals as goal

pub returns : goal.returns
returns c = record {
  puts = subst (λ v. MakesCall (PutsFor c.args.time_to_live c.args.key.now v c.put_bytes_for.result) c.args.self.now c.put_bytes_for.new.self)
      c.of.ensures.value c.put_bytes_for.ensures.puts;
}
