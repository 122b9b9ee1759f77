use Rattle.std.proofs.Common.{refl}
use Rattle.seghandles.specs.declared.client.SharedClient.{SharedClient}
use Rattle.seghandles.specs.declared.kept.Kept.TheVariants as kept
use Rattle.seghandles.specs.declared.status.Status.{Status}
use Rattle.seghandles.specs.Exports.{Out, WritesNothing}
use Rattle.seghandles.specs.Reading.{GotKey}
use Rattle.seghandles.proofs.Answering.{by_client}
use Rattle.seghandles.proofs.reading.get.Goals as goal

pub returns : goal.returns
returns c =
    let out : Out = (c.args.value.now, c.args.value_len.now) in
    let next : Out = (c.get_key.new.value, c.get_key.new.value_len) in
    let R : Status → Type 0 = WritesNothing out next c.get_key.result in
    let Keyed : SharedClient → SharedClient → Type 0 = GotKey c.args.key.now c.args.now out next c.get_key.result in
    by_client R Keyed c.args.kept.now (kept.Client c.get_key.new.client) c.in-Client.client c.get_key.new.client c.in-Client.is refl c.get_key.ensures
