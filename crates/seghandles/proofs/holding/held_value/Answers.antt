use Rattle.std.proofs.Common.{refl}
use Rattle.seghandles.specs.declared.client.SharedClient.{SharedClient}
use Rattle.seghandles.specs.declared.kept.Kept.TheVariants as kept
use Rattle.seghandles.specs.declared.status.Status.{Status}
use Rattle.seghandles.specs.Exports.{Out, WritesNothing}
use Rattle.seghandles.specs.Reading.{MakesHeldRead}
use Rattle.seghandles.proofs.Answering.{by_client}
use Rattle.seghandles.proofs.Copied.{returns_held}
use Rattle.seghandles.proofs.holding.held_value.Goals as goal

pub returns : goal.returns
returns c =
    let out : Out = (c.args.value.now, c.args.value_len.now) in
    let next : Out = (c.held_into.new.bytes, c.tell_held.new.value_len) in
    let R : Status → Type 0 = WritesNothing out next c.tell_held.result in
    let Does : SharedClient → SharedClient → Type 0 = MakesHeldRead out next c.tell_held.result in
    let x = c.held_into.ensures in
    by_client R Does c.args.kept.now (kept.Client c.held_into.new.self) c.in-Client.client c.held_into.new.self c.in-Client.is refl
    (record { value = x.value; reads = x.reads; returns = returns_held x.value c.held_into.result c.tell_held.result out.0 next.0 out.1 next.1 x.copies c.tell_held.ensures })
