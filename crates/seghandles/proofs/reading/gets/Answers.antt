use Rattle.std.proofs.Common.{ℕ, refl}
use Rattle.seghandles.specs.declared.client.SharedClient.{SharedClient}
use Rattle.seghandles.specs.declared.kept.Kept.TheVariants as kept
use Rattle.seghandles.specs.declared.status.Status.{Status}
use Rattle.seghandles.specs.Exports.{Out}
use Rattle.seghandles.specs.Reading.{GotKeyVersion, WritesNoVersion}
use Rattle.seghandles.proofs.Answering.{by_client}
use Rattle.seghandles.proofs.reading.gets.Goals as goal

pub returns : goal.returns
returns c =
    let out : Out = (c.args.value.now, c.args.value_len.now) in
    let next : Out = (c.gets_key.new.value, c.gets_key.new.value_len) in
    let version : ℕ = c.args.version.now in
    let next_version : ℕ = c.gets_key.new.version in
    let R : Status → Type 0 = WritesNoVersion out next version next_version c.gets_key.result in
    let Keyed : SharedClient → SharedClient → Type 0 = GotKeyVersion c.args.key.now c.args.now out next version next_version c.gets_key.result in
    by_client R Keyed c.args.kept.now (kept.Client c.gets_key.new.client) c.in-Client.client c.gets_key.new.client c.in-Client.is refl c.gets_key.ensures
