use Rattle.std.proofs.Common.{◌≡◌, refl}
use Rattle.seghandles.specs.declared.client.SharedClient.{SharedClient}
use Rattle.seghandles.specs.declared.kept.Kept.TheVariants as kept
use Rattle.seghandles.specs.declared.status.Status.{Status}
use Rattle.seghandles.specs.declared.status.Status.TheVariants as status
use Rattle.seghandles.specs.Exports.{Returns}
use Rattle.seghandles.specs.All.{EachMakes}
use Rattle.segclient.specs.Member.{SetsTimeToLive}
use Rattle.seghandles.proofs.Answering.{by_client}
use Rattle.seghandles.proofs.settings.set_time_to_live.Goals as goal

pub returns : goal.returns
returns c =
    let R : Status → Type 0 = Returns status.Ok in
    let Does : SharedClient → SharedClient → Type 0 = λ (old new : SharedClient). (status.Ok ≡ status.Ok) × EachMakes (λ b. SetsTimeToLive c.args.seconds) old new in
    by_client R Does c.args.kept.now (kept.Client c.set_time_to_live.new.self) c.in-Client.client c.set_time_to_live.new.self c.in-Client.is refl
    (refl, c.set_time_to_live.ensures)
