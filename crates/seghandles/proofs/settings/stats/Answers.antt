use Rattle.std.proofs.Common.{◌≡◌, refl, ap}
use Rattle.seghandles.specs.declared.client.SharedClient.{SharedClient}
use Rattle.seghandles.specs.declared.kept.Kept.TheVariants as kept
use Rattle.seghandles.specs.declared.status.Status.{Status}
use Rattle.seghandles.specs.declared.status.Status.TheVariants as status
use Rattle.seghandles.specs.Exports.{Returns}
use Rattle.seghandles.specs.All.{stats_of}
use Rattle.seghandles.specs.Setting.{counts_of}
use Rattle.seghandles.proofs.Answering.{by_client}
use Rattle.seghandles.proofs.settings.stats.Goals as goal

pub returns : goal.returns
returns c =
    let R : Status → Type 0 = λ (why : Status). Returns status.Ok why × (counts_of c.stats-stats.result ≡ c.args.counts.now) in
    let Does : SharedClient → SharedClient → Type 0 = λ (old new : SharedClient). (counts_of c.stats-stats.result ≡ counts_of (stats_of old.guests.items)) × (new ≡ old) × (status.Ok ≡ status.Ok) in
    by_client R Does c.args.kept.now (kept.Client c.in-Client.client) c.in-Client.client c.in-Client.client c.in-Client.is refl
    (ap counts_of c.stats-stats.ensures, refl, refl)
