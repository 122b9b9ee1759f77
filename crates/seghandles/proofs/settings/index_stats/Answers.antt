use Rattle.std.proofs.Common.{◌≡◌, refl}
use Rattle.seghandles.specs.declared.client.SharedClient.{SharedClient}
use Rattle.seghandles.specs.declared.kept.Kept.TheVariants as kept
use Rattle.seghandles.specs.declared.status.Status.{Status}
use Rattle.seghandles.specs.declared.status.Status.TheVariants as status
use Rattle.seghandles.specs.Exports.{Returns}
use Rattle.segindex.specs.declared.table_stats.IndexStats.{IndexStats}
use Rattle.seghandles.specs.All.{ReturnsTables}
use Rattle.seghandles.specs.Setting.{table_of}
use Rattle.seghandles.proofs.Answering.{by_client}
use Rattle.seghandles.proofs.settings.index_stats.Goals as goal

pub returns : goal.returns
returns c =
    let R : Status → Type 0 = λ (why : Status). Returns status.Ok why × (table_of c.index_stats-stats.result ≡ c.args.counts.now) in
    let Does : SharedClient → SharedClient → Type 0 = λ (old new : SharedClient). (stats : IndexStats)
    × ReturnsTables stats old new × (table_of c.index_stats-stats.result ≡ table_of stats)
    × (status.Ok ≡ status.Ok) in
    by_client R Does c.args.kept.now (kept.Client c.index_stats-stats.new.self) c.in-Client.client c.index_stats-stats.new.self c.in-Client.is refl
    (c.index_stats-stats.result, c.index_stats-stats.ensures, refl, refl)
