use Rattle.std.proofs.Common.{◌≡◌, refl, subst}
use Rattle.seghandles.specs.declared.client.SharedClient.{SharedClient}
use Rattle.seghandles.specs.declared.kept.Kept.TheVariants as kept
use Rattle.seghandles.specs.declared.status.Status.{Status}
use Rattle.seghandles.specs.declared.status.Status.TheVariants as status
use Rattle.seghandles.specs.Exports.{Returns}
use Rattle.seghandles.specs.All.{EachMakes}
use Rattle.std.proofs.Common.{ℕ, Option}
use Rattle.segclient.specs.Member.{SetsCutoff}
use Rattle.seghandles.specs.Setting.{cutoff_of}
use Rattle.seghandles.proofs.Answering.{by_client}
use Rattle.seghandles.proofs.settings.keep_from.Goals as goal

pub returns : goal.returns
returns c =
    let R : Status → Type 0 = Returns status.Ok in
    let Does : SharedClient → SharedClient → Type 0 = λ (old new : SharedClient). (status.Ok ≡ status.Ok) × EachMakes (λ b. SetsCutoff (cutoff_of c.args.cutoff)) old new in
    by_client R Does c.args.kept.now (kept.Client c.keep_from.new.self) c.in-Client.client c.keep_from.new.self c.in-Client.is refl
    (refl, subst (λ (o : Option ℕ). EachMakes (λ b. SetsCutoff o) c.in-Client.client c.keep_from.new.self) c.cutoff_of.ensures c.keep_from.ensures)
