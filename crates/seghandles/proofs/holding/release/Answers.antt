use Rattle.std.proofs.Common.{◌≡◌, Bool, true, false, refl, subst}
use Rattle.seghandles.specs.declared.client.SharedClient.{SharedClient}
use Rattle.seghandles.specs.declared.kept.Kept.TheVariants as kept
use Rattle.seghandles.specs.declared.status.Status.{Status}
use Rattle.seghandles.specs.declared.status.Status.TheVariants as status
use Rattle.seghandles.specs.Exports.{Returns}
use Rattle.seghandles.specs.Holding.{Releases}
use Rattle.seghandles.specs.Reading.{release_status}
use Rattle.seghandles.proofs.Answering.{by_client}
use Rattle.seghandles.proofs.holding.release.Goals as goal

pub returns-then-release : goal.returns-then-release
returns-then-release c =
    let R : Status → Type 0 = Returns status.Ok in
    let Does : SharedClient → SharedClient → Type 0 = λ (old new : SharedClient). (ended : Bool) × Releases ended old new × (status.Ok ≡ release_status ended) in
    by_client R Does c.args.kept.now (kept.Client c.release.new.self) c.in-Client.client c.release.new.self c.in-Client.is refl
    (true, subst (λ (ended : Bool). Releases ended c.in-Client.client c.release.new.self) c.if-release.true c.release.ensures, refl)

pub returns-else-release : goal.returns-else-release
returns-else-release c =
    let R : Status → Type 0 = Returns status.NotHolding in
    let Does : SharedClient → SharedClient → Type 0 = λ (old new : SharedClient). (ended : Bool) × Releases ended old new × (status.NotHolding ≡ release_status ended) in
    by_client R Does c.args.kept.now (kept.Client c.release.new.self) c.in-Client.client c.release.new.self c.in-Client.is refl
    (false, subst (λ (ended : Bool). Releases ended c.in-Client.client c.release.new.self) c.if-release.false c.release.ensures, refl)
