use Rattle.std.proofs.Common.{◌≡◌, refl}
use Rattle.seghandles.specs.declared.kept.Kept.TheVariants as kept
use Rattle.seghandles.specs.declared.status.Status.TheVariants as status
use Rattle.seghandles.specs.Many.{LooksForSome}
use Rattle.seghandles.proofs.Answering.{by_client}
use Rattle.seghandles.proofs.many.ahead_of.Goals as goal

pub returns : goal.returns
returns c =
    by_client (λ why. status.Ok ≡ why) (λ old new. (status.Ok ≡ status.Ok) × LooksForSome old new)
    c.args.kept.now (kept.Client c.look_ahead_at.new.client) c.in-Client.client c.look_ahead_at.new.client c.in-Client.is refl (refl, c.look_ahead_at.ensures)
