use Rattle.std.proofs.Common.{◌≡◌, refl}
use Rattle.seghandles.specs.declared.kept.Kept.TheVariants as kept
use Rattle.seghandles.specs.declared.status.Status.TheVariants as status
use Rattle.seghandles.specs.Many.{InTurn, LooksUp}
use Rattle.seghandles.proofs.Answering.{by_client}
use Rattle.seghandles.proofs.many.get_many.Goals as goal

pub returns : goal.returns
returns c =
    let was = c.args.lookups.now in
    let is = c.look_up_all.new.lookups in
    by_client (λ why. (status.Ok ≡ why) × (is ≡ was)) (λ old new. (status.Ok ≡ status.Ok) × InTurn (LooksUp c.args.versioned c.args.keys.now c.args.now) was is old new)
    c.args.kept.now (kept.Client c.look_up_all.new.client) c.in-Client.client c.look_up_all.new.client c.in-Client.is refl (refl, c.look_up_all.ensures)
