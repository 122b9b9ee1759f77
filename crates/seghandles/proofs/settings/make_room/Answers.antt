use Rattle.std.proofs.Common.{◌≡◌, Bool, true, false, refl, subst}
use Rattle.seghandles.specs.declared.client.SharedClient.{SharedClient}
use Rattle.seghandles.specs.declared.kept.Kept.TheVariants as kept
use Rattle.seghandles.specs.declared.status.Status.{Status}
use Rattle.seghandles.specs.declared.status.Status.TheVariants as status
use Rattle.seghandles.specs.Exports.{Returns}
use Rattle.seghandles.specs.Room.{MakesRoom}
use Rattle.seghandles.specs.Setting.{room_status}
use Rattle.seghandles.proofs.Answering.{by_client}
use Rattle.seghandles.proofs.settings.make_room.Goals as goal

pub returns-then-make_room : goal.returns-then-make_room
returns-then-make_room c =
    let R : Status → Type 0 = Returns status.Ok in
    let Does : SharedClient → SharedClient → Type 0 = λ (old new : SharedClient). (made : Bool) × MakesRoom c.args.now made old new × (status.Ok ≡ room_status made) in
    by_client R Does c.args.kept.now (kept.Client c.make_room.new.self) c.in-Client.client c.make_room.new.self c.in-Client.is refl
    (true, subst (λ (made : Bool). MakesRoom c.args.now made c.in-Client.client c.make_room.new.self) c.if-make_room.true c.make_room.ensures, refl)

pub returns-else-make_room : goal.returns-else-make_room
returns-else-make_room c =
    let R : Status → Type 0 = Returns status.NoRoom in
    let Does : SharedClient → SharedClient → Type 0 = λ (old new : SharedClient). (made : Bool) × MakesRoom c.args.now made old new × (status.NoRoom ≡ room_status made) in
    by_client R Does c.args.kept.now (kept.Client c.make_room.new.self) c.in-Client.client c.make_room.new.self c.in-Client.is refl
    (false, subst (λ (made : Bool). MakesRoom c.args.now made c.in-Client.client c.make_room.new.self) c.if-make_room.false c.make_room.ensures, refl)
