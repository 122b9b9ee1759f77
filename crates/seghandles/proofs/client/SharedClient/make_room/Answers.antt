use Rattle.std.proofs.Common.{◌≡◌, ◌<◌, None, length, true, false, rules, refl, sym, ap, arith}
use Rattle.seghandles.specs.Room.{wants_after}
use Rattle.seghandles.proofs.Roomy.{makes_room_in, makes_room_in_all}
use Rattle.seghandles.proofs.client.SharedClient.make_room.Goals as goal

pub returns-in_default : goal.returns-in_default
returns-in_default c =
    let none : c.args.self.now.wants ≡ None = search rules in
    makes_room_in_all c.args.now c.make_room_in_all.result c.args.self.now c.make_room_in_all.new.self none c.make_room_in_all.ensures

pub returns-then-made : goal.returns-then-made
returns-then-made c =
    let self = c.args.self.now in
    let place = c.in-Some.place in
    let wanted = self.wanted place c.in-Some.is in
    let have = self.guests.ok.0 in
    let below : place < length self.guests.items = omega (arith, wanted, have) in
    let is : c.make_room-made.result ≡ true = search rules in
    makes_room_in c.args.now c.make_room-made.result self _ place c.index_mut-guest.result.now
    c.make_room-made.new.self c.in-Some.is below c.index_mut-guest.ensures.value c.make_room-made.ensures refl
    refl
    (ap (λ made. wants_after made self.wants) (sym is))

pub returns-else-made : goal.returns-else-made
returns-else-made c =
    let self = c.args.self.now in
    let place = c.in-Some.place in
    let wanted = self.wanted place c.in-Some.is in
    let have = self.guests.ok.0 in
    let below : place < length self.guests.items = omega (arith, wanted, have) in
    let is : c.make_room-made.result ≡ false = search rules in
    makes_room_in c.args.now c.make_room-made.result self _ place c.index_mut-guest.result.now
    c.make_room-made.new.self c.in-Some.is below c.index_mut-guest.ensures.value c.make_room-made.ensures refl
    refl
    (ap (λ made. wants_after made self.wants) (sym is))
