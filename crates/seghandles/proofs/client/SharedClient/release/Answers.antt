use Rattle.std.proofs.Common.{◌<◌, length, refl, arith}
use Rattle.seghandles.proofs.Held.{ends_hold}
use Rattle.seghandles.proofs.client.SharedClient.release.Goals as goal

pub returns : goal.returns
returns c =
    let self = c.args.self.now in
    let place = c.in-Some.place in
    let held = self.held place c.in-Some.is in
    let have = self.guests.ok.0 in
    let below : place < length self.guests.items = omega (arith, held, have) in
    ends_hold c.release.result self _ place c.index_mut-guest.result.now c.release.new.self c.in-Some.is below
    c.index_mut-guest.ensures.value (c.release.ensures.ends, c.release.ensures.was_held) refl refl refl
