use Rattle.std.proofs.Common.{◌<◌, length, refl, arith}
use Rattle.seghandles.proofs.Held.{reads_held}
use Rattle.seghandles.proofs.client.SharedClient.held_into.Goals as goal

pub returns : goal.returns
returns c =
    let self = c.args.self.now in
    let place = c.in-Some.place in
    let held = self.held place c.in-Some.is in
    let have = self.guests.ok.0 in
    let below : place < length self.guests.items = omega (arith, held, have) in
    let x = c.held_into.ensures in record {
      value = x.value;
      reads = reads_held x.value self _ place c.index_mut-guest.result.now c.held_into.new.self c.in-Some.is below c.index_mut-guest.ensures.value x.reads refl refl refl;
      copies = x.copies;
    }
