use Rattle.std.proofs.Common.{◌≡◌, ◌≤◌, drop, length, take, vec_len}
use Rattle.std.specs.Vec.{vec_capacity}
use Rattle.segshards.specs.Each.{AllThree}
use Rattle.segclient.specs.Made.{Notes}
use Rattle.seghandles.specs.Guest as of_guest
use Rattle.seghandles.proofs.client.SharedClient.note.Given as goal

abbrev pub invariant-loop-place : goal.invariant-loop-place
invariant-loop-place l =
    let old = l.fn.self.guests.items in
    let new = l.self.guests.items in
    record {
      len : vec_len l.notes ≡ l.place;
      room : length old ≤ vec_capacity l.notes;
      long : length new ≡ length old;
      rest : drop l.place new ≡ drop l.place old;
      made : AllThree (λ a was is. of_guest.MakesCall (Notes a) was is) l.notes.items (take l.place old) (take l.place new);
      wants : l.self.wants ≡ l.fn.self.wants;
      holds : l.self.holds ≡ l.fn.self.holds;
    }
