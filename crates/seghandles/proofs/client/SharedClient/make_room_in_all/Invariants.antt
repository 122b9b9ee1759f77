use Rattle.std.proofs.Common.{◌≡◌, Bool, List, drop, length, take}
use Rattle.segclient.specs.Puts.{MakesRoomFor}
use Rattle.segshards.specs.Each.{AllThree}
use Rattle.seghandles.specs.Guest as of_guest
use Rattle.seghandles.specs.Room.{all_true}
use Rattle.seghandles.proofs.client.SharedClient.make_room_in_all.Given as goal

abbrev pub invariant-loop-place : goal.invariant-loop-place
invariant-loop-place l =
    let old = l.fn.self.guests.items in
    let new = l.self.guests.items in
    (each : List Bool) × record {
      long : length new ≡ length old;
      rest : drop l.place new ≡ drop l.place old;
      made : AllThree (λ a was is. of_guest.MakesCall (of_guest.At l.now (MakesRoomFor a)) was is) each (take l.place old) (take l.place new);
      all : l.all ≡ all_true each;
      wants : l.self.wants ≡ l.fn.self.wants;
      holds : l.self.holds ≡ l.fn.self.holds;
    }
