use Rattle.std.proofs.Common.{◌≡◌, drop, length, take}
use Rattle.std.specs.List.{AllZip}
use Rattle.seghandles.specs.Guest as of_guest
use Rattle.segclient.specs.Member.{SetsTimeToLive}
use Rattle.seghandles.proofs.client.SharedClient.set_time_to_live.Given as goal

abbrev pub invariant-loop-place : goal.invariant-loop-place
invariant-loop-place l =
    let old = l.fn.self.guests.items in
    let new = l.self.guests.items in
    record {
      long : length new ≡ length old;
      rest : drop l.place new ≡ drop l.place old;
      made : AllZip (of_guest.MakesCall (λ board. SetsTimeToLive l.seconds)) (take l.place old) (take l.place new);
      wants : l.self.wants ≡ l.fn.self.wants;
      holds : l.self.holds ≡ l.fn.self.holds;
    }
