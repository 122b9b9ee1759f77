use Rattle.std.proofs.Common.{◌≡◌, drop, length, take}
use Rattle.std.specs.List.{AllZip}
use Rattle.seghandles.specs.Guest as of_guest
use Rattle.segclient.specs.Member.{SetsCutoff}
use Rattle.seghandles.proofs.client.SharedClient.keep_from.Given as goal

abbrev pub invariant-loop-place : goal.invariant-loop-place
invariant-loop-place l =
    let old = l.fn.self.guests.items in
    let new = l.self.guests.items in
    record {
      long : length new ≡ length old;
      rest : drop l.place new ≡ drop l.place old;
      made : AllZip (of_guest.MakesCall (λ board. SetsCutoff l.cutoff)) (take l.place old) (take l.place new);
      wants : l.self.wants ≡ l.fn.self.wants;
      holds : l.self.holds ≡ l.fn.self.holds;
    }
