use Rattle.std.proofs.Common.{◌≡◌, drop, length, take}
use Rattle.std.specs.List.{AllZip}
use Rattle.segclient.specs.Client as of_one
use Rattle.segclient.specs.Member.{SetsTimeToLive}
use Rattle.segshards.proofs.client.Client.set_time_to_live.Given as goal

abbrev pub invariant-loop-place : goal.invariant-loop-place
invariant-loop-place l =
    let old = l.fn.self.shards.items in
    let new = l.self.shards.items in
    record {
      long : length new ≡ length old;
      rest : drop l.place new ≡ drop l.place old;
      made : AllZip (of_one.MakesCall (λ board. SetsTimeToLive l.time_to_live)) (take l.place old) (take l.place new);
      clock : l.self.clock ≡ l.fn.self.clock;
      holds : l.self.holds ≡ l.fn.self.holds;
    }
