use Rattle.std.proofs.Common.{◌≡◌, drop, length, take}
use Rattle.segshards.specs.Noting.{MeetAll}
use Rattle.segshards.proofs.client.Client.meet.Given as goal

abbrev pub invariant-loop-place : goal.invariant-loop-place
invariant-loop-place l =
    let old = l.fn.self.shards.items in
    let new = l.self.shards.items in
    let other = l.fn.other.shards.items in
    let next = l.other.shards.items in
    record {
      long : length new ≡ length old;
      rest : drop l.place new ≡ drop l.place old;
      its_long : length next ≡ length other;
      its_rest : drop l.place next ≡ drop l.place other;
      met : MeetAll (take l.place old) (take l.place other) (take l.place new) (take l.place next);
      clock : l.self.clock ≡ l.fn.self.clock;
      holds : l.self.holds ≡ l.fn.self.holds;
      its_clock : l.other.clock ≡ l.fn.other.clock;
      its_holds : l.other.holds ≡ l.fn.other.holds;
    }
