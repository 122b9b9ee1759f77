use Rattle.std.proofs.Common.{◌≡◌, ◌≤◌, drop, length, take}
use Rattle.std.specs.Vec.{vec_capacity, vec_len}
use Rattle.segclient.specs.Client as of_one
use Rattle.segclient.specs.Made as made
use Rattle.segshards.specs.Each.{AllThree}
use Rattle.segshards.proofs.client.Client.note.Given as goal

abbrev pub invariant-loop-place : goal.invariant-loop-place
invariant-loop-place l =
    let old = l.fn.self.shards.items in
    let new = l.self.shards.items in
    record {
      long : length new ≡ length old;
      rest : drop l.place new ≡ drop l.place old;
      count : vec_len l.each ≡ l.place;
      room : vec_len l.fn.self.shards ≤ vec_capacity l.each;
      noted : AllThree (λ a was is. of_one.MakesCall (made.Notes a) was is) l.each.items (take l.place old) (take l.place new);
      clock : l.self.clock ≡ l.fn.self.clock;
      holds : l.self.holds ≡ l.fn.self.holds;
    }
