use Rattle.std.proofs.Common.{◌≡◌, List, drop, length, map, take}
use Rattle.segindex.specs.declared.table_stats.IndexStats.{IndexStats}
use Rattle.segclient.specs.Client as of_one
use Rattle.segclient.specs.Made.{ReturnsTable}
use Rattle.segshards.specs.Clients.{seat_of}
use Rattle.segshards.specs.Each.{AllThree}
use Rattle.segshards.specs.Sums.{table_of}
use Rattle.segshards.proofs.client.Client.index_stats.Given as goal

abbrev pub invariant-loop-place : goal.invariant-loop-place
invariant-loop-place l =
    let old = l.fn.self.shards.items in
    let new = l.self.shards.items in
    (each : List IndexStats) × record {
      long : length new ≡ length old;
      rest : drop l.place new ≡ drop l.place old;
      made : AllThree (λ a was is. of_one.MakesCall (ReturnsTable a) was is) each (take l.place old) (take l.place new);
      sums : l.sum ≡ table_of each;
      same : map seat_of new ≡ map seat_of old;
      clock : l.self.clock ≡ l.fn.self.clock;
      holds : l.self.holds ≡ l.fn.self.holds;
    }
