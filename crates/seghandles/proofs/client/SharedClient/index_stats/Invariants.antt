use Rattle.std.proofs.Common.{◌≡◌, List, drop, length, take}
use Rattle.segindex.specs.declared.table_stats.IndexStats.{IndexStats}
use Rattle.seghandles.specs.Guest as of_guest
use Rattle.segclient.specs.Made.{ReturnsTable}
use Rattle.segshards.specs.Each.{AllThree}
use Rattle.segshards.specs.Sums.{table_of}
use Rattle.seghandles.proofs.client.SharedClient.index_stats.Given as goal

abbrev pub invariant-loop-place : goal.invariant-loop-place
invariant-loop-place l =
    let old = l.fn.self.guests.items in
    let new = l.self.guests.items in
    (each : List IndexStats) × record {
      long : length new ≡ length old;
      rest : drop l.place new ≡ drop l.place old;
      made : AllThree (λ a was is. of_guest.MakesCall (ReturnsTable a) was is) each (take l.place old) (take l.place new);
      sums : l.sum ≡ table_of each;
      wants : l.self.wants ≡ l.fn.self.wants;
      holds : l.self.holds ≡ l.fn.self.holds;
    }
