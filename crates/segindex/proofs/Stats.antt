-- The numbers that a pass sees of the table, by a look at the counter and one walk over its own rows.
use Rattle.std.proofs.Common.{◌≡◌, [], sym, ◌∙◌, arith}
use Rattle.segcore.specs.Words.{drawn_in}
use Rattle.segcore.proofs.Limits.{drawn_few}
use Rattle.segcore.proofs.Moments.{marked_begins}
use Rattle.segcore.proofs.Orderly.{all_drawn_marked}
use Rattle.segbase.specs.Words.{Board, HasStep, marked, Pass, trace}
use Rattle.segbase.proofs.Moves.{moved_on}
use Rattle.segbase.proofs.Starting.{starts_on}
use Rattle.segstore.specs.Words.{Idles, IsQuiet}
use Rattle.segwrite.proofs.Places.{idles_then}
use Rattle.segevict.specs.Words.{CountsRows}
use Rattle.segevict.proofs.Naming.{counts_before}
use Rattle.segindex.specs.declared.table_stats.IndexStats.{IndexStats}
use Rattle.segindex.specs.Stats.{ReturnsStats}
use Rattle.segindex.proofs.Meeting.{only_learns}

pub tells_stats : (b : Board) (told : IndexStats) (p f q : Pass) → IsQuiet b p → Idles b p f → HasStep p f
    → told.overflow_buckets ≡ drawn_in (trace f) → Idles b f q
    → CountsRows b.shape told.used_rows told.named_rows f q → ReturnsStats b told p q
tells_stats b told p f q quiet i first drawn j c =
    let k = idles_then b p f q i j in let few = drawn_few b.shape (trace f) i.moved.pass.lawful in record {
      only = only_learns b p q quiet k.moved k.plain k.memo;
      drawn = (
        first.0,
        starts_on p f q first.0 first.1 j.moved.steps,
        record {
          moment = marked f;
          from = marked_begins first.0 (trace f) first.1.until;
          to = marked_begins (trace f) (trace q) (moved_on b [] f q j.moved);
          drawn = all_drawn_marked (trace f) ∙ sym drawn;
        },
      );
      most = omega (arith, drawn, few);
      rows = counts_before b told.used_rows told.named_rows p f q i c;
    }
