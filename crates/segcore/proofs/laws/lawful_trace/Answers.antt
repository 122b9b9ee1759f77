use Rattle.segcore.proofs.Standing.{legal}
use Rattle.segcore.proofs.Marked.{placed, entries_marked, chained_marked}
use Rattle.segcore.proofs.Orderly.{orderly}
use Rattle.segcore.proofs.Exact.{says_of_keys}
use Rattle.segcore.proofs.Buckets.{says_of_buckets}
use Rattle.segcore.proofs.Segments.{says_of_segments}
use Rattle.segcore.proofs.laws.lawful_trace.Goals as goal

pub returns : goal.returns
returns c = record {
  legal = legal;
  placed = placed;
  orderly = orderly;
  unmarked = entries_marked;
  chained = chained_marked;
  keys = says_of_keys;
  buckets = says_of_buckets;
  segments = says_of_segments;
}
