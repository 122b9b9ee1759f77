use Rattle.std.proofs.Common.{◌*◌, ◌≤◌, List}
use Rattle.std.specs.Vec.{vec_len}
use Rattle.segcore.specs.Words.{Event}
use Rattle.segbase.specs.Words.{IsAtRest}
use Rattle.segindex.specs.Closing.{IsCompact, IsListed}
use Rattle.segindex.proofs.close.list_pairs.Given as goal

abbrev pub invariant-loop-bucket : goal.invariant-loop-bucket
invariant-loop-bucket l = record {
  lists : (trace : List Event) → IsAtRest l.words trace → IsListed l.words trace l.bucket 1 l.pairs.items;
  few : vec_len l.pairs ≤ 28 * l.bucket;
  room : IsCompact l.pairs;
}
