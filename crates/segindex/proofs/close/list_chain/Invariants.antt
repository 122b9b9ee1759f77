use Rattle.std.proofs.Common.{◌+◌, ◌*◌, ◌≤◌, List}
use Rattle.std.specs.Vec.{vec_len}
use Rattle.segcore.specs.Words.{Event}
use Rattle.segbase.specs.Words.{IsAtRest}
use Rattle.segindex.specs.Closing.{IsBucketIn, IsCompact, IsListed}
use Rattle.segindex.proofs.close.list_chain.Given as goal

abbrev pub invariant-loop-depth : goal.invariant-loop-depth
invariant-loop-depth l = record {
  lists : (trace : List Event) → IsAtRest l.words trace → IsBucketIn l.words trace l.home l.depth l.bucket
      × (IsListed l.words trace l.home 1 l.fn.pairs.items → IsListed l.words trace l.home (8 * l.depth + 1) l.pairs.items);
  few : vec_len l.pairs ≤ vec_len l.fn.pairs + 7 * l.depth;
  room : IsCompact l.fn.pairs → IsCompact l.pairs;
}
