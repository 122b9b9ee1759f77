use Rattle.std.proofs.Common.{ℕ, ◌+◌, ◌*◌, ◌≤◌, List}
use Rattle.std.specs.Vec.{vec_len}
use Rattle.segcore.specs.Words.{Event}
use Rattle.segbase.specs.Words.{IsAtRest}
use Rattle.segindex.specs.Closing.{IsBucketIn, IsCompact, IsListed}
use Rattle.segindex.proofs.close.list_bucket.Given as goal

abbrev pub invariant-loop-word : goal.invariant-loop-word
invariant-loop-word l = record {
  lists : (trace : List Event) (home depth : ℕ) → IsAtRest l.words trace → IsBucketIn l.words trace home depth l.bucket
      → IsListed l.words trace home (8 * depth + 1) l.fn.pairs.items → IsListed l.words trace home (8 * depth + l.word) l.pairs.items;
  few : vec_len l.pairs + 1 ≤ vec_len l.fn.pairs + l.word;
  room : IsCompact l.fn.pairs → IsCompact l.pairs;
}
