use Rattle.std.proofs.Common.{◌≡◌, ◌*◌, ◌^◌, ◌≤◌, take}
use Rattle.std.specs.List.{sum_by}
use Rattle.segload.specs.Words.{PassTotals}
use Rattle.segcli.proofs.stats.full_buckets.Given as goal

abbrev pub invariant-loop-pass : goal.invariant-loop-pass
invariant-loop-pass l = record {
  sum : l.full ≡ sum_by (λ (of : PassTotals). of.tallies.bucket_full) (take l.pass-index l.pass-items);
  fits : l.full ≤ l.pass-index * 2 ^ 32;
}
