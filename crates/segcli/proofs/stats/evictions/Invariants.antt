use Rattle.std.proofs.Common.{◌≡◌, ◌*◌, ◌^◌, ◌≤◌, take}
use Rattle.std.specs.List.{sum_by}
use Rattle.segload.specs.Words.{PassTotals}
use Rattle.segcli.proofs.stats.evictions.Given as goal

abbrev pub invariant-loop-pass : goal.invariant-loop-pass
invariant-loop-pass l = record {
  sum : l.evicted ≡ sum_by (λ (of : PassTotals). of.recycled.evictions) (take l.pass-index l.pass-items);
  fits : l.evicted ≤ l.pass-index * 2 ^ 64;
}
