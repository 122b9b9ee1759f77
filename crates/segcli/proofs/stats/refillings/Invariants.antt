use Rattle.std.proofs.Common.{◌≡◌, ◌*◌, ◌^◌, ◌≤◌, take}
use Rattle.std.specs.List.{sum_by}
use Rattle.segload.specs.Words.{PassTotals}
use Rattle.segcli.proofs.stats.refillings.Given as goal

abbrev pub invariant-loop-pass : goal.invariant-loop-pass
invariant-loop-pass l = record {
  sum : l.refilled ≡ sum_by (λ (of : PassTotals). of.recycled.refillings) (take l.pass-index l.pass-items);
  fits : l.refilled ≤ l.pass-index * 2 ^ 32;
}
