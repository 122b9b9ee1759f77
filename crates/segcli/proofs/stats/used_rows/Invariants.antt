use Rattle.std.proofs.Common.{◌≡◌, ◌*◌, ◌^◌, ◌≤◌, take}
use Rattle.std.specs.List.{sum_by}
use Rattle.segload.specs.Words.{PassTotals}
use Rattle.segcli.proofs.stats.used_rows.Given as goal

abbrev pub invariant-loop-pass : goal.invariant-loop-pass
invariant-loop-pass l = record {
  sum : l.used ≡ sum_by (λ (of : PassTotals). of.table.used_rows) (take l.pass-index l.pass-items);
  fits : l.used ≤ l.pass-index * 2 ^ 32;
}
