use Rattle.std.proofs.Common.{◌≡◌, ◌*◌, ◌^◌, ◌≤◌, take}
use Rattle.std.specs.List.{sum_by}
use Rattle.segload.specs.Words.{PassTotals}
use Rattle.segload.proofs.totals.Totals.commands.Given as goal

abbrev pub invariant-loop-pass : goal.invariant-loop-pass
invariant-loop-pass l = record {
  sum : l.commands ≡ sum_by (λ (of : PassTotals). of.commands) (take l.pass-index l.self.passes.items);
  fits : l.commands ≤ l.pass-index * 2 ^ 32;
}
